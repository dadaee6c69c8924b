pub mod Search
pub mod Checks
