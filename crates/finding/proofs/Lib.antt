pub mod Lowest
pub mod Bools
