pub mod Playing
pub mod Cases
pub mod Only
pub mod Begins
