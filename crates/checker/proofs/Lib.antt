pub mod Kinship
pub mod Placing
pub mod Written
pub mod Judging
pub mod Telling
