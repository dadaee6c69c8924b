pub mod Tables
pub mod Piles
pub mod Slips
