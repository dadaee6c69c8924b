pub mod Tabling
pub mod Accepting
