pub mod Faults
pub mod Spots
pub mod Meanings
pub mod Calls
pub mod Values
pub mod Laws
