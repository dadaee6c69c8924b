pub mod Head
pub mod Items
pub mod Texts
pub mod Readers
pub mod Faults
