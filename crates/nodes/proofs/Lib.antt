pub mod Naming
pub mod Windows
