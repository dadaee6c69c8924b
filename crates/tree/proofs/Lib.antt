pub mod Nesting
pub mod Filling
pub mod Families
pub mod Arranging
pub mod Completing
pub mod Walking
pub mod Searching
