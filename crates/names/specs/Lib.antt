pub mod Walk
pub mod Visit
pub mod Resolved
