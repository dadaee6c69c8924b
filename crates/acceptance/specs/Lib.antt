pub mod Acceptance
pub mod Never
