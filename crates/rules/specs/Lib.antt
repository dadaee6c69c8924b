pub mod Violations
pub mod Tables
pub mod Scopes
pub mod Types
pub mod Rules
pub mod Shaped
pub mod Accepted
pub mod Worked
