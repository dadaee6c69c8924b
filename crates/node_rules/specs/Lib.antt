pub mod Violations
pub mod Tables
pub mod Scopes
pub mod Types
pub mod Rules
