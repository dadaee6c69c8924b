pub mod Kinship
pub mod Made
pub mod Yielding
pub mod Nesting
pub mod Contexts
pub mod Walking
pub mod Files
