pub mod Shaped
pub mod Accepted
pub mod Worked
pub mod Typed
