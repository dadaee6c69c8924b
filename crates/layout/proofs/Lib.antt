pub mod Spanning
pub mod Splitting
