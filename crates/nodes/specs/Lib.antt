pub mod Bytes
pub mod Kinds
pub mod Nodes
pub mod Fields
pub mod Tree
pub mod Shapes
