pub mod Cells
pub mod Heaps
pub mod Orders
