pub mod Spans
pub mod Walk
pub mod Runs
pub mod Children
