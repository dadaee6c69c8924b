pub mod Checked
pub mod Sound
