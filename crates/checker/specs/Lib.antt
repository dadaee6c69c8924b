pub mod Kin
pub mod Checked
