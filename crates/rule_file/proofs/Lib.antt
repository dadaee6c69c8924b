pub mod Judging
pub mod Parts
pub mod Local
pub mod Sound
pub mod Cases
