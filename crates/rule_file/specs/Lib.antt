pub mod Verdict
pub mod WellFormed
pub mod Worked
