pub mod Conserving
pub mod Summing
