pub mod Copies
pub mod Holding
