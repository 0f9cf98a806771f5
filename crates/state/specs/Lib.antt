pub mod Limits
pub mod Names
pub mod Refusals
pub mod States
