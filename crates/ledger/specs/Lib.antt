pub mod Laws
pub mod Model
pub mod Phases
pub mod Roots
pub mod Rows
pub mod SetUps
pub mod Steps
