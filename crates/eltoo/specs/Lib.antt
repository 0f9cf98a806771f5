pub mod Lineage
pub mod Stations
pub mod Rounds
pub mod Steps
pub mod Runs
pub mod Safety
pub mod Lists
