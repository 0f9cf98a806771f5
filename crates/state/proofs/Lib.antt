pub mod Accepting
pub mod Checking
pub mod Same
