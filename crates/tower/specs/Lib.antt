pub mod Tours
pub mod Towers
