pub mod Registers
pub mod Seals
pub mod Tags
