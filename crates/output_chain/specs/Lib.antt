pub mod Chains
pub mod Coins
pub mod Models
pub mod Pools
pub mod Laws
pub mod Reading
pub mod Steps
pub mod Spends
