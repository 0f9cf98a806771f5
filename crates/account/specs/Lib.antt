pub mod Accounts
pub mod Sums
