mod Filled
mod Posts
mod Settles
mod Views
mod Tallies
