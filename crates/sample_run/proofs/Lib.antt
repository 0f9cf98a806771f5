pub mod Playing
mod Sampling
