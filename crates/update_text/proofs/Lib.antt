mod Decimals
mod Runs
mod Reading
mod Placing
mod Writing
