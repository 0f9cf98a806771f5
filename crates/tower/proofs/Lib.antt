pub mod Touring
pub mod Walking
pub mod Watching
