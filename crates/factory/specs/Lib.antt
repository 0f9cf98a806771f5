pub mod Extending
pub mod Factories
pub mod Laying
pub mod Extended
