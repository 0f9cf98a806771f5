pub mod Bases
pub mod Laying
pub mod Schemes
