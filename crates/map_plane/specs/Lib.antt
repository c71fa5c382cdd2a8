pub mod Match
pub mod Linearize
pub mod Named
