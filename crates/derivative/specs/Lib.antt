pub mod Action
pub mod Derivative
