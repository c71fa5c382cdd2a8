pub mod Accumulate
pub mod Build
pub mod Linearize
pub mod Steps
