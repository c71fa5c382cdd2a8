pub mod Adding
pub mod Lanes
pub mod Products
pub mod Runs
