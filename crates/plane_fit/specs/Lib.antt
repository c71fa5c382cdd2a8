pub mod Records
pub mod Fit
pub mod Steps
pub mod Parts
pub mod Calls
pub mod Axis
