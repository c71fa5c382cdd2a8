pub mod Calls
pub mod Fit
pub mod Given
pub mod Linearize
pub mod Steps
