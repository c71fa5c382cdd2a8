pub mod Reasons
pub mod Calls
pub mod Accumulate
pub mod Linearize
