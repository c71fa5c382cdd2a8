pub mod Transform
pub mod Reasons
