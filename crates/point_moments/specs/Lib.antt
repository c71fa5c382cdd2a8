pub mod Moments
pub mod Scatter
pub mod Plane
pub mod Steps
