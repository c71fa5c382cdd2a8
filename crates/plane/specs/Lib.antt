pub mod Plane
pub mod Sigma
