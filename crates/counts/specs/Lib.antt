pub mod Whole
pub mod Saturation
pub mod Pushes
pub mod Near
