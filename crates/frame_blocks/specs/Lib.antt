pub mod Pulls
pub mod Frames
