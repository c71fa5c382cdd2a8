pub mod Frame
pub mod Steps
pub mod Columns
