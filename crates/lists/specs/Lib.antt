pub mod Part
pub mod Batch
