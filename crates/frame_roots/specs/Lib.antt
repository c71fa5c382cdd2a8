pub mod Roots
pub mod Batch
