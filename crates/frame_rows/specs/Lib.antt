pub mod Rows
pub mod Steps
pub mod Batch
pub mod Laws
