pub mod Groups
pub mod Cells
pub mod Sums
pub mod Laws
pub mod Batch
