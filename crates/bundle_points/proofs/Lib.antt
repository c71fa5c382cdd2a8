pub mod Chunks
pub mod Laws
pub mod Finite
