pub mod Builds
pub mod Cards
pub mod Row
pub mod Laws
