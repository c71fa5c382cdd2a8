pub mod Grid
pub mod Plan
pub mod Slices
