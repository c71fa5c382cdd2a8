pub mod Residuals
pub mod Places
pub mod Cells
pub mod Blocks
