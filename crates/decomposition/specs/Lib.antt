pub mod Axes
pub mod Gaps
