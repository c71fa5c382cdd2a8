pub mod Accumulating
