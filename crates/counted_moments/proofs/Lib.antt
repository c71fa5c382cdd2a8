pub mod Pushes
pub mod Exact
pub mod Worked
