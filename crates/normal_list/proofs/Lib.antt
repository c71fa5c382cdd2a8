pub mod Theorem
pub mod Ownership
pub mod Worked
