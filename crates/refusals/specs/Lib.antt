pub mod Refusal
pub mod Number
