pub mod Card
pub mod Calls
pub mod Steps
