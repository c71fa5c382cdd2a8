pub mod Somewhere
pub mod Map
pub mod Target
pub mod TargetLaws
pub mod Calls
