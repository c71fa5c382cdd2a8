pub mod Work
pub mod Book
pub mod Demand
