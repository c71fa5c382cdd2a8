pub mod FromPoints
pub mod Records
