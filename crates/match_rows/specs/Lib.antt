pub mod Row
pub mod ByRows
