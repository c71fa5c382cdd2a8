pub mod Whole
pub mod Signs
pub mod Rounding
pub mod Tests
pub mod Laws
pub mod Exact
pub mod Worked
