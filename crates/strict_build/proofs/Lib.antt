pub mod Laws
pub mod StrictAgrees
pub mod StrictTotal
pub mod Worked
