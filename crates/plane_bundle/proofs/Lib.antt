pub mod Laws
pub mod Linearized
pub mod Worked
