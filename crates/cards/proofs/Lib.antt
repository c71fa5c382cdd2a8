pub mod Lists
pub mod EachPlace
pub mod Carried
pub mod Lengths
pub mod Order
pub mod Restored
pub mod Worked
