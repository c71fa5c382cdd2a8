pub mod Parts
pub mod KeyLaws
pub mod NanPatterns
pub mod KeyOrder
pub mod OrderLaws
pub mod ThreeLaws
