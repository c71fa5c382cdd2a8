pub mod SegmentLaws
pub mod Chain
