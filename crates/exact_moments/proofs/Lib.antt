pub mod Totals
pub mod Grid
pub mod Steps
pub mod MomentsExact
pub mod CutAnywhere
pub mod SlicesExact
pub mod BeyondBounds
pub mod Worked
