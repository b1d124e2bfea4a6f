pub mod Refusal
pub mod PlaceView
pub mod Shown
pub mod ShownView
pub mod Whole
pub mod Openings
