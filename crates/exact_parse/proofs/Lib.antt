pub mod Keeping
pub mod Cuts
pub mod Loops
pub mod Meeting
pub mod Exact
