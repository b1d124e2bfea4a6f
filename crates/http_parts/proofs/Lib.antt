pub mod Adding
pub mod Walk
pub mod Pages
pub mod Crossing
