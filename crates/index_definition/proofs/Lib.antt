pub mod Adding
pub mod Sameness
pub mod Joins
pub mod Placing
pub mod Crossing
