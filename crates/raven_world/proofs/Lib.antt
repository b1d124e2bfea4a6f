pub mod Numbers
pub mod Batches
pub mod Names
pub mod Steps
pub mod Openings
pub mod Cleanings
pub mod Crossing
