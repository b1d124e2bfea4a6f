pub mod Bounds
pub mod Maps
pub mod Steps
pub mod Opening
