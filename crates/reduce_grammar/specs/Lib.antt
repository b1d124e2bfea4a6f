pub mod Reduces
pub mod Limits
pub mod ReduceReading
