pub mod ReduceKeeps
pub mod ReduceMeets
