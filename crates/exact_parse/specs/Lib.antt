pub mod Steps
pub mod Limits
pub mod Keeps
pub mod Loops
pub mod Exact
pub mod Answers
