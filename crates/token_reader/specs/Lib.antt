pub mod Gives
pub mod Answers
