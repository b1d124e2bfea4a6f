pub mod Named
pub mod Answers
