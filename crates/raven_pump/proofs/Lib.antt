pub mod Waiting
pub mod Publishing
pub mod Steps
