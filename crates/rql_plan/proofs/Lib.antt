pub mod Joined
pub mod Groups
pub mod Plain
pub mod Refused
pub mod Columns
pub mod Shaped
pub mod Causes
