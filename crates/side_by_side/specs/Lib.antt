pub mod Naming
pub mod Standing
pub mod Changes
pub mod Unread
