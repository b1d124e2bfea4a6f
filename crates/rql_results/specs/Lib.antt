pub mod Documents
pub mod Led
pub mod Rows
