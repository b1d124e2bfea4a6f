pub mod Pages
pub mod FoundView
pub mod Rows
