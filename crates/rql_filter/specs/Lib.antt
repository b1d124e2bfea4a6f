pub mod Entries
pub mod OneField
