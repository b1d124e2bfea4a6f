pub mod Keepers
pub mod Lived
pub mod Codes
pub mod Stepped
pub mod Publishing
pub mod Receipts
pub mod Lacking
