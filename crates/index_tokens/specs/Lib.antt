pub mod Spelling
pub mod Tokens
pub mod Passes
pub mod Words
pub mod Reads
