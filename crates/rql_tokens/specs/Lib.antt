pub mod KeyWords
pub mod Spelling
pub mod Tokens
pub mod Passes
pub mod Words
