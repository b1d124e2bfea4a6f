pub mod Bytes
pub mod Texts
pub mod Tokens
pub mod Marks
pub mod Passes
