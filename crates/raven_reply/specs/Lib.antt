pub mod ReplyView
pub mod Pieces
