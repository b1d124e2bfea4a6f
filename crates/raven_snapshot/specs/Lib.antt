pub mod AnsweredView
pub mod Asked
