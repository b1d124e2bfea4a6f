pub mod Print
pub mod Spellable
pub mod ReadBack
