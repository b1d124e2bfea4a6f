pub mod Stable
pub mod Ranks
