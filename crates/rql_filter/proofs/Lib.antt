pub mod Conditions
pub mod Sets
pub mod Counting
pub mod TestCounts
pub mod OneField
pub mod Values
