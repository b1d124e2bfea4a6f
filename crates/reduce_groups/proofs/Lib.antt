pub mod TreeLemmas
pub mod Grouping
pub mod RowLemmas
pub mod Crossing
