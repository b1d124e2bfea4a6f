pub mod KeyLaws
pub mod Cells
pub mod Groups
pub mod Trees
pub mod Together
