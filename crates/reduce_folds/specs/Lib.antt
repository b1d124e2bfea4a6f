pub mod Cells
pub mod CellLaws
pub mod Exact
