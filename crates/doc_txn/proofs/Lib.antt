pub mod Pairs
pub mod RowTests
pub mod Fits
pub mod Taking
pub mod Depths
