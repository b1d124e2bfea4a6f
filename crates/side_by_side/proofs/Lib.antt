pub mod Changing
pub mod Ids
pub mod Names
pub mod Rising
pub mod InOrder
pub mod Depths
pub mod Crossing
