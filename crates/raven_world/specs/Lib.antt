pub mod WorldView
pub mod Roomy
pub mod Transacts
pub mod Slotting
pub mod Kinds
pub mod Opened
pub mod Publishing
