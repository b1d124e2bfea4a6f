pub mod Clean
pub mod Listed
mod Picking
