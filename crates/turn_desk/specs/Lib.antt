pub mod Reading
pub mod Holding
pub mod Seated
pub mod Upkeep
