pub mod Counted
pub mod Doors
pub mod DoorMemory
