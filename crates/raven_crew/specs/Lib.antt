pub mod Outcomes
pub mod Beginnings
pub mod Refusals
pub mod Crews
