pub mod Draws
pub mod Orders
pub mod Requests
pub mod Summary
pub mod Options
