pub mod Routes
pub mod Pages
pub mod Parameters
pub mod Responses
