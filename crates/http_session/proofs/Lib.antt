pub mod Responses
pub mod LastResponse
pub mod Runs
pub mod Moved
