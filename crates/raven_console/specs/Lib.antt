pub mod Invocations
pub mod ArgumentsView
pub mod Statuses
pub mod Truth
pub mod Ends
