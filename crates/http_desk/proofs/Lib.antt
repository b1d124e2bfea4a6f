pub mod Kept
pub mod Looks
pub mod Asked
pub mod Chained
pub mod Ends
pub mod Completes
