pub mod Asking
pub mod Collections
