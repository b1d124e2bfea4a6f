pub mod Later
pub mod Keeping
pub mod Parts
pub mod Making
pub mod Few
pub mod Onwards
pub mod Lacking
pub mod Asking
