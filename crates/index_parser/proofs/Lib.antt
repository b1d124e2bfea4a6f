pub mod Turning
pub mod Rules
