pub mod Printed
pub mod Moments
