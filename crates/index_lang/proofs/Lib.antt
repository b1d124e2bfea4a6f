pub mod Scans
pub mod Binding
pub mod GroupScans
pub mod Once
pub mod Forms
pub mod Texts
pub mod Alike
mod ReadPaths
mod Reducing
