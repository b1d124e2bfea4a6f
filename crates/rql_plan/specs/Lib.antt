pub mod Codes
pub mod Naming
pub mod RefusalView
pub mod Shapes
pub mod View
