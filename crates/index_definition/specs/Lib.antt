pub mod ShapeView
pub mod DefinitionView
pub mod RefusalView
pub mod Adding
pub mod Order
pub mod Reading
pub mod Rows
