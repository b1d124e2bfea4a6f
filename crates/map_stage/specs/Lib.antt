pub mod LentView
pub mod HeldView
pub mod Reached
pub mod FieldView
pub mod MappedView
pub mod Words
