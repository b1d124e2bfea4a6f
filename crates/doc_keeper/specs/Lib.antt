pub mod Form
pub mod Loading
pub mod Reading
