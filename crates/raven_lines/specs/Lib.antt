pub mod SaysQuery
pub mod Lines
