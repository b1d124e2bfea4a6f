pub mod Operators
pub mod Expressions
pub mod Maps
pub mod Limits
pub mod ExpressionReading
pub mod MapReading
pub mod View
