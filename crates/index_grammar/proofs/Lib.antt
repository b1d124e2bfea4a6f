pub mod ExpressionKeeps
pub mod Following
pub mod ExpressionMeets
pub mod MapKeeps
pub mod MapMeets
