pub mod Form
pub mod Reopened
pub mod Upgraded
