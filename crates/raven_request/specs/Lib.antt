pub mod Lists
pub mod RequestView
pub mod RequestRead
pub mod Several
