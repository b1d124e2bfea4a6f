pub mod ReadBack
pub mod Cutting
pub mod Paging
pub mod Walking
pub mod OrderedPages
pub mod Finds
pub mod Wholes
mod Examples
