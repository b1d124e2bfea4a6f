pub mod Ordered
pub mod Keeping
pub mod Untouched
pub mod Touching
pub mod TableLemmas
pub mod Taking
pub mod Meanings
pub mod Walking
pub mod Tallies
pub mod Words
mod Zips
pub mod GroupChanges
pub mod Reducing
mod Answering
mod Terming
mod FieldNames
mod EntryLemmas
pub mod Crossing
mod Several
