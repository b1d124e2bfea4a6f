mod Examples
pub mod NumberLemmas
pub mod DateLemmas
pub mod Reading
pub mod EntryLemmas
pub mod EqualEntries
