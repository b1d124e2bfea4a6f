pub mod EqualLemmas
pub mod FieldLemmas
pub mod WordLemmas
