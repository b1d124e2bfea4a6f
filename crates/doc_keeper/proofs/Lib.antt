pub mod FormLemmas
pub mod ReadLemmas
pub mod LoadLemmas
