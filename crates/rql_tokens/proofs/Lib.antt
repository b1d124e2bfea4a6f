pub mod RunLemmas
pub mod NumberLemmas
pub mod QuoteLemmas
pub mod PrefixLemmas
pub mod WordLemmas
