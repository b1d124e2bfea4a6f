pub mod RunLemmas
pub mod PrefixLemmas
pub mod TurnLemmas
pub mod WordLemmas
pub mod Taking
pub mod ReservedLemmas
