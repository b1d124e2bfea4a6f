pub mod WordLemmas
pub mod PumpLemmas
pub mod Asking
