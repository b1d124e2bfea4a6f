pub mod PairLemmas
pub mod Invoking
pub mod Lost
pub mod Truth
