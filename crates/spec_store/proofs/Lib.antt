pub mod TableLemmas
pub mod StoreLemmas
pub mod LaterLemmas
pub mod CommitLemmas
pub mod KeyedLemmas
pub mod StaleLemmas
pub mod CleanLemmas
pub mod KeepLemmas
