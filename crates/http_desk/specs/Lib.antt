pub mod Standings
pub mod Answers
pub mod Chains
pub mod Keeping
pub mod ProgramSessions
pub mod Completeness
