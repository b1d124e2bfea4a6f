pub mod Stopping
pub mod Rules
pub mod ConditionRules
pub mod Clauses
pub mod Answering
