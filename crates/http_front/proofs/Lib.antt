pub mod ParameterLemmas
pub mod IndexLemmas
pub mod Asking
pub mod Utf8
pub mod Formed
pub mod Routed
pub mod Bodies
