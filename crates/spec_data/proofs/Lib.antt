pub mod MemberLemmas
pub mod Clean
