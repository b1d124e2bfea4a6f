-- The members of an object, as they are listed.
use Rattle.spec_data.proofs.MemberLemmas.{pairs_of-entries_of}

pub ruleset pairs = (pairs_of-entries_of)
