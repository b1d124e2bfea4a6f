use Rattle.raven_laws.proofs.SlotLemmas.{Fits-unread}
use Rattle.raven_laws.proofs.cleaning.unread_indexes_need_no_tombstones.Goals as goal

pub returns : goal.returns
returns c S N v s f zero = Fits-unread S N v f zero s
