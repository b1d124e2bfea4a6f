use Rattle.std.proofs.Common.{append_assoc}
use Rattle.std.proofs.lemmas.List.{append-nil}
use Rattle.raven_measure.proofs.summary.printed.Goals as goal

pub returns : goal.returns
returns c = simp (append_assoc, append-nil, c.in_ok-format.ensures.ok)
