use Rattle.std.proofs.Common.{inl, inr, arith}
use Rattle.raven_laws.proofs.IndexLemmas.{Agrees-later}
use Rattle.raven_laws.proofs.indexes.agreement_survives.Goals as goal

pub returns : goal.returns
returns c scope T S N e a l le way = Agrees-later scope T S N e a l le (elim way [ inl same ↦ inl (omega arith) | inr under ↦ inr under ])
