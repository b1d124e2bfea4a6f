use Rattle.std.proofs.Common.{◌≡◌, drop}
use Rattle.std.specs.List.{list_any}
use Rattle.spec_index.specs.Reduces.{is_quotient}
use Rattle.index_lang.proofs.body.divides.Given as goal

abbrev pub invariant-loop-member : goal.invariant-loop-member
invariant-loop-member l = list_any (λ m. is_quotient m.value) (drop l.member-index l.members) ≡ list_any (λ m. is_quotient m.value) l.members
