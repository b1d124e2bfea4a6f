use Rattle.std.proofs.Common.{◌≡◌, drop}
use Rattle.index_lang.specs.Fields as spec
use Rattle.index_lang.proofs.members.gives_key.Given as goal

abbrev pub invariant-loop-part : goal.invariant-loop-part
invariant-loop-part l = spec.gives_key (drop l.part-index l.key) l.members ≡ spec.gives_key l.key l.members
