use Rattle.std.proofs.Common.{◌≡◌, drop, map}
use Rattle.std.specs.List.{list_any}
use Rattle.spec_store.specs.Commit.{is_server_member}
use Rattle.raven_value.specs.View.{pair_of}
use Rattle.doc_keeper.proofs.form.has_own.Given as goal

-- the rest decides
abbrev pub invariant-loop-member : goal.invariant-loop-member
invariant-loop-member l = list_any (λ m. is_server_member m.0) (map pair_of (drop l.member-index l.members)) ≡ list_any (λ m. is_server_member m.0) (map pair_of l.members)
