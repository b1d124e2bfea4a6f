use Rattle.std.proofs.Common.{◌≡◌, List, ℕ, true, sym, subst}
use Rattle.spec_store.specs.Commit.{is_index_id}
use Rattle.raven_world.proofs.Openings.{index-boundary}
use Rattle.raven_world.proofs.opening.name_in.Goals as goal

pub range_from-requires : goal.range_from-requires
range_from-requires c = λ _. index-boundary c.as_str.result.now (subst (λ (id : List ℕ). is_index_id id ≡ true) (sym c.as_str.ensures.spelling) c.requires) c.as_str.utf8
