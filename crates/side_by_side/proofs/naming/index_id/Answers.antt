use Rattle.std.proofs.Common.{◌++◌, ℕ, List, ◌∙◌, ap}
use Rattle.spec_data.specs.Faults.{fault_of}
use Rattle.spec_data.specs.Limits.{max_id}
use Rattle.side_by_side.proofs.Ids.{faultless-index_id}
use Rattle.side_by_side.proofs.naming.index_id.Goals as goal

pub memory_alone-requires : goal.memory_alone-requires
memory_alone-requires c =
    c.in-Err.ensures.refused
    ∙ ap (fault_of max_id) (c.as_str-2.ensures.value ∙ c.in_ok-push_str.ensures.bytes ∙ ap (λ (x : List ℕ). x ++ c.as_str.result.now) c.in_ok-text.ensures.ok)
    ∙ faultless-index_id c.as_str.result.now c.as_str.ensures.fit
