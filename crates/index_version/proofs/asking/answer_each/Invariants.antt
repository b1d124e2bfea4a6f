use Rattle.std.proofs.Common.{◌≡◌, ℕ, ◌<◌, ◌≤◌, length, slice_index_or}
use Rattle.std.specs.FinMap.{get}
use Rattle.index_version.specs.Asked.{IsAnswer}
use Rattle.index_version.specs.declared.asking.Asked.{Asked}
use Rattle.index_version.proofs.asking.answer_each.Given as goal

-- those so far are answered, and the others are as they were
abbrev pub invariant-loop-one : goal.invariant-loop-one
invariant-loop-one g l =
    (length l.one-items ≡ length l.initial.one-items)
    × ((i : ℕ) (a : Asked) → l.one-index ≤ i → slice_index_or l.one-items i a ≡ slice_index_or l.initial.one-items i a)
    × ((i : ℕ) (a : Asked) → i < l.one-index
    → IsAnswer (λ d. g.M.Mapper.meaning l.mapper d (get l.table)) (slice_index_or l.initial.one-items i a) (slice_index_or l.one-items i a))
