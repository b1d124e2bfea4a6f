-- The best of the indexes that can answer a query, and the shape of a new one.
use Rattle.std.proofs.Common.{◌≡◌, ◌<◌, ◌≤◌, ◌-◌, ℕ, zero, suc, List, [], ◌∷◌, Bool, true, Option, Some, None, sym, ap, ◌∙◌, arith, length, drop, filter, get_or}
use Rattle.std.specs.Prelude.{if◌then◌else◌, option_map}
use Rattle.std.specs.List.{filter_map}
use Rattle.spec_store.specs.Store.{Store}
use Rattle.spec_index.specs.Optimiser.{Make, Shape, best, better, chosen, covers, pick, slot_shape}
use Rattle.spec_index.specs.World.{Slot}
use Rattle.auto_merge.specs.Widening.{widened_by}
use Rattle.auto_merge.proofs.Unions.{widened_by_slots}
use Rattle.query_optimizer.specs.ChoiceView.{slot_of}
use Rattle.query_optimizer.specs.declared.choice.Candidate.{Candidate}

at_one : (slots : List Slot) (i : ℕ) (s : Slot) → i < length slots → s ≡ get_or slots i s → drop i slots ≡ s ∷ drop (suc i) slots
at_one [] i s lt is = absurd (omega arith)
at_one (t ∷ slots) zero s lt is = ap (λ (s : Slot). s ∷ slots) (sym is)
at_one (t ∷ slots) (suc i) s lt is = at_one slots i s (omega arith) is

-- the best with the one before, which passes the test
pub one_better : (S : Store) (p : Slot → Bool) (slots : List Slot) (i : ℕ) (s : Slot) (found : Option Slot) (new : Slot) → 0 < i → i ≤ length slots → s ≡ get_or slots (i - 1) s
    → true ≡ p s → found ≡ best S (filter p (drop i slots)) → Some new ≡ better S s found → Some new ≡ best S (filter p (drop (i - 1) slots))
one_better S p slots i s found new some within is passes so_far wins =
    let next : suc (i - 1) ≡ i = omega (arith, some) in
    let at : drop (i - 1) slots ≡ s ∷ drop i slots = at_one slots (i - 1) s (omega (arith, some, within)) is ∙ ap (λ k. s ∷ drop k slots) next in
    wins ∙ ap (better S s) so_far ∙ ap (λ b. best S (if b then s ∷ filter p (drop i slots) else filter p (drop i slots))) passes
    ∙ ap (λ xs. best S (filter p xs)) (sym at)

-- if none can answer, a new index takes in the fields of the others
pub new_one : (S : Store) (shape : Shape) (slots : List Slot) (found : Option Candidate) (shapes : List Shape) (wide : Shape) → found ≡ None
    → option_map slot_of found ≡ best S (filter (λ s. covers (slot_shape s) shape) slots) → shapes ≡ filter_map slot_shape slots → wide ≡ widened_by shape shapes
    → Make wide ≡ pick shape S slots
new_one S shape slots found shapes wide none is_best all is_wide =
    ap (λ (s : Shape). Make s) (is_wide ∙ ap (widened_by shape) all ∙ widened_by_slots shape slots)
    ∙ ap (λ (f : Option Candidate). chosen shape slots (option_map slot_of f)) (sym none) ∙ ap (chosen shape slots) is_best
