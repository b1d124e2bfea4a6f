-- The parts of an index of several maps are found by name, one after another, and are walked over one after another.
use Rattle.std.proofs.Common.{◌≡◌, ◌<◌, ◌+◌, ◌-◌, ℕ, suc, List, [], ◌∷◌, ◌++◌, Some, None, ap, ◌∙◌, arith, append-nil, append_assoc, sym}
use Rattle.spec_index.specs.World.{Slot, serving}
use Rattle.spec_server.specs.Several.{part_name, parts_from, then_parts}

-- after so many parts the next is looked for
pub part-next : (most before : ℕ) (name : List ℕ) (slots : List Slot) → before < most
    → parts_from (most - before) (before + 1) name slots ≡ then_parts (serving slots (part_name name (before + 1))) (parts_from (most - (before + 1)) (before + 1 + 1) name slots)
part-next most before name slots lt = let less : most - before ≡ suc (most - (before + 1)) = omega arith in ap (λ k. parts_from k (before + 1) name slots) less

-- the part that was found is the next
pub part-found : (most before : ℕ) (name called : List ℕ) (slots found whole : List Slot) (s : Slot) → before < most → called ≡ part_name name (before + 1) → serving slots called ≡ Some s
    → found ++ parts_from (most - before) (before + 1) name slots ≡ whole → (found ++ s ∷ []) ++ parts_from (most - (before + 1)) (before + 1 + 1) name slots ≡ whole
part-found most before name called slots found whole s lt is at h =
    let rest = parts_from (most - (before + 1)) (before + 1 + 1) name slots in
    append_assoc found (s ∷ []) rest
    ∙ ap (λ o. found ++ then_parts o rest) (sym at ∙ ap (serving slots) is)
    ∙ ap (λ l. found ++ l) (sym (part-next most before name slots lt))
    ∙ h

-- where none is found there are no more
pub part-none : (most before : ℕ) (name called : List ℕ) (slots found whole : List Slot) → before < most → called ≡ part_name name (before + 1) → serving slots called ≡ None
    → found ++ parts_from (most - before) (before + 1) name slots ≡ whole → found ≡ whole
part-none most before name called slots found whole lt is at h =
    let rest = parts_from (most - (before + 1)) (before + 1 + 1) name slots in
    sym (append-nil found)
    ∙ ap (λ o. found ++ then_parts o rest) (sym at ∙ ap (serving slots) is)
    ∙ ap (λ l. found ++ l) (sym (part-next most before name slots lt))
    ∙ h

pub part-last : (most : ℕ) (name : List ℕ) (slots : List Slot) → parts_from (most - most) (most + 1) name slots ≡ []
part-last most name slots = let none : most - most ≡ 0 = omega arith in ap (λ k. parts_from k (most + 1) name slots) none

pub ruleset naming = (part-next, part-last)
