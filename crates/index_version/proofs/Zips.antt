-- Two lists that a relation joins place by place.
use borrow.Author.Count.{below_more}
use Rattle.std.proofs.Common.{◌≡◌, ℕ, suc, ◌<◌, ◌+◌, List, [], ◌∷◌, length, arith, slice_index_or, slice_set, subst, sym}
use Rattle.std.proofs.lemmas.List.{get_or-set_same, get_or-set_other}
use Rattle.std.specs.List.{AllZip}

-- it holds at each place
pub zip_places : {X : Type 0} (R : X → X → Type 0) (before after : List X) → length after ≡ length before
    → ((i : ℕ) (d : X) → i < length before → R (slice_index_or before i d) (slice_index_or after i d)) → AllZip R before after
zip_places R [] [] same each = tt
zip_places R [] (b ∷ after) same each = absurd (omega (arith, same))
zip_places R (a ∷ before) [] same each = absurd (omega (arith, same))
zip_places R (a ∷ before) (b ∷ after) same each =
    (each 0 a (omega arith), zip_places R before after (omega (arith, same)) (λ i d within. each (suc i) d (omega (arith, within))))

-- it holds below k, and once the second has y there also at k
pub one_place_more : {X : Type 0} (R : X → X → Type 0) (before after : List X) (k : ℕ) (y : X) → k < length after
    → ((i : ℕ) (d : X) → i < k → R (slice_index_or before i d) (slice_index_or after i d)) → ((d : X) → R (slice_index_or before k d) y)
    → (i : ℕ) (d : X) → i < k + 1 → R (slice_index_or before i d) (slice_index_or (slice_set after k y) i d)
one_place_more R before after k y inside below at i d within =
    below_more (λ j. R (slice_index_or before j d) (slice_index_or (slice_set after k y) j d)) k
    (λ j h. subst (R (slice_index_or before j d)) (sym (get_or-set_other after k j y d (λ e. omega arith))) (below j d h))
    (subst (R (slice_index_or before k d)) (sym (get_or-set_same after k y d inside)) (at d))
    i within
