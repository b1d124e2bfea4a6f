-- Where the first line ends.
use Rattle.std.proofs.Common.{◌≡◌, ◌≢◌, ◌<◌, ◌-◌, ◌≤◌, ℕ, ◌+◌, suc, zero, List, [], ◌∷◌, length, get_or, take, drop, true, false, refl, ap, sym, ◌∙◌, arith, add-one, subst}
use Rattle.std.proofs.lemmas.Grind.{common_steps}
use Rattle.spec_server.specs.Lines.{lines, onto, begins_with}
use Rattle.raven_run.specs.LineEnds.{without_cr, IsFirstEnd}

-- without an end there is one line
one_more : (b : ℕ) (bs : List ℕ) → b ≢ 10 → begins_with 10 bs ≡ false → lines (b ∷ bs) ≡ onto b (lines bs)
one_more b bs f g = grind (arith, common_steps)

at_cr : (bs : List ℕ) → begins_with 10 bs ≡ true → lines (13 ∷ bs) ≡ lines bs
at_cr bs g = grind (arith, common_steps)

begins_otherwise : (b : ℕ) (bs : List ℕ) → b ≢ 10 → begins_with 10 (b ∷ bs) ≡ false
begins_otherwise b bs f = grind (arith, common_steps)

pub uncut : (b : ℕ) (bs : List ℕ) → ((k : ℕ) → k < length (b ∷ bs) → get_or (b ∷ bs) k 0 ≢ 10) → lines (b ∷ bs) ≡ (b ∷ bs) ∷ []
uncut b [] h = one_more b [] (h 0 (omega arith)) refl
uncut b (c ∷ bs) h =
    one_more b (c ∷ bs) (h 0 (omega arith)) (begins_otherwise c bs (h 1 (omega arith)))
    ∙ ap (onto b) (uncut c bs (λ k lt. h (suc k) (omega arith)))

-- the first line of what goes on with another byte, none of which is a LF
later : (b c : ℕ) (bs : List ℕ) (n : ℕ) → b ≢ 10 → c ≢ 10 → lines (c ∷ bs) ≡ without_cr (take (suc n) (c ∷ bs)) ∷ lines (drop (suc (suc n)) (c ∷ bs))
    → lines (b ∷ c ∷ bs) ≡ without_cr (take (suc (suc n)) (b ∷ c ∷ bs)) ∷ lines (drop (suc (suc (suc n))) (b ∷ c ∷ bs))
later b c bs n f g e = one_more b (c ∷ bs) f (begins_otherwise c bs g) ∙ ap (onto b) e

ended : (b : ℕ) (bs : List ℕ) → b ≡ 10 → lines (b ∷ bs) ≡ [] ∷ lines bs
ended b bs h = grind (arith, common_steps)

-- one byte before the LF
one : (b : ℕ) (bs : List ℕ) → b ≢ 10 → lines (b ∷ 10 ∷ bs) ≡ without_cr (b ∷ []) ∷ lines bs
one b bs f = grind (arith, common_steps)

pub cut_suc : (n : ℕ) (bs : List ℕ) → IsFirstEnd bs n → lines bs ≡ without_cr (take n bs) ∷ lines (drop (suc n) bs)
cut_suc n [] h = absurd (omega (arith, h.within))
cut_suc zero (b ∷ bs) h = ended b bs h.here
cut_suc (suc n) (b ∷ []) h = absurd (omega (arith, h.within))
cut_suc (suc zero) (b ∷ c ∷ bs) h = let P : ℕ → Type 0 = λ x. lines (b ∷ x ∷ bs) ≡ without_cr (b ∷ []) ∷ lines bs in subst P (sym h.here) (one b bs (h.before 0 (omega arith)))
cut_suc (suc (suc n)) (b ∷ c ∷ bs) h = later b c bs n (h.before 0 (omega arith)) (h.before 1 (omega arith)) (cut_suc (suc n) (c ∷ bs) (record { within = omega (arith, h.within); here = h.here; before = λ k lt. h.before (suc k) (omega arith) }))

pub cut : (n : ℕ) (bs : List ℕ) → IsFirstEnd bs n → lines bs ≡ without_cr (take n bs) ∷ lines (drop (n + 1) bs)
cut n bs h = rw add-one (cut_suc n bs h)

pub ruleset cuts = (uncut, cut)

cr_alone : (b : ℕ) → b ≡ 13 → [] ≡ without_cr (b ∷ [])
cr_alone b e = grind (arith, common_steps)

other_alone : (b : ℕ) → b ≢ 13 → b ∷ [] ≡ without_cr (b ∷ [])
other_alone b e = grind (arith, common_steps)

-- the last byte is a CR
with_cr_at : (n : ℕ) (s : List ℕ) → suc n ≡ length s → get_or s n 0 ≡ 13 → take n s ≡ without_cr s
with_cr_at n [] h e = absurd (omega arith)
with_cr_at zero (b ∷ []) h e = cr_alone b e
with_cr_at zero (b ∷ c ∷ s) h e = absurd (omega arith)
with_cr_at (suc n) (b ∷ []) h e = absurd (omega arith)
with_cr_at (suc n) (b ∷ c ∷ s) h e = ap (λ t. b ∷ t) (with_cr_at n (c ∷ s) (omega arith) e)

other_end_at : (n : ℕ) (s : List ℕ) → suc n ≡ length s → get_or s n 0 ≢ 13 → s ≡ without_cr s
other_end_at n [] h e = refl
other_end_at n (b ∷ []) h e = let z : n ≡ 0 = omega arith in let P : ℕ → Type 0 = λ m. get_or (b ∷ []) m 0 ≢ 13 in other_alone b (subst P z e)
other_end_at zero (b ∷ c ∷ s) h e = absurd (omega arith)
other_end_at (suc n) (b ∷ c ∷ s) h e = ap (λ t. b ∷ t) (other_end_at n (c ∷ s) (omega arith) e)

pub with_cr : (s : List ℕ) → 0 < length s → get_or s (length s - 1) 0 ≡ 13 → take (length s - 1) s ≡ without_cr s
with_cr s h e = with_cr_at (length s - 1) s (omega arith) e

pub other_end : (s : List ℕ) → 0 < length s → get_or s (length s - 1) 0 ≢ 13 → s ≡ without_cr s
other_end s h e = other_end_at (length s - 1) s (omega arith) e

pub no_end : (s : List ℕ) → length s ≤ 0 → s ≡ without_cr s
no_end [] h = refl
no_end (b ∷ s) h = absurd (omega arith)

pub ruleset ends = (with_cr, other_end, no_end)
