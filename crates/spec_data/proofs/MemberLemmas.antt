-- Members as a list; a value that is put keeps a list rising; and a list whose values are seen as others.
use Rattle.std.proofs.Common.{◌≡◌, ℕ, List, [], ◌∷◌, map, Ordering, Less, Equal, Greater, refl, ap, ◌∙◌}
use Rattle.std.proofs.lemmas.Cmp.{nat_list_cmp_total}
use Rattle.std.specs.Ordering.{match_ordering, ordering_reverse}
use Rattle.spec_data.specs.Data.{entries_of, pairs_of}
use Rattle.spec_data.specs.Folding.{key_cmp}
use Rattle.spec_data.specs.Rising.{Pairs, IsBelowAll, IsRising, put}

pub pairs_of-entries_of : (ms : Pairs) → pairs_of (entries_of ms) ≡ ms
pairs_of-entries_of [] = refl
pairs_of-entries_of (m ∷ ms) = ap (λ more. m ∷ more) (pairs_of-entries_of ms)

-- WHAT IS PUT

pub below_by : {A : Type 0} (j k : List ℕ) (ms : List (List ℕ × A)) → key_cmp j k ≡ Less → IsBelowAll k ms → IsBelowAll j ms
below_by j k [] h b = tt
below_by j k (m ∷ ms) h b = (nat_list_cmp_total.trans j k m.0 h b.0, below_by j k ms h b.1)

below_tied : {A : Type 0} (k l : List ℕ) (ms : List (List ℕ × A)) → key_cmp k l ≡ Equal → IsBelowAll l ms → IsBelowAll k ms
below_tied k l [] e b = tt
below_tied k l (m ∷ ms) e b = (nat_list_cmp_total.congr k l m.0 e ∙ b.0, below_tied k l ms e b.1)

below_at : {A : Type 0} (o : Ordering) (j k : List ℕ) (a : A) (m : List ℕ × A) (ms rest : List (List ℕ × A)) → key_cmp j k ≡ Less → IsBelowAll j (m ∷ ms)
    → IsBelowAll j rest → IsBelowAll j (match_ordering o ((k, a) ∷ m ∷ ms) ((k, a) ∷ ms) (m ∷ rest))
below_at Less j k a m ms rest h b r = (h, b)
below_at Equal j k a m ms rest h b r = (h, b.1)
below_at Greater j k a m ms rest h b r = (b.0, r)

below_put : {A : Type 0} (j k : List ℕ) (a : A) (ms : List (List ℕ × A)) → key_cmp j k ≡ Less → IsBelowAll j ms → IsBelowAll j (put k a ms)
below_put j k a [] h b = (h, tt)
below_put j k a (m ∷ ms) h b = below_at (key_cmp k m.0) j k a m ms (put k a ms) h b (below_put j k a ms h b.1)

rising_at : {A : Type 0} (o : Ordering) (k : List ℕ) (a : A) (m : List ℕ × A) (ms : List (List ℕ × A)) → key_cmp k m.0 ≡ o → IsRising (m ∷ ms)
    → IsRising (put k a ms) → IsRising (match_ordering o ((k, a) ∷ m ∷ ms) ((k, a) ∷ ms) (m ∷ put k a ms))
rising_at Less k a m ms e h r = ((e, below_by k m.0 ms e h.0), h)
rising_at Equal k a m ms e h r = (below_tied k m.0 ms e h.0, h.1)
rising_at Greater k a m ms e h r = (below_put m.0 k a ms (nat_list_cmp_total.antisymm m.0 k ∙ ap ordering_reverse e) h.0, r)

pub IsRising-put : {A : Type 0} (k : List ℕ) (a : A) (ms : List (List ℕ × A)) → IsRising ms → IsRising (put k a ms)
IsRising-put k a [] h = (tt, tt)
IsRising-put k a (m ∷ ms) h = rising_at (key_cmp k m.0) k a m ms refl h (IsRising-put k a ms h.1)

-- VALUES SEEN AS OTHERS, under the same names

abbrev pub seen : {A B : Type 0} → (A → B) → List (List ℕ × A) → List (List ℕ × B)
seen view ms = map (λ m. (m.0, view m.1)) ms

below_seen : {A B : Type 0} (view : A → B) (k : List ℕ) (ms : List (List ℕ × A)) → IsBelowAll k ms → IsBelowAll k (seen view ms)
below_seen view k [] h = tt
below_seen view k (m ∷ ms) h = (h.0, below_seen view k ms h.1)

below_unseen : {A B : Type 0} (view : A → B) (k : List ℕ) (ms : List (List ℕ × A)) → IsBelowAll k (seen view ms) → IsBelowAll k ms
below_unseen view k [] h = tt
below_unseen view k (m ∷ ms) h = (h.0, below_unseen view k ms h.1)

pub rising_seen : {A B : Type 0} (view : A → B) (ms : List (List ℕ × A)) → IsRising ms → IsRising (seen view ms)
rising_seen view [] h = tt
rising_seen view (m ∷ ms) h = (below_seen view m.0 ms h.0, rising_seen view ms h.1)

pub rising_unseen : {A B : Type 0} (view : A → B) (ms : List (List ℕ × A)) → IsRising (seen view ms) → IsRising ms
rising_unseen view [] h = tt
rising_unseen view (m ∷ ms) h = (below_unseen view m.0 ms h.0, rising_unseen view ms h.1)

put_at : {A B : Type 0} (view : A → B) (o : Ordering) (k : List ℕ) (a : A) (m : List ℕ × A) (ms rest : List (List ℕ × A)) (others : List (List ℕ × B)) → seen view rest ≡ others
    → seen view (match_ordering o ((k, a) ∷ m ∷ ms) ((k, a) ∷ ms) (m ∷ rest))
    ≡ match_ordering o ((k, view a) ∷ (m.0, view m.1) ∷ seen view ms) ((k, view a) ∷ seen view ms) ((m.0, view m.1) ∷ others)
put_at view Less k a m ms rest others e = refl
put_at view Equal k a m ms rest others e = refl
put_at view Greater k a m ms rest others e = ap (λ more. (m.0, view m.1) ∷ more) e

pub put_seen : {A B : Type 0} (view : A → B) (k : List ℕ) (a : A) (ms : List (List ℕ × A)) → seen view (put k a ms) ≡ put k (view a) (seen view ms)
put_seen view k a [] = refl
put_seen view k a (m ∷ ms) = put_at view (key_cmp k m.0) k a m ms (put k a ms) (put k (view a) (seen view ms)) (put_seen view k a ms)
