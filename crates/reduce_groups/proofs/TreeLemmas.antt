-- The trees of groups, as one of them changes.
use Rattle.std.proofs.Common.{◌≡◌, ℕ, zero, suc, ◌+◌, ◌-◌, ◌*◌, ◌^◌, ◌<◌, ◌≤◌, Bool, true, false, cond, Option, Some, None, List, [], ◌∷◌, length, refl, sym, ap, subst, inl, inr, ◌∙◌, arith}
use Rattle.std.specs.declared.cmp.Ordering.{Ordering}
use Rattle.std.specs.declared.cmp.Ordering.TheVariants.{Less, Equal, Greater}
use Rattle.std.specs.Ordering.{match_ordering, is_eq}
use Rattle.std.specs.Cmp.{IsTotalOrder}
use Rattle.std.specs.Map.{lookup, remove_entry}
use Rattle.std.specs.BTreeMap.{is_at, insert_entry}
use Rattle.std.proofs.lemmas.Bool.{ltb-true, ltb-false}
use Rattle.std.proofs.Math.Dec.{ltb}
use Rattle.raven_base.specs.Counts.{Counts}
use Rattle.paged_map.specs.Merges.{MergesAtMost}
use Rattle.paged_map.specs.Pairs.{IsRising}
use Rattle.paged_map.proofs.Laws.{lookup-insert_entry, lookup-remove_entry, lookup_removed}
use Rattle.reduce_tree.specs.Tree.{Tree, IsFilledTree}
use Rattle.reduce_groups.specs.Groups.{AreBeside, AreSound, AllLevels, AllSmall, IsLow, entries_of_tree, levels_of_tree, entries_at, levels_at}

some_entries : {F K E : Type 0} (b : Bool) (t : Tree F K E) (o : Option (Tree F K E)) → entries_of_tree (cond b (Some t) o) ≡ cond b t.entries (entries_of_tree o)
some_entries true t o = refl
some_entries false t o = refl

none_entries : {F K E : Type 0} (b : Bool) (o : Option (Tree F K E)) → entries_of_tree (cond b None o) ≡ cond b [] (entries_of_tree o)
none_entries true o = refl
none_entries false o = refl

pub some_from : {A : Type 0} (xs : List A) → (xs ≡ [] → ⊥) → 0 < length xs
some_from [] h = absurd (h refl)
some_from (x ∷ xs) h = omega arith

pub some_inserted : {K V : Type 0} (R : K → K → Ordering) (k : K) (v : V) (es : List (K × V)) → 0 < length (insert_entry R es k v)
some_inserted R k v [] = omega arith
some_inserted R k v (e ∷ es) = by (R k e.0)
  where
    by : (r : Ordering) → 0 < length (match_ordering r ((k, v) ∷ e ∷ es) ((e.0, v) ∷ es) (e ∷ insert_entry R es k v))
    by Less = omega arith
    by Equal = omega arith
    by Greater = omega arith

pub some_before : {K V : Type 0} (p : K → Bool) (es : List (K × V)) → 0 < length (remove_entry p es) → 0 < length es
some_before p [] s = s
some_before p (e ∷ es) s = omega arith

pub at_most : {a b : Counts} {m : ℕ} (n : ℕ) → MergesAtMost m a b → m ≤ n → MergesAtMost n a b
at_most n h l = record { merges = omega (arith, h.merges, l) }

module _ {F G K E : Type 0} where
  -- a tree that is found is one of them
  pub sound_found : (p : G → Bool) (f : F) (ts : List (G × Tree F K E)) (t : Tree F K E) → AreSound f ts → Some t ≡ lookup p ts → t.fold ≡ f
  sound_found p f [] t s e = absurd (cc e)
  sound_found p f (x ∷ ts) t s e = by (p x.0) (sound_found p f ts t s.1) e
    where
      by : (b : Bool) → (Some t ≡ lookup p ts → t.fold ≡ f) → Some t ≡ cond b (Some x.1) (lookup p ts) → t.fold ≡ f
      by true h e = let same : t ≡ x.1 = cc e in ap (λ y. y.fold) same ∙ s.0.0
      by false h e = h e

  module _ (R : G → G → Ordering) (o : IsTotalOrder R) where
    pub entries_inserted : (q g : G) (t : Tree F K E) (ts : List (G × Tree F K E)) → entries_at R q (insert_entry R ts g t) ≡ cond (is_eq (R q g)) t.entries (entries_at R q ts)
    entries_inserted q g t ts = ap entries_of_tree (lookup-insert_entry R o q g t ts) ∙ some_entries (is_eq (R q g)) t (lookup (is_at (R q)) ts)

    pub entries_removed : (q g : G) (ts : List (G × Tree F K E)) → IsRising R ts → entries_at R q (remove_entry (is_at (R g)) ts) ≡ cond (is_eq (R q g)) [] (entries_at R q ts)
    entries_removed q g ts s = ap entries_of_tree (lookup-remove_entry R o q g ts s) ∙ none_entries (is_eq (R q g)) (lookup (is_at (R q)) ts)

    -- a tree that is put back where one was taken out stands in its place
    pub put_back : (q g : G) (es : List (K × E)) (ts : List (G × Tree F K E)) → IsRising R ts →
        cond (is_eq (R q g)) es (entries_at R q (remove_entry (is_at (R g)) ts)) ≡ cond (is_eq (R q g)) es (entries_at R q ts)
    put_back q g es ts s = ap (cond (is_eq (R q g)) es) (entries_removed q g ts s) ∙ once (is_eq (R q g))
      where
        once : (b : Bool) → cond b es (cond b [] (entries_at R q ts)) ≡ cond b es (entries_at R q ts)
        once true = refl
        once false = refl

    -- keys that are alike find the same
    lookup_alike : (q g : G) → R q g ≡ Equal → (ts : List (G × Tree F K E)) → lookup (is_at (R q)) ts ≡ lookup (is_at (R g)) ts
    lookup_alike q g e [] = refl
    lookup_alike q g e (p ∷ ts) = ap (λ r. cond (is_eq r) (Some p.1) (lookup (is_at (R q)) ts)) (o.congr q g p.0 e) ∙ ap (cond (is_eq (R g p.0)) (Some p.1)) (lookup_alike q g e ts)

    -- a change of one group, told for all groups
    pub told_for_all : (change : List (K × E) → List (K × E)) (q g : G) (ts : List (G × Tree F K E)) →
        cond (is_eq (R q g)) (change (entries_at R g ts)) (entries_at R q ts) ≡ cond (is_eq (R q g)) (change (entries_at R q ts)) (entries_at R q ts)
    told_for_all change q g ts =
        elim (R q g) as (λ r. R q g ≡ r → cond (is_eq r) (change (entries_at R g ts)) (entries_at R q ts) ≡ cond (is_eq r) (change (entries_at R q ts)) (entries_at R q ts)) [
          | Less ↦ λ e. refl
          | Equal ↦ λ e. ap (λ l. change (entries_of_tree l)) (sym (lookup_alike q g e ts))
          | Greater ↦ λ e. refl
        ] refl

  module _ (R : G → G → Ordering) (f : F) (g : G) (t : Tree F K E) where
    pub sound_inserted : (ts : List (G × Tree F K E)) → AreSound f ts → t.fold ≡ f → 0 < length t.entries → IsFilledTree t → length t.entries < 2 ^ 64 → AreSound f (insert_entry R ts g t)
    sound_inserted [] s a b c d = ((a, b, c, d), tt)
    sound_inserted (p ∷ ts) s a b c d = by (sound_inserted ts s.1 a b c d) (R g p.0)
      where
        by : AreSound f (insert_entry R ts g t) → (r : Ordering) → AreSound f (match_ordering r ((g, t) ∷ p ∷ ts) ((p.0, t) ∷ ts) (p ∷ insert_entry R ts g t))
        by h Less = ((a, b, c, d), (s.0, s.1))
        by h Equal = ((a, b, c, d), s.1)
        by h Greater = (s.0, h)

    pub low_inserted : (h : ℕ) (ts : List (G × Tree F K E)) → t.levels ≤ h → AllLevels h ts → AllLevels h (insert_entry R ts g t)
    low_inserted h [] l a = (l, tt)
    low_inserted h (p ∷ ts) l a = by (low_inserted h ts l a.1) (R g p.0)
      where
        by : AllLevels h (insert_entry R ts g t) → (r : Ordering) → AllLevels h (match_ordering r ((g, t) ∷ p ∷ ts) ((p.0, t) ∷ ts) (p ∷ insert_entry R ts g t))
        by i Less = (l, (a.0, a.1))
        by i Equal = (l, a.1)
        by i Greater = (a.0, i)

    pub low_before : (h : ℕ) (ts : List (G × Tree F K E)) → AllLevels h (insert_entry R ts g t) → (t.levels ≤ h) × (IsLow h (lookup (is_at (R g)) ts) → AllLevels h ts)
    low_before h [] a = (a.0, λ l. tt)
    low_before h (p ∷ ts) a = by (low_before h ts) (R g p.0) a
      where
        by : (AllLevels h (insert_entry R ts g t) → (t.levels ≤ h) × (IsLow h (lookup (is_at (R g)) ts) → AllLevels h ts)) → (r : Ordering) → AllLevels h (match_ordering r ((g, t) ∷ p ∷ ts) ((p.0, t) ∷ ts) (p ∷ insert_entry R ts g t)) →
            (t.levels ≤ h) × (IsLow h (cond (is_eq r) (Some p.1) (lookup (is_at (R g)) ts)) → AllLevels h (p ∷ ts))
        by i Less a = (a.0, λ l. (a.1.0, a.1.1))
        by i Equal a = (a.0, λ l. (l, a.1))
        by i Greater a = let x = i a.1 in (x.0, λ l. (a.0, x.1 l))

  module _ (p : G → Bool) where
    pub sound_removed : (f : F) (ts : List (G × Tree F K E)) → AreSound f ts → AreSound f (remove_entry p ts)
    sound_removed f [] s = tt
    sound_removed f (t ∷ ts) s = by (sound_removed f ts s.1) (p t.0)
      where
        by : AreSound f (remove_entry p ts) → (b : Bool) → AreSound f (cond b ts (t ∷ remove_entry p ts))
        by h true = s.1
        by h false = (s.0, h)

    pub low_removed : (h : ℕ) (ts : List (G × Tree F K E)) → AllLevels h ts → AllLevels h (remove_entry p ts)
    low_removed h [] a = tt
    low_removed h (t ∷ ts) a = by (low_removed h ts a.1) (p t.0)
      where
        by : AllLevels h (remove_entry p ts) → (b : Bool) → AllLevels h (cond b ts (t ∷ remove_entry p ts))
        by i true = a.1
        by i false = (a.0, i)

    -- if the tree that was taken out is low, too, all are
    pub low_taken : (h : ℕ) (ts : List (G × Tree F K E)) → levels_of_tree (lookup p ts) ≤ h → AllLevels h (remove_entry p ts) → AllLevels h ts
    low_taken h [] l a = tt
    low_taken h (t ∷ ts) l a = by (low_taken h ts) (p t.0) l a
      where
        by : (levels_of_tree (lookup p ts) ≤ h → AllLevels h (remove_entry p ts) → AllLevels h ts) → (b : Bool) → levels_of_tree (cond b (Some t.1) (lookup p ts)) ≤ h → AllLevels h (cond b ts (t ∷ remove_entry p ts)) → AllLevels h (t ∷ ts)
        by i true l a = (l, a)
        by i false l a = (a.0, i l a.1)

    -- a tree that has entries is one of them
    pub low_at : (h : ℕ) (ts : List (G × Tree F K E)) → AllLevels h ts → 0 < length (entries_of_tree (lookup p ts)) → levels_of_tree (lookup p ts) ≤ h
    low_at h [] a s = absurd (omega (arith, s))
    low_at h (t ∷ ts) a s = by (low_at h ts a.1) (p t.0) s
      where
        by : (0 < length (entries_of_tree (lookup p ts)) → levels_of_tree (lookup p ts) ≤ h) → (b : Bool) → 0 < length (entries_of_tree (cond b (Some t.1) (lookup p ts))) → levels_of_tree (cond b (Some t.1) (lookup p ts)) ≤ h
        by i true s = a.0
        by i false s = i s

    -- an empty tree has one level
    pub few_levels : (h : ℕ) (ts : List (G × Tree F K E)) → AllLevels h ts → levels_of_tree (lookup p ts) ≤ h + 1
    few_levels h [] a = omega arith
    few_levels h (t ∷ ts) a = by (few_levels h ts a.1) (p t.0)
      where
        by : levels_of_tree (lookup p ts) ≤ h + 1 → (b : Bool) → levels_of_tree (cond b (Some t.1) (lookup p ts)) ≤ h + 1
        by i true = omega (arith, a.0)
        by i false = i

-- ---- a tree that is taken, and put back
is_low : {F K E : Type 0} (h : ℕ) (o : Option (Tree F K E)) → levels_of_tree o ≤ h → IsLow h o
is_low h None l = tt
is_low h (Some t) l = l

module _ {F G K E : Type 0} (R : G → G → Ordering) (o : IsTotalOrder R) (g : G) (ts rest : List (G × Tree F K E)) where
  pub sound_beside : (f : F) → AreBeside R g ts rest → AreSound f ts → AreSound f rest
  sound_beside f (inl e) s = subst (AreSound f) (sym e) s
  sound_beside f (inr e) s = subst (AreSound f) (sym e) (sound_removed (is_at (R g)) f ts s)

  pub low_beside : (h : ℕ) → AreBeside R g ts rest → AllLevels h ts → AllLevels h rest
  low_beside h (inl e) a = subst (AllLevels h) (sym e) a
  low_beside h (inr e) a = subst (AllLevels h) (sym e) (low_removed (is_at (R g)) h ts a)

  pub put_beside : (q : G) (es : List (K × E)) → IsRising R ts → AreBeside R g ts rest → cond (is_eq (R q g)) es (entries_at R q rest) ≡ cond (is_eq (R q g)) es (entries_at R q ts)
  put_beside q es s (inl e) = ap (λ l. cond (is_eq (R q g)) es (entries_at R q l)) e
  put_beside q es s (inr e) = ap (λ l. cond (is_eq (R q g)) es (entries_at R q l)) e ∙ put_back R o q g es ts s

  pub low_back : (h : ℕ) → IsRising R ts → AreBeside R g ts rest → levels_at R g ts ≤ h → (IsLow h (lookup (is_at (R g)) rest) → AllLevels h rest) → AllLevels h ts
  low_back h s (inl e) l f = subst (AllLevels h) e (f (subst (λ (x : List (G × Tree F K E)). IsLow h (lookup (is_at (R g)) x)) (sym e) (is_low h (lookup (is_at (R g)) ts) l)))
  low_back h s (inr e) l f = low_taken (is_at (R g)) h ts l (subst (AllLevels h) e (f (subst (IsLow h) (sym (ap (lookup (is_at (R g))) e ∙ lookup_removed R o g ts s)) tt)))

-- ---- small groups have low trees
pow_up : (k n : ℕ) → 16 ^ n ≤ 16 ^ (k + n)
pow_up zero n = let e : zero + n ≡ n = omega arith in subst (λ y. 16 ^ n ≤ 16 ^ y) (sym e) (omega arith)
pow_up (suc k) n =
    let r = pow_up k n in
    let e : suc k + n ≡ suc (k + n) = omega arith in
    subst (λ y. 16 ^ n ≤ 16 ^ y) (sym e) (omega (arith, r))

-- what is more than 16^m is not at most 16^h where h is at most m
pow_below : (m h x : ℕ) → 16 ^ m < x → x ≤ 16 ^ h → m < h
pow_below m h x l k =
    elim (ltb m h) as (λ b. ltb m h ≡ b → m < h) [
      | true ↦ λ e. ltb-true m h e
      | false ↦ λ e.
          let up : h ≤ m = ltb-false m h e in
          let is : m ≡ (m - h) + h = omega (arith, up) in
          let r : 16 ^ h ≤ 16 ^ m = subst (λ y. 16 ^ h ≤ 16 ^ y) (sym is) (pow_up (m - h) h) in
          absurd (omega (arith, r, l, k))
    ] refl

low_tree : {F K E : Type 0} (h : ℕ) (t : Tree F K E) → 1 ≤ h → IsFilledTree t → length t.entries ≤ 16 ^ h → t.levels ≤ h
low_tree h t one filled small = by t.levels refl
  where
    by : (l : ℕ) → t.levels ≡ l → t.levels ≤ h
    by zero e = omega (arith, e)
    by (suc zero) e = omega (arith, e, one)
    by (suc (suc m)) e =
        let is : t.levels - 1 ≡ suc m = omega (arith, e) in
        let many : 16 ^ suc m < length t.entries = subst (λ k. 16 ^ k < length t.entries) is (filled (omega (arith, e))) in
        omega (arith, e, pow_below (suc m) h (length t.entries) many small)

pub low_trees : {F G K E : Type 0} (f : F) (h : ℕ) (ts : List (G × Tree F K E)) → 1 ≤ h → AreSound f ts → AllSmall h ts → AllLevels h ts
low_trees f h [] one s a = tt
low_trees f h (p ∷ ts) one s a = (low_tree h p.1 one s.0.2 a.0, low_trees f h ts one s.1 a.1)

-- ---- changes, one after another
pub none_yet : (a : Counts) (b : ℕ) → MergesAtMost (0 * b) a a
none_yet a b = record { merges = omega arith }

pub one_more : {s t u : Counts} (i b : ℕ) → MergesAtMost (i * b) s t → MergesAtMost b t u → MergesAtMost ((i + 1) * b) s u
one_more i b f g = record { merges = omega (arith, f.merges, g.merges) }

pub all_done : {s t : Counts} (i n b : ℕ) → i ≡ n → MergesAtMost (i * b) s t → MergesAtMost (n * b) s t
all_done {s} {t} i n b e f = subst (λ x. MergesAtMost (x * b) s t) e f

pub both_done : {s t u : Counts} (m n b : ℕ) → MergesAtMost (m * b) s t → MergesAtMost (n * b) t u → MergesAtMost ((m + n) * b) s u
both_done m n b f g = record { merges = omega (arith, f.merges, g.merges) }

-- of m touched ids at most m entries are removals and at most m have insertions
pub touched : {s t : Counts} (m removals insertions h : ℕ) → removals ≤ m → insertions ≤ m → MergesAtMost ((removals + insertions) * (64 * (h + 1))) s t → MergesAtMost (128 * m * (h + 1)) s t
touched m removals insertions h a b f =
    let most : (removals + insertions) * (64 * (h + 1)) ≤ (m + m) * (64 * (h + 1)) = times (removals + insertions) (m + m) (64 * (h + 1)) (omega (arith, a, b)) in
    record { merges = omega (arith, f.merges, most) }
  where
    times : (a b c : ℕ) → a ≤ b → a * c ≤ b * c
    times zero b c l = omega arith
    times (suc a) zero c l = absurd (omega arith)
    times (suc a) (suc b) c l = let r = times a b c (omega (arith, l)) in omega (arith, r)
