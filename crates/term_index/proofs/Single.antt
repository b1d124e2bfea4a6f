-- The terms of one run, and their order.
use Rattle.std.proofs.Common.{◌≡◌, ℕ, zero, suc, ◌-◌, ◌<◌, ◌≤◌, ⊎_elim, List, [], ◌∷◌, length, drop, take, Bool, true, false, cond, Some, filter, slice_get, refl, sym, ap, subst, ◌∙◌, arith}
use Rattle.std.proofs.lemmas.Bool.{cases_lt}
use Rattle.std.specs.FinMap.{entries, from_entries}
use Rattle.std.specs.Ordering.{is_le, is_lt}
use Rattle.spec_data.specs.Folding.{folded, key_cmp}
use Rattle.spec_data.specs.Scalars.{Scalar, nothing, truth, number, words}
use Rattle.spec_query.specs.Sorting.{sorted}
use Rattle.raven_value.specs.ScalarView.{scalar_view}
use Rattle.paged_map.specs.Pairs.{IsRising}
use Rattle.paged_map.specs.Range.{between}
use Rattle.paged_map.proofs.Laws.{rising_between}
use Rattle.term_index.specs.Held.{AreApart, AreTerms, Pairs, held}
use Rattle.term_index.specs.KeyView.{by_mark, mark_of}
use Rattle.term_index.specs.Lines.{AllInLine, AreInLine, is_in_line, is_of_order}
use Rattle.term_index.specs.Marks.{after, at_id, mark_cmp}
use Rattle.term_index.specs.Ordered.{by_value}
use Rattle.term_index.specs.Steps.{AllAnswer, IsRunTo}
use Rattle.term_index.specs.declared.key.Key.{Key}
use Rattle.term_index.specs.declared.key.Key.TheVariants as k
use Rattle.term_index.specs.declared.key.Term.{Term}
use Rattle.term_index.proofs.Changing.{below_edge, get_within, rises}
use Rattle.term_index.proofs.Lined.{by_value_total, held_ties, held_up}
use Rattle.term_index.proofs.Places.{under}
use Rattle.term_index.proofs.Sorts.{entries_sorted, up_is_sorted}

no : {A : Type 0} → false ≡ true → A
no h = absurd cc

-- KINDS

nulls_alone : (long : Bool) (v : Scalar) (x : List ℕ) → is_lt (mark_cmp (at_id v x) (after nothing)) ≡ true → is_in_line long v ≡ true
nulls_alone long nothing x h = refl
nulls_alone long (truth true) x h = no h
nulls_alone long (truth false) x h = no h
nulls_alone long (number n) x h = no h
nulls_alone long (words s) x h = no h

pub nulls_in_line : (long : Bool) (edge : Key) → mark_of edge ≡ after nothing → (es : Pairs) → IsRising by_mark es → (i : ℕ) (t : Term) → slice_get es i ≡ Some (k.At t, tt) → i < length (under by_mark edge es) → is_in_line long (scalar_view t.value) ≡ true
nulls_in_line long edge is es s i t g l = nulls_alone long (scalar_view t.value) t.id (ap (λ m. is_lt (mark_cmp (at_id (scalar_view t.value) t.id) m)) (sym is) ∙ below_edge edge es s i t g l)

-- what is between two of one kind is of that kind
kind_between : (long : Bool) (v w u : Scalar) (x y z : List ℕ) → is_le (mark_cmp (at_id v x) (at_id u z)) ≡ true → is_le (mark_cmp (at_id u z) (at_id w y)) ≡ true → is_of_order long v ≡ true → is_of_order long w ≡ true → is_of_order long u ≡ true
kind_between long nothing w u x y z low high h g = no h
kind_between long (truth b) w u x y z low high h g = no h
kind_between long (number m) nothing u x y z low high h g = no g
kind_between long (number m) (truth b) u x y z low high h g = no g
kind_between long (number m) (number n) (number p) x y z low high h g = h
kind_between long (number m) (number n) nothing x y z low high h g = no low
kind_between long (number m) (number n) (truth true) x y z low high h g = no low
kind_between long (number m) (number n) (truth false) x y z low high h g = no low
kind_between long (number m) (number n) (words s) x y z low high h g = no high
kind_between true (number m) (words t) u x y z low high h g = no g
kind_between false (number m) (words t) u x y z low high h g = no h
kind_between long (words s) nothing u x y z low high h g = no g
kind_between long (words s) (truth b) u x y z low high h g = no g
kind_between true (words s) (number n) u x y z low high h g = no h
kind_between false (words s) (number n) u x y z low high h g = no g
kind_between long (words s) (words t) (words r) x y z low high h g = h
kind_between long (words s) (words t) nothing x y z low high h g = no low
kind_between long (words s) (words t) (truth true) x y z low high h g = no low
kind_between long (words s) (words t) (truth false) x y z low high h g = no low
kind_between long (words s) (words t) (number n) x y z low high h g = no low

of_order_in_line : (long : Bool) (v : Scalar) → is_of_order long v ≡ true → is_in_line long v ≡ true
of_order_in_line long nothing h = refl
of_order_in_line long (truth b) h = h
of_order_in_line long (number n) h = h
of_order_in_line long (words s) h = h

pub kind_in_line : (long : Bool) (es : Pairs) → IsRising by_mark es → (i a b : ℕ) (t u v : Term) → slice_get es i ≡ Some (k.At t, tt) → slice_get es a ≡ Some (k.At u, tt) → slice_get es b ≡ Some (k.At v, tt) → a ≤ i → i ≤ b
    → is_of_order long (scalar_view u.value) ≡ true → is_of_order long (scalar_view v.value) ≡ true → is_in_line long (scalar_view t.value) ≡ true
kind_in_line long es s i a b t u v g h f l m p q =
    of_order_in_line long (scalar_view t.value) (kind_between long (scalar_view u.value) (scalar_view v.value) (scalar_view t.value) u.id v.id t.id (rises es s a i u t h g l) (rises es s i b t v g f m) p q)

-- LISTS OF TERMS

-- at each place
abbrev EachAt : (Scalar → Type 0) → Pairs → Type 0
EachAt P es = (i : ℕ) (t : Term) → slice_get es i ≡ Some (k.At t, tt) → P (scalar_view t.value)

line_held : (meets : Scalar → Bool) (long : Bool) (es : Pairs) → AreTerms es → EachAt (λ v. meets v ≡ true → is_in_line long v ≡ true) es → AreInLine meets long (held es)
line_held meets long [] a h = tt
line_held meets long ((k.At t, unit) ∷ es) a h = (h 0 t refl, line_held meets long es a.1 (λ i u g. h (suc i) u g))
line_held meets long ((k.Before v, unit) ∷ es) a h = absurd a.0
line_held meets long ((k.After v, unit) ∷ es) a h = absurd a.0
line_held meets long ((k.End, unit) ∷ es) a h = absurd a.0

line_of_first : (long : Bool) (end : ℕ) (es : Pairs) → AreTerms es → AllAnswer (is_in_line long) true 0 end es → AllInLine long (held (take end es))
line_of_first long zero es a h = tt
line_of_first long (suc end) [] a h = tt
line_of_first long (suc end) ((k.At t, unit) ∷ es) a h = (λ u. h 0 t refl (omega arith) (omega arith), line_of_first long end es a.1 (λ i u g l m. h (suc i) u g (omega arith) (omega (arith, m))))
line_of_first long (suc end) ((k.Before v, unit) ∷ es) a h = absurd a.0
line_of_first long (suc end) ((k.After v, unit) ∷ es) a h = absurd a.0
line_of_first long (suc end) ((k.End, unit) ∷ es) a h = absurd a.0

none_in_line : (long : Bool) (n : ℕ) → AllInLine long (held (take n []))
none_in_line long zero = tt
none_in_line long (suc n) = tt

pub line_of_run : (long : Bool) (es : Pairs) (start end : ℕ) → AreTerms es → AllAnswer (is_in_line long) true start end es → AllInLine long (held (take (end - start) (drop start es)))
line_of_run long es zero end a h = subst (λ n. AllInLine long (held (take n es))) (let e : end ≡ end - 0 = omega arith in e) (line_of_first long end es a h)
line_of_run long [] (suc start) end a h = none_in_line long (end - suc start)
line_of_run long ((k.At t, unit) ∷ es) (suc start) end a h =
    subst (λ n. AllInLine long (held (take n (drop start es)))) (let e : (end - 1) - start ≡ end - suc start = omega arith in e)
    (line_of_run long es start (end - 1) a.1 (λ i u g l m. h (suc i) u g (omega (arith, l)) (omega (arith, m))))
line_of_run long ((k.Before v, unit) ∷ es) (suc start) end a h = absurd a.0
line_of_run long ((k.After v, unit) ∷ es) (suc start) end a h = absurd a.0
line_of_run long ((k.End, unit) ∷ es) (suc start) end a h = absurd a.0

module _ (meets : Scalar → Bool) where
  abbrev kept : Pairs → List (List ℕ × Scalar)
  kept es = filter (λ e. meets e.1) (held es)

  none_kept : (es : Pairs) → AreTerms es → EachAt (λ v. meets v ≡ false) es → kept es ≡ []
  none_kept [] a h = refl
  none_kept ((k.At t, unit) ∷ es) a h = ap (λ b. cond b ((folded t.id, scalar_view t.value) ∷ kept es) (kept es)) (h 0 t refl) ∙ none_kept es a.1 (λ i u g. h (suc i) u g)
  none_kept ((k.Before v, unit) ∷ es) a h = absurd a.0
  none_kept ((k.After v, unit) ∷ es) a h = absurd a.0
  none_kept ((k.End, unit) ∷ es) a h = absurd a.0

  -- the first are kept
  kept_first : (end : ℕ) (es : Pairs) → AreTerms es → AllAnswer meets true 0 end es → AllAnswer meets false end (length es) es → kept es ≡ held (take end es)
  kept_first zero es a inside past = none_kept es a (λ i t g. past i t g (omega arith) (get_within i es _ g))
  kept_first (suc end) [] a inside past = refl
  kept_first (suc end) ((k.At t, unit) ∷ es) a inside past =
      ap (λ b. cond b ((folded t.id, scalar_view t.value) ∷ kept es) (kept es)) (inside 0 t refl (omega arith) (omega arith))
      ∙ ap (λ l. (folded t.id, scalar_view t.value) ∷ l) (kept_first end es a.1 (λ i u g l m. inside (suc i) u g (omega arith) (omega (arith, m))) (λ i u g l m. past (suc i) u g (omega (arith, l)) (omega (arith, m))))
  kept_first (suc end) ((k.Before v, unit) ∷ es) a inside past = absurd a.0
  kept_first (suc end) ((k.After v, unit) ∷ es) a inside past = absurd a.0
  kept_first (suc end) ((k.End, unit) ∷ es) a inside past = absurd a.0

  none_there : (n : ℕ) → [] ≡ held (take n [])
  none_there zero = refl
  none_there (suc n) = refl

  -- those of the run are kept
  pub kept_run : (start end : ℕ) (es : Pairs) → AreTerms es → AllAnswer meets false 0 start es → AllAnswer meets true start end es → AllAnswer meets false end (length es) es → start ≤ end → kept es ≡ held (take (end - start) (drop start es))
  kept_run zero end es a before inside past le = kept_first end es a inside past ∙ ap (λ n. held (take n es)) (let e : end ≡ end - 0 = omega arith in e)
  kept_run (suc start) end [] a before inside past le = none_there (end - suc start)
  kept_run (suc start) end ((k.At t, unit) ∷ es) a before inside past le =
      ap (λ b. cond b ((folded t.id, scalar_view t.value) ∷ kept es) (kept es)) (before 0 t refl (omega arith) (omega arith))
      ∙ (kept_run start (end - 1) es a.1 (λ i u g l m. before (suc i) u g (omega arith) (omega (arith, m))) (λ i u g l m. inside (suc i) u g (omega (arith, l)) (omega (arith, m))) (λ i u g l m. past (suc i) u g (omega (arith, l, le)) (omega (arith, m))) (omega (arith, le))
      ∙ ap (λ n. held (take n (drop start es))) (let e : (end - 1) - start ≡ end - suc start = omega arith in e))
  kept_run (suc start) end ((k.Before v, unit) ∷ es) a before inside past le = absurd a.0
  kept_run (suc start) end ((k.After v, unit) ∷ es) a before inside past le = absurd a.0
  kept_run (suc start) end ((k.End, unit) ∷ es) a before inside past le = absurd a.0

-- THE ORDER OF A RUN

module _ (meets : Scalar → Bool) (long desc : Bool) (es : Pairs) (start end : ℕ) (a : AreTerms es) (s : IsRising by_mark es) (apart : AreApart (held es)) (run : IsRunTo meets es start end (length es)) (line : AllAnswer (is_in_line long) true start end es) where
  meeting_in_line : EachAt (λ v. meets v ≡ true → is_in_line long v ≡ true) es
  meeting_in_line i t g h =
      ⊎_elim (λ lt. no (sym (run.before i t g (omega arith) lt) ∙ h))
      (λ ge. ⊎_elim (λ lt. line i t g ge lt) (λ over. no (sym (run.past i t g over (get_within i es _ g)) ∙ h)) (cases_lt i end)) (cases_lt i start)

  pub run_sorted : sorted (by_value long desc) (filter (λ e. meets e.1) (entries (from_entries {R = key_cmp} (held es)))) ≡ sorted (by_value long desc) (held (take (end - start) (drop start es)))
  run_sorted =
      entries_sorted (λ e. meets e.1) (by_value long desc) (by_value_total long desc) (held es) apart (held_ties long desc meets es s (line_held meets long es a meeting_in_line))
      ∙ ap (sorted (by_value long desc)) (kept_run meets start end es a run.before run.inside run.past run.order)

-- THE PAGE OF A RUN

pub up_of_run : (long desc : Bool) (low high : Key) (es run : Pairs) → IsRising by_mark es → between by_mark low high es ≡ run → desc ≡ false → AllInLine long (held run) → held (between by_mark low high es) ≡ sorted (by_value long desc) (held run)
up_of_run long desc low high es run s is up line =
    ap held is
    ∙ (sym (up_is_sorted (by_value long false) (held run) (held_up long run (subst (λ (l : Pairs). IsRising by_mark l) is (rising_between by_mark low high es s)) line))
    ∙ ap (λ d. sorted (by_value long d) (held run)) (sym up))
