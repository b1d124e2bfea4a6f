-- What a condition on one field says of entries.
use Rattle.std.proofs.Common.{◌≡◌, ℕ, ◌+◌, List, [], ◌∷◌, ◌++◌, length, Bool, true, false, not, ◌&&◌, ◌||◌, Option, Some, None, IfSome, filter, refl, sym, ap, subst, ◌∙◌}
use Rattle.std.specs.Option.{option_and_then, option_map_or}
use Rattle.std.proofs.lemmas.Bool.{and_parts}
use Rattle.std.proofs.lemmas.Slice.Eq.{bytes_eq-Decides}
use Rattle.spec_data.specs.Folding.{folded}
use Rattle.spec_data.specs.Scalars.{Scalar, Test}
use Rattle.index_tree.specs.Meaning.{Fields, field_named}
use Rattle.spec_query.specs.Condition.{Condition, Or, And, Not, Exact, Always, Has, meets, passes}
use Rattle.term_index.specs.Columns.{Columns, value_at}
use Rattle.term_index.specs.Decided.{AreAlike, Decide}
use Rattle.term_index.specs.Held.{IsCountOf}
use Rattle.rql_filter.specs.Entries.{AreTermsOf, EntryList, entry_at}
use Rattle.rql_filter.specs.OneField.{differs, is_on, met_by, tests_of}
use Rattle.rql_filter.proofs.Counting.{count_all, count_not}
use Rattle.rql_filter.proofs.TestCounts.{count_is}

-- it asks nothing of an entry but the value of the field
pub met_by_value : (f : List ℕ) (c : Condition) (exact : Bool) (fields : Fields) → is_on f c ≡ true → meets c exact fields ≡ met_by c exact (field_named f fields)
met_by_value f (Or a b) exact fields on =
    let parts = and_parts (is_on f a) (is_on f b) on in
    λ i. met_by_value f a exact fields parts.0 i || met_by_value f b exact fields parts.1 i
met_by_value f (And a b) exact fields on =
    let parts = and_parts (is_on f a) (is_on f b) on in
    λ i. met_by_value f a exact fields parts.0 i && met_by_value f b exact fields parts.1 i
met_by_value f (Not a) exact fields on = ap not (met_by_value f a exact fields on)
met_by_value f (Exact a) exact fields on = met_by_value f a true fields on
met_by_value f Always exact fields on = refl
met_by_value f (Has name test) exact fields on = ap (λ g. passes test exact (field_named g fields)) (sym ((bytes_eq-Decides f name).0 on))

-- TESTS

none_in : {X : Type 0} (xs ys : List X) → xs ++ ys ≡ [] → (xs ≡ []) × (ys ≡ [])
none_in [] ys h = (refl, h)
none_in (x ∷ xs) ys h = absurd cc

-- without tests it has one answer
pub met_without_tests : (c : Condition) (exact : Bool) (fields : Fields) → tests_of c exact ≡ [] → meets c exact fields ≡ met_by c exact None
met_without_tests (Or a b) exact fields h =
    let parts = none_in (tests_of a exact) (tests_of b exact) h in
    λ i. met_without_tests a exact fields parts.0 i || met_without_tests b exact fields parts.1 i
met_without_tests (And a b) exact fields h =
    let parts = none_in (tests_of a exact) (tests_of b exact) h in
    λ i. met_without_tests a exact fields parts.0 i && met_without_tests b exact fields parts.1 i
met_without_tests (Not a) exact fields h = ap not (met_without_tests a exact fields h)
met_without_tests (Exact a) exact fields h = met_without_tests a true fields h
met_without_tests Always exact fields h = refl
met_without_tests (Has name test) exact fields h = absurd cc

alike_parts : (xs ys : List (Test × Bool)) (v w : Scalar) → AreAlike (xs ++ ys) v w → AreAlike xs v w × AreAlike ys v w
alike_parts [] ys v w h = (tt, h)
alike_parts (x ∷ xs) ys v w h = let rest = alike_parts xs ys v w h.1 in ((h.0, rest.0), rest.1)

-- the tests decide it
decided : (c : Condition) (exact : Bool) (v w : Scalar) → AreAlike (tests_of c exact) v w → met_by c exact (Some v) ≡ met_by c exact (Some w)
decided (Or a b) exact v w h =
    let parts = alike_parts (tests_of a exact) (tests_of b exact) v w h in
    λ i. decided a exact v w parts.0 i || decided b exact v w parts.1 i
decided (And a b) exact v w h =
    let parts = alike_parts (tests_of a exact) (tests_of b exact) v w h in
    λ i. decided a exact v w parts.0 i && decided b exact v w parts.1 i
decided (Not a) exact v w h = ap not (decided a exact v w h)
decided (Exact a) exact v w h = decided a true v w h
decided Always exact v w h = refl
decided (Has name test) exact v w h = h.0

pub tests_decide : (c : Condition) (missing : Bool) (tests : List (Test × Bool)) → tests ≡ tests_of c false → Decide tests (λ v. differs missing (met_by c false (Some v)))
tests_decide c missing tests are = λ v w h. ap (differs missing) (decided c false v w (subst (λ ts. AreAlike ts v w) are h))

-- COUNTS

never_differs : (b : Bool) → differs b b ≡ false
never_differs true = refl
never_differs false = refl

-- of an entry that may be missing
of_entry : (has : Scalar → Bool) (f : List ℕ) (e : Option (List ℕ × Fields)) → option_map_or has (option_and_then (λ e. field_named f e.1) e) false ≡ option_map_or (λ e. option_map_or has (field_named f e.1) false) e false
of_entry has f None = refl
of_entry has f (Some e) = refl

module _ (c : Condition) (missing : Bool) where
  of_value : missing ≡ met_by c false None → (o : Option Scalar) → option_map_or (λ v. differs missing (met_by c false (Some v))) o false ≡ differs missing (met_by c false o)
  of_value lacking None = sym (never_differs missing) ∙ ap (differs missing) lacking
  of_value lacking (Some v) = refl

  -- the ids whose values give another answer are those of the entries that do
  pub count_differing : (f name : List ℕ) (es : EntryList) (terms : Columns) (count : Option ℕ) → missing ≡ met_by c false None → is_on f c ≡ true → AreTermsOf es terms → name ≡ f
      → IfSome count (IsCountOf (λ q. option_map_or (λ v. differs missing (met_by c false (Some v))) (value_at name (folded q) terms) false))
      → IfSome count (λ n. n ≡ length (filter (λ e. differs missing (meets c false e.1)) es))
  count_differing f name es terms count lacking on are named h = count_is (λ e. differs missing (meets c false e.1)) es count _ are.order members h
    where
      has : Scalar → Bool
      has v = differs missing (met_by c false (Some v))

      each : (e : Option (List ℕ × Fields)) → option_map_or (λ e. option_map_or has (field_named f e.1) false) e false ≡ option_map_or (λ e. differs missing (meets c false e.1)) e false
      each None = refl
      each (Some e) = of_value lacking (field_named f e.1) ∙ ap (differs missing) (sym (met_by_value f c false e.1 on))

      members : (q : List ℕ) → option_map_or has (value_at name (folded q) terms) false ≡ option_map_or (λ e. differs missing (meets c false e.1)) (entry_at (folded q) es) false
      members q =
          ap (λ name. option_map_or has (value_at name (folded q) terms) false) named
          ∙ (ap (λ o. option_map_or has o false) (are.values f (folded q)) ∙ (of_entry has f (entry_at (folded q) es) ∙ each (entry_at (folded q) es)))

  -- if an entry without the field meets it, they are those that do not
  pub others_counted : (es : EntryList) (count : Option ℕ) (n : ℕ) → missing ≡ true → count ≡ Some n → IfSome count (λ n. n ≡ length (filter (λ e. differs missing (meets c false e.1)) es))
      → n + length (filter (λ e. meets c false e.1) es) ≡ length es
  others_counted es count n is found h =
      let known : n ≡ length (filter (λ e. differs missing (meets c false e.1)) es) = subst (λ o. IfSome o (λ n. n ≡ length (filter (λ e. differs missing (meets c false e.1)) es))) found h in
      ap (λ k. k + length (filter (λ e. meets c false e.1) es)) (known ∙ ap (λ b. length (filter (λ e. differs b (meets c false e.1)) es)) is)
      ∙ count_not (λ e. meets c false e.1) es

  -- and otherwise those that do
  pub met_counted : (es : EntryList) (count : Option ℕ) → missing ≡ false → IfSome count (λ n. n ≡ length (filter (λ e. differs missing (meets c false e.1)) es))
      → IfSome count (λ n. n ≡ length (filter (λ e. meets c false e.1) es))
  met_counted es count is h = subst (λ b. IfSome count (λ n. n ≡ length (filter (λ e. differs b (meets c false e.1)) es))) is h

-- WITHOUT TESTS

no_others : {X : Type 0} (xs : List X) → length (filter (λ (x : X). false) xs) ≡ 0
no_others [] = refl
no_others (x ∷ xs) = no_others xs

module _ (c : Condition) (h : tests_of c false ≡ []) (es : EntryList) where
  one_answer : length (filter (λ e. meets c false e.1) es) ≡ length (filter (λ (e : List ℕ × Fields). met_by c false None) es)
  one_answer = ap (λ (p : List ℕ × Fields → Bool). length (filter p es)) (λ i e. met_without_tests c false e.1 h i)

  pub all_meet : met_by c false None ≡ true → length es ≡ length (filter (λ e. meets c false e.1) es)
  all_meet is = count_all es ∙ (ap (λ b. length (filter (λ (e : List ℕ × Fields). b) es)) (sym is) ∙ sym one_answer)

  pub none_meet : met_by c false None ≡ false → 0 ≡ length (filter (λ e. meets c false e.1) es)
  none_meet is = sym (one_answer ∙ (ap (λ b. length (filter (λ (e : List ℕ × Fields). b) es)) is ∙ no_others es))
