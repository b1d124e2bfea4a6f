-- What is derived from the values of a map stands in the same order.
use Rattle.std.proofs.Common.{◌≡◌, ℕ, List, [], ◌∷◌, Bool, true, false, cond, ◌&&◌, Option, Some, None, refl, sym, ap, ◌∙◌, subst}
use lib.Dec.{T}
use Rattle.std.specs.declared.cmp.Ordering.TheVariants.{Less, Equal, Greater}
use Rattle.std.specs.Ordering.{is_eq, is_lt}
use Rattle.std.specs.FinMap.{FinMap, get, entries, values, from_entries, find as entry_at, is_sorted, entries_sorted, get-entries, get-from_entries}
use Rattle.std.specs.FinMap.Entries.{below_all}
use Rattle.std.specs.List.{cons_option, filter_map}
use Rattle.std.specs.Map.{values_of}
use Rattle.std.specs.Option.{option_and_then}
use Rattle.spec_data.specs.Folding.{key_cmp}
use Rattle.spec_store.proofs.KeyedLemmas.{key_ties}
use Rattle.paged_map.specs.Pairs.{AllAnswer, IsRising}
use Rattle.paged_map.proofs.Rising.{lookup_none}
use Rattle.reference_track.proofs.FoldedMaps.{total, found, entries-rising, same_results}

is_less : (r : _) → is_lt r ≡ true → r ≡ Less
is_less Less h = refl
is_less Equal h = absurd cc
is_less Greater h = absurd cc

both : (a b : Bool) → (a && b) ≡ true → (a ≡ true) × (b ≡ true)
both true b h = (refl, h)
both false b h = absurd cc

is_true : (b : Bool) → T b → b ≡ true
is_true true h = refl
is_true false h = absurd h

module _ {V : Type 0} where
  all_below : (k : List ℕ) (es : List (List ℕ × V)) → below_all key_cmp k es ≡ true → AllAnswer key_cmp k Less es
  all_below k [] h = tt
  all_below k (e ∷ es) h = let b = both (is_lt (key_cmp k e.0)) (below_all key_cmp k es) h in (is_less (key_cmp k e.0) b.0, all_below k es b.1)

  rises : (es : List (List ℕ × V)) → is_sorted key_cmp es ≡ true → IsRising key_cmp es
  rises [] h = tt
  rises (e ∷ es) h = let b = both (below_all key_cmp e.0 es) (is_sorted key_cmp es) h in (all_below e.0 es b.0, rises es b.1)

  pub entries_rise : (M : FinMap key_cmp V) → IsRising key_cmp (entries M)
  entries_rise M = rises (entries M) (is_true (is_sorted key_cmp (entries M)) (entries_sorted M))

  -- what ties with a key is not among what is past it
  pub none_past : (q k : List ℕ) (es : List (List ℕ × V)) → key_cmp q k ≡ Equal → AllAnswer key_cmp k Less es → entry_at key_cmp q es ≡ None
  none_past q k es e a = found q es ∙ lookup_none key_cmp q es (subst (λ x. AllAnswer key_cmp x Less es) (sym (key_ties q k e)) a)

module _ {V W : Type 0} (f : V → Option W) where
  abbrev pub in_front : List ℕ → Option W → List (List ℕ × W) → List (List ℕ × W)
  in_front k None more = more
  in_front k (Some w) more = (k, w) ∷ more

  abbrev pub derived : List (List ℕ × V) → List (List ℕ × W)
  derived [] = []
  derived (e ∷ es) = in_front e.0 (f e.1) (derived es)

  derived-answer : (k : List ℕ) (es : List (List ℕ × V)) → AllAnswer key_cmp k Less es → AllAnswer key_cmp k Less (derived es)
  derived-answer k [] a = tt
  derived-answer k (e ∷ es) a = elim (f e.1) as (λ o. AllAnswer key_cmp k Less (in_front e.0 o (derived es))) [
    | None ↦ derived-answer k es a.1
    | Some w ↦ (a.0, derived-answer k es a.1)
  ]

  pub derived-rising : (es : List (List ℕ × V)) → IsRising key_cmp es → IsRising key_cmp (derived es)
  derived-rising [] up = tt
  derived-rising (e ∷ es) up = elim (f e.1) as (λ o. IsRising key_cmp (in_front e.0 o (derived es))) [
    | None ↦ derived-rising es up.1
    | Some w ↦ (derived-answer e.0 es up.0, derived-rising es up.1)
  ]

  pub derived-values : (es : List (List ℕ × V)) → values_of (derived es) ≡ filter_map f (values_of es)
  derived-values [] = refl
  derived-values (e ∷ es) = elim (f e.1) as (λ o. values_of (in_front e.0 o (derived es)) ≡ cons_option o (filter_map f (values_of es))) [
    | None ↦ derived-values es
    | Some w ↦ ap (λ more. w ∷ more) (derived-values es)
  ]

  pub derived-found : (q : List ℕ) (es : List (List ℕ × V)) → IsRising key_cmp es → entry_at key_cmp q (derived es) ≡ option_and_then f (entry_at key_cmp q es)
  derived-found q [] up = refl
  derived-found q (e ∷ es) up =
      elim (f e.1) as (λ o. f e.1 ≡ o → entry_at key_cmp q (in_front e.0 o (derived es)) ≡ option_and_then f (cond (is_eq (key_cmp q e.0)) (Some e.1) (entry_at key_cmp q es))) [
        | None ↦ λ is. derived-found q es up.1 ∙ elim (key_cmp q e.0) as (λ r. key_cmp q e.0 ≡ r → option_and_then f (entry_at key_cmp q es) ≡ option_and_then f (cond (is_eq r) (Some e.1) (entry_at key_cmp q es))) [
          | Less ↦ λ t. refl
          | Equal ↦ λ t. ap (option_and_then f) (none_past q e.0 es t up.0) ∙ sym is
          | Greater ↦ λ t. refl
        ] refl
        | Some w ↦ λ is. ap (cond (is_eq (key_cmp q e.0)) (Some w)) (derived-found q es up.1) ∙ elim (is_eq (key_cmp q e.0)) as (λ b. cond b (Some w) (option_and_then f (entry_at key_cmp q es)) ≡ option_and_then f (cond b (Some e.1) (entry_at key_cmp q es))) [
          | true ↦ sym is
          | false ↦ refl
        ]
      ] refl

  -- a map that has what is derived from each value of another, and nothing else, lists it in the other's order
  pub values_derived : (M : FinMap key_cmp V) (G : FinMap key_cmp W) → ((q : List ℕ) → get G q ≡ option_and_then f (get M q)) → values G ≡ filter_map f (values M)
  values_derived M G is =
      let same : G ≡ from_entries (derived (entries M)) = same_results G (from_entries (derived (entries M))) (λ q.
      is q ∙ ap (option_and_then f) (get-entries M q) ∙ sym (derived-found q (entries M) (entries_rise M)) ∙ sym (get-from_entries total (derived (entries M)) q)) in
      ap values same
      ∙ ap values_of (entries-rising (derived (entries M)) (derived-rising (entries M) (entries_rise M)))
      ∙ derived-values (entries M)
