-- The fields of values under ids, as these change.
use Rattle.std.proofs.Common.{◌≡◌, ℕ, Bool, true, false, cond, Some, List, [], ◌∷◌, map, option_map, refl, ap}
use Rattle.std.specs.declared.cmp.Ordering.{Ordering}
use Rattle.std.specs.declared.cmp.Ordering.TheVariants.{Less, Equal, Greater}
use Rattle.std.specs.Ordering.{match_ordering}
use Rattle.std.specs.Map.{lookup, remove_entry, values_of}
use Rattle.std.specs.BTreeMap.{insert_entry}
use Rattle.index_tree.specs.Meaning.{Fields}
use Rattle.paged_map.specs.Pairs.{AllAnswer, IsRising}
use Rattle.map_stage.specs.Words.{HasWords}
use Rattle.reference_track.specs.Sets.{id_cmp}
use Rattle.index_groups.specs.Groups.{HaveWords, fields_of}

module _ {V : Type 0} (f : V → Fields) where
  pub fields_insert : (k : List ℕ) (v : V) (es : List (List ℕ × V)) → fields_of f (insert_entry id_cmp es k v) ≡ insert_entry id_cmp (fields_of f es) k (f v)
  fields_insert k v [] = refl
  fields_insert k v (e ∷ es) = by (fields_insert k v es) (id_cmp k e.0)
    where
      by : fields_of f (insert_entry id_cmp es k v) ≡ insert_entry id_cmp (fields_of f es) k (f v) → (r : Ordering) →
          fields_of f (match_ordering r ((k, v) ∷ e ∷ es) ((e.0, v) ∷ es) (e ∷ insert_entry id_cmp es k v)) ≡ match_ordering r ((k, f v) ∷ fields_of f (e ∷ es)) ((e.0, f v) ∷ fields_of f es) ((e.0, f e.1) ∷ insert_entry id_cmp (fields_of f es) k (f v))
      by h Less = refl
      by h Equal = refl
      by h Greater = ap (λ l. (e.0, f e.1) ∷ l) h

  pub fields_remove : (p : List ℕ → Bool) (es : List (List ℕ × V)) → fields_of f (remove_entry p es) ≡ remove_entry p (fields_of f es)
  fields_remove p [] = refl
  fields_remove p (e ∷ es) = by (fields_remove p es) (p e.0)
    where
      by : fields_of f (remove_entry p es) ≡ remove_entry p (fields_of f es) → (b : Bool) → fields_of f (cond b es (e ∷ remove_entry p es)) ≡ cond b (fields_of f es) ((e.0, f e.1) ∷ remove_entry p (fields_of f es))
      by h true = refl
      by h false = ap (λ l. (e.0, f e.1) ∷ l) h

  pub fields_found : (p : List ℕ → Bool) (es : List (List ℕ × V)) → lookup p (fields_of f es) ≡ option_map f (lookup p es)
  fields_found p [] = refl
  fields_found p (e ∷ es) = by (fields_found p es) (p e.0)
    where
      by : lookup p (fields_of f es) ≡ option_map f (lookup p es) → (b : Bool) → cond b (Some (f e.1)) (lookup p (fields_of f es)) ≡ option_map f (cond b (Some e.1) (lookup p es))
      by h true = refl
      by h false = h

  fields_below : (k : List ℕ) (es : List (List ℕ × V)) → AllAnswer id_cmp k Less es → AllAnswer id_cmp k Less (fields_of f es)
  fields_below k [] a = tt
  fields_below k (e ∷ es) a = (a.0, fields_below k es a.1)

  pub fields_rising : (es : List (List ℕ × V)) → IsRising id_cmp es → IsRising id_cmp (fields_of f es)
  fields_rising [] s = tt
  fields_rising (e ∷ es) s = (fields_below e.0 es s.0, fields_rising es s.1)

  pub fields_values : (es : List (List ℕ × V)) → values_of (fields_of f es) ≡ map f (values_of es)
  fields_values [] = refl
  fields_values (e ∷ es) = ap (λ l. f e.1 ∷ l) (fields_values es)

-- WORDS

pub words_insert : (k : List ℕ) (v : Fields) (es : List (List ℕ × Fields)) → HasWords v → HaveWords es → HaveWords (insert_entry id_cmp es k v)
words_insert k v [] w h = (w, tt)
words_insert k v (e ∷ es) w h = by (words_insert k v es w h.1) (id_cmp k e.0)
  where
    by : HaveWords (insert_entry id_cmp es k v) → (r : Ordering) → HaveWords (match_ordering r ((k, v) ∷ e ∷ es) ((e.0, v) ∷ es) (e ∷ insert_entry id_cmp es k v))
    by i Less = (w, (h.0, h.1))
    by i Equal = (w, h.1)
    by i Greater = (h.0, i)

pub words_remove : (p : List ℕ → Bool) (es : List (List ℕ × Fields)) → HaveWords es → HaveWords (remove_entry p es)
words_remove p [] h = tt
words_remove p (e ∷ es) h = by (words_remove p es h.1) (p e.0)
  where
    by : HaveWords (remove_entry p es) → (b : Bool) → HaveWords (cond b es (e ∷ remove_entry p es))
    by i true = h.1
    by i false = (h.0, i)
