-- What a walk over terms finds.
use Rattle.std.proofs.Common.{◌≡◌, ℕ, ◌+◌, ◌<◌, ◌≤◌, List, [], ◌∷◌, length, get_or, drop, map, Bool, true, false, cond, ◌&&◌, ◌||◌, Option, Some, None, refl, sym, ap, ◌∙◌}
use Rattle.std.specs.Ordering.{is_le}
use Rattle.std.specs.FinMap.{find, get, from_entries}
use Rattle.std.proofs.lemmas.List.{drop_more, drop_all}
use Rattle.std.specs.Option.{option_map_or}
use Rattle.spec_data.specs.Folding.{folded, key_cmp}
use Rattle.spec_data.specs.Scalars.{Scalar, Test, Is, In, holds}
use Rattle.raven_value.specs.ScalarView.{scalar_view}
use Rattle.raven_value.specs.declared.scalar.Scalar.{Scalar as Value}
use Rattle.paged_map.specs.Range.{between}
use Rattle.reference_track.specs.Sets.{is_one_of}
use Rattle.reference_track.proofs.SetLemmas.{is_eq-id_cmp}
use Rattle.term_index.specs.Edges.{low_edge, high_edge}
use Rattle.term_index.specs.Held.{Pairs, held, onto, AreApart, chosen, chosen_onto, passes, passing, passing_onto}
use Rattle.term_index.specs.Marks.{mark_cmp, at_id}
use Rattle.term_index.specs.KeyView.{mark_of, by_mark}
use Rattle.term_index.specs.declared.key.Key.{Key}
use Rattle.term_index.specs.declared.key.Key.TheVariants as k
use Rattle.term_index.specs.declared.key.Term.{Term}
use Rattle.term_index.proofs.Ties.{alike}
use Rattle.term_index.proofs.Changes.{apart-onto, find-alike, find-values}
use Rattle.term_index.proofs.Ranges.{low_covers, high_covers}

both : (a b : Bool) → a ≡ true → b ≡ true → a && b ≡ true
both a b h g = ap (λ c. c && b) h ∙ g

same_both : (c : Bool) (l : List (List ℕ)) → cond c l l ≡ l
same_both true l = refl
same_both false l = refl

module _ (test : Test) (exact : Bool) where
  passing_first : (key : Key) (b : Bool) (rest more : List (List ℕ)) → ((t : Term) → key ≡ k.At t → holds test exact (scalar_view t.value) ≡ true → b ≡ true) → rest ≡ more
      → cond b (passing_onto test exact key rest) rest ≡ passing_onto test exact key more
  passing_first (k.At t) b rest more covers is =
      elim (holds test exact (scalar_view t.value)) as (λ p. holds test exact (scalar_view t.value) ≡ p → cond b (cond p (t.id ∷ rest) rest) rest ≡ cond p (t.id ∷ more) more) [
        | true ↦ λ h. ap (λ c. cond c (t.id ∷ rest) rest) (covers t refl h) ∙ ap (λ l. t.id ∷ l) is
        | false ↦ λ h. same_both b rest ∙ is
      ] refl
  passing_first (k.Before v) b rest more covers is = same_both b rest ∙ is
  passing_first (k.After v) b rest more covers is = same_both b rest ∙ is
  passing_first k.End b rest more covers is = same_both b rest ∙ is

  -- each value that meets the test is between the edges
  pub passing_between : (low high : Key) → mark_of low ≡ low_edge test exact → mark_of high ≡ high_edge test exact → (es : Pairs) → passing test exact (between by_mark low high es) ≡ passing test exact es
  passing_between low high from upto [] = refl
  passing_between low high from upto (e ∷ es) =
      filtered (is_le (by_mark low e.0) && is_le (by_mark e.0 high))
      ∙ passing_first e.0 (is_le (by_mark low e.0) && is_le (by_mark e.0 high)) (passing test exact (between by_mark low high es)) (passing test exact es)
      (λ t is h. both _ _ (ap (λ key. is_le (by_mark low key)) is ∙ (ap (λ m. is_le (mark_cmp m (at_id (scalar_view t.value) t.id))) from ∙ low_covers t.id test exact (scalar_view t.value) h))
      (ap (λ key. is_le (by_mark key high)) is ∙ (ap (λ m. is_le (mark_cmp (at_id (scalar_view t.value) t.id) m)) upto ∙ high_covers t.id test exact (scalar_view t.value) h)))
      (passing_between low high from upto es)
    where
      filtered : (b : Bool) → passing test exact (cond b (e ∷ between by_mark low high es) (between by_mark low high es)) ≡ cond b (passing_onto test exact e.0 (passing test exact (between by_mark low high es))) (passing test exact (between by_mark low high es))
      filtered true = refl
      filtered false = refl

-- THE IDS WHOSE VALUES MEET A CONDITION

module _ (meets : Scalar → Bool) where
  -- there is a value, and it meets the condition
  abbrev is_met : Option Scalar → Bool
  is_met o = option_map_or meets o false

  held_member : (q x : List ℕ) (s : Scalar) (rest : List (List ℕ)) (es : List (List ℕ × Scalar)) → find key_cmp (folded x) es ≡ None → is_one_of q rest ≡ is_met (find key_cmp (folded q) es)
      → is_one_of q (cond (meets s) (x ∷ rest) rest) ≡ is_met (cond (alike (folded q) (folded x)) (Some s) (find key_cmp (folded q) es))
  held_member q x s rest es fresh is =
      elim (alike (folded q) (folded x)) as (λ b. alike (folded q) (folded x) ≡ b → is_one_of q (cond (meets s) (x ∷ rest) rest) ≡ is_met (cond b (Some s) (find key_cmp (folded q) es))) [
        | true ↦ λ h. here h (meets s)
        | false ↦ λ h. there h (meets s)
      ] refl
    where
      here : alike (folded q) (folded x) ≡ true → (p : Bool) → is_one_of q (cond p (x ∷ rest) rest) ≡ p
      here h true = ap (λ b. b || is_one_of q rest) (sym (is_eq-id_cmp q x) ∙ h)
      here h false = is ∙ ap is_met (find-alike (folded q) (folded x) es h ∙ fresh)

      there : alike (folded q) (folded x) ≡ false → (p : Bool) → is_one_of q (cond p (x ∷ rest) rest) ≡ is_met (find key_cmp (folded q) es)
      there h true = ap (λ b. b || is_one_of q rest) (sym (is_eq-id_cmp q x) ∙ h) ∙ is
      there h false = is

  members_onto : (q : List ℕ) (key : Key) (es : Pairs) → AreApart (onto key (held es)) → is_one_of q (chosen meets es) ≡ is_met (find key_cmp (folded q) (held es))
      → is_one_of q (chosen_onto meets key (chosen meets es)) ≡ is_met (find key_cmp (folded q) (onto key (held es)))
  members_onto q (k.At t) es a is = held_member q t.id (scalar_view t.value) (chosen meets es) (held es) a.0 is
  members_onto q (k.Before v) es a is = is
  members_onto q (k.After v) es a is = is
  members_onto q k.End es a is = is

  pub chosen_members : (q : List ℕ) (es : Pairs) → AreApart (held es) → is_one_of q (chosen meets es) ≡ is_met (find key_cmp (folded q) (held es))
  chosen_members q [] a = refl
  chosen_members q (e ∷ es) a = members_onto q e.0 es a (chosen_members q es (apart-onto e.0 (held es) a).1)

  -- the ids of the terms whose values meet the condition are those whose value meets it
  pub found_members : (es : Pairs) → AreApart (held es) → (q : List ℕ) → is_one_of q (chosen meets es) ≡ is_met (get (from_entries {R = key_cmp} (held es)) (folded q))
  found_members es a q = chosen_members q es a ∙ ap is_met (sym (find-values (folded q) (held es)))

-- ONE OF SEVERAL VALUES

in_first : (exact : Bool) (a : Scalar) (more : List Scalar) (o : Option Scalar) → passes (In (a ∷ more)) exact o ≡ passes (Is a) exact o || passes (In more) exact o
in_first exact a more None = refl
in_first exact a more (Some v) = refl

in_none : (exact : Bool) (o : Option Scalar) → passes (In []) exact o ≡ false
in_none exact None = refl
in_none exact (Some v) = refl

grouped : (a b c : Bool) → (a || b) || c ≡ a || (b || c)
grouped true b c = refl
grouped false b c = refl

or_false : (a : Bool) → a || false ≡ a
or_false true = refl
or_false false = refl

-- the ids of one more value are among the ids
pub any_step : (exact : Bool) (values : List Value) (i : ℕ) (a b : Value) (o : Option Scalar) (before more now : Bool) → i < length values → get_or values i a ≡ a → b ≡ a
    → now ≡ before || more → more ≡ passes (Is (scalar_view b)) exact o
    → now || passes (In (map scalar_view (drop (i + 1) values))) exact o ≡ before || passes (In (map scalar_view (drop i values))) exact o
any_step exact values i a b o before more now lt at copy is found =
    ap (λ c. c || passes (In (map scalar_view (drop (i + 1) values))) exact o) (is ∙ ap (λ c. before || c) (found ∙ ap (λ v. passes (Is (scalar_view v)) exact o) copy))
    ∙ (grouped before _ _
    ∙ ap (λ c. before || c) (sym (in_first exact (scalar_view a) (map scalar_view (drop (i + 1) values)) o) ∙ ap (λ l. passes (In (map scalar_view l)) exact o) (sym (drop_more values i a lt ∙ ap (λ z. z ∷ drop (i + 1) values) at))))

pub any_end : (exact : Bool) (values : List Value) (i : ℕ) (o : Option Scalar) (b : Bool) → length values ≤ i → b || passes (In (map scalar_view (drop i values))) exact o ≡ passes (In (map scalar_view values)) exact o → b ≡ passes (In (map scalar_view values)) exact o
any_end exact values i o b past is = sym (or_false b) ∙ (ap (λ c. b || c) (sym (in_none exact o) ∙ ap (λ l. passes (In (map scalar_view l)) exact o) (sym (drop_all i values past))) ∙ is)
