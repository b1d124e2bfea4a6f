-- Terms in the order of their values.
use Rattle.std.proofs.Common.{◌≡◌, ℕ, zero, suc, ◌-◌, ◌++◌, append_assoc, nat_eq, List, [], ◌∷◌, drop, map, take, Bool, true, false, cond, not, ◌&&◌, Some, Ordering, Less, Equal, Greater, refl, sym, ap, ◌∙◌, arith}
use Rattle.std.specs.Cmp.{IsTotalOrder, int_cmp_total, on_total}
use Rattle.std.specs.Cmp.Lexicographic.{nat_list_cmp_total, options_total}
use Rattle.std.specs.Ordering.{int_cmp, nat_cmp, is_eq, is_gt, is_le, ordering_reverse, ordering_then}
use Rattle.std.proofs.lemmas.Bool.Decides.{nat_tests}
use Rattle.std.proofs.lemmas.List.{map-append}
use Rattle.spec_data.specs.Folding.{folded, key_cmp}
use Rattle.spec_data.specs.Scalars.{Scalar, nothing, truth, number, words}
use Rattle.spec_query.specs.Sorting.{number_form, text_form, turned, value_cmp}
use Rattle.raven_value.specs.ScalarView.{scalar_view}
use Rattle.paged_map.specs.Pairs.{AllAnswer, IsRising}
use Rattle.paged_map.specs.Range.{between}
use Rattle.term_index.specs.Edges.{kind_start}
use Rattle.term_index.specs.Held.{AreTerms, Pairs, held}
use Rattle.term_index.specs.KeyView.{by_mark, mark_of}
use Rattle.term_index.specs.Lines.{AllInLine, AreInLine, is_in_line}
use Rattle.term_index.specs.Marks as mark
use Rattle.term_index.specs.Marks.{mark_cmp, at_id, before, after, past_all}
use Rattle.term_index.specs.Ordered.{by_value}
use Rattle.term_index.specs.Totals.{marks_total}
use Rattle.term_index.specs.declared.key.Key.{Key}
use Rattle.term_index.specs.declared.key.Key.TheVariants as k
use Rattle.term_index.specs.declared.key.Term.{Term}
use Rattle.term_index.proofs.Orders.{equal}
use Rattle.term_index.proofs.Places.{AllFrom, NoneAt}
use Rattle.term_index.proofs.Ranges.{first_of_all}
use Rattle.term_index.proofs.Sorts.{AreTies, HasTies, IsFirst, IsUp}
use Rattle.term_index.proofs.Ties.{marks_tie}

no : {A : Type 0} → false ≡ true → A
no h = absurd cc

-- THE ORDER OF VALUES

turned_total : {X : Type 0} {R : X → X → Ordering} → IsTotalOrder R → (desc : Bool) → IsTotalOrder (λ x y. turned desc (R x y))
turned_total {X} {R} o false = o
turned_total {X} {R} o true = record {
  antisymm = λ x y. ap ordering_reverse (o.antisymm x y);
  trans = λ x y z h g. ap ordering_reverse (o.antisymm x z ∙ ap ordering_reverse (o.trans z y x (o.antisymm z y ∙ g) (o.antisymm y x ∙ h)));
  congr = λ x y z h. ap ordering_reverse (o.congr x y z (equal (R x y) h));
}
  where
    equal : (r : Ordering) → ordering_reverse r ≡ Equal → r ≡ Equal
    equal Less h = absurd cc
    equal Equal h = refl
    equal Greater h = absurd cc

value_total : (long : Bool) → IsTotalOrder (value_cmp long)
value_total true = on_total number_form (options_total int_cmp_total)
value_total false = on_total text_form (options_total (on_total folded nat_list_cmp_total))

pub by_value_total : (long desc : Bool) → IsTotalOrder (by_value long desc)
by_value_total long desc = on_total (λ (e : List ℕ × Scalar). e.1) (turned_total (value_total long) desc)

-- VALUES IN LINE

ends_Equal : (o : Ordering) → ordering_then o Equal ≡ o
ends_Equal Less = refl
ends_Equal Equal = refl
ends_Equal Greater = refl

-- marks compare them as the order does
pub in_line_alike : (long : Bool) (v w : Scalar) → is_in_line long v ≡ true → is_in_line long w ≡ true → mark.value_cmp (Some v) (Some w) ≡ value_cmp long v w
in_line_alike true nothing nothing h g = refl
in_line_alike true nothing (number n) h g = refl
in_line_alike true (number m) nothing h g = refl
in_line_alike true (number m) (number n) h g = ends_Equal (int_cmp m n)
in_line_alike true v (truth b) h g = no g
in_line_alike true v (words s) h g = no g
in_line_alike true (truth b) nothing h g = no h
in_line_alike true (truth b) (number n) h g = no h
in_line_alike true (words s) nothing h g = no h
in_line_alike true (words s) (number n) h g = no h
in_line_alike false nothing nothing h g = refl
in_line_alike false nothing (words t) h g = refl
in_line_alike false (words s) nothing h g = refl
in_line_alike false (words s) (words t) h g = refl
in_line_alike false v (truth b) h g = no g
in_line_alike false v (number n) h g = no g
in_line_alike false (truth b) nothing h g = no h
in_line_alike false (truth b) (words t) h g = no h
in_line_alike false (number m) nothing h g = no h
in_line_alike false (number m) (words t) h g = no h

-- TERMS THAT RISE

module _ (long desc : Bool) where
  turned_Equal : (d : Bool) (r : Ordering) → turned d r ≡ Equal → r ≡ Equal
  turned_Equal true Less h = absurd cc
  turned_Equal true Equal h = refl
  turned_Equal true Greater h = absurd cc
  turned_Equal false r h = h

  -- of two equal values, the first has the lower id
  tie_rises : (v w : Scalar) (x y : List ℕ) → mark_cmp (at_id v x) (at_id w y) ≡ Less → is_in_line long v ≡ true → is_in_line long w ≡ true → turned desc (value_cmp long v w) ≡ Equal → key_cmp (folded x) (folded y) ≡ Less
  tie_rises v w x y up h g tie =
      let same : mark.value_cmp (Some v) (Some w) ≡ Equal = in_line_alike long v w h g ∙ turned_Equal desc _ tie in
      sym (ap (λ o. ordering_then o (key_cmp (folded x) (folded y))) same) ∙ up

  module _ (meets : Scalar → Bool) where
    abbrev asked : List ℕ × Scalar → Bool
    asked e = meets e.1

    has_ties : (t : Term) (es : Pairs) → AllAnswer by_mark (k.At t) Less es → (meets (scalar_view t.value) ≡ true → is_in_line long (scalar_view t.value) ≡ true) → AreInLine meets long (held es)
        → HasTies asked (by_value long desc) (folded t.id, scalar_view t.value) (held es)
    has_ties t [] a l ls = tt
    has_ties t ((k.At u, unit) ∷ es) a l ls = (λ p q e. tie_rises (scalar_view t.value) (scalar_view u.value) t.id u.id a.0 (l p) (ls.0 q) e, has_ties t es a.1 l ls.1)
    has_ties t ((k.Before w, unit) ∷ es) a l ls = has_ties t es a.1 l ls
    has_ties t ((k.After w, unit) ∷ es) a l ls = has_ties t es a.1 l ls
    has_ties t ((k.End, unit) ∷ es) a l ls = has_ties t es a.1 l ls

    pub held_ties : (es : Pairs) → IsRising by_mark es → AreInLine meets long (held es) → AreTies asked (by_value long desc) (held es)
    held_ties [] s ls = tt
    held_ties ((k.At t, unit) ∷ es) s ls = (has_ties t es s.0 ls.0 ls.1, held_ties es s.1 ls.1)
    held_ties ((k.Before w, unit) ∷ es) s ls = held_ties es s.1 ls
    held_ties ((k.After w, unit) ∷ es) s ls = held_ties es s.1 ls
    held_ties ((k.End, unit) ∷ es) s ls = held_ties es s.1 ls

-- from the least on, they are in the order of the terms
module _ (long : Bool) where
  not_greater : (r s : Ordering) → ordering_then r s ≡ Less → is_gt r ≡ false
  not_greater Less s h = refl
  not_greater Equal s h = refl
  not_greater Greater s h = absurd cc

  goes_first : (t : Term) (es : Pairs) → AllAnswer by_mark (k.At t) Less es → is_in_line long (scalar_view t.value) ≡ true → AllInLine long (held es)
      → IsFirst (by_value long false) (folded t.id, scalar_view t.value) (held es)
  goes_first t [] a l ls = tt
  goes_first t ((k.At u, unit) ∷ es) a l ls =
      (ap is_gt (sym (in_line_alike long (scalar_view t.value) (scalar_view u.value) l (ls.0 refl))) ∙ not_greater (mark.value_cmp (Some (scalar_view t.value)) (Some (scalar_view u.value))) _ a.0, goes_first t es a.1 l ls.1)
  goes_first t ((k.Before w, unit) ∷ es) a l ls = goes_first t es a.1 l ls
  goes_first t ((k.After w, unit) ∷ es) a l ls = goes_first t es a.1 l ls
  goes_first t ((k.End, unit) ∷ es) a l ls = goes_first t es a.1 l ls

  pub held_up : (es : Pairs) → IsRising by_mark es → AllInLine long (held es) → IsUp (by_value long false) (held es)
  held_up [] s ls = tt
  held_up ((k.At t, unit) ∷ es) s ls = (goes_first t es s.0 (ls.0 refl) ls.1, held_up es s.1 ls.1)
  held_up ((k.Before w, unit) ∷ es) s ls = held_up es s.1 ls
  held_up ((k.After w, unit) ∷ es) s ls = held_up es s.1 ls
  held_up ((k.End, unit) ∷ es) s ls = held_up es s.1 ls

-- WHAT DECIDES

pub exactly : (a b : Bool) → (a ≡ true → b ≡ true) → (b ≡ true → a ≡ true) → a ≡ b
exactly true b f g = sym (f refl)
exactly false true f g = g refl
exactly false false f g = refl

-- EDGES

pub all_from_first : (first : Key) (es : Pairs) → mark_of first ≡ before nothing → AreTerms es → AllFrom by_mark first es
all_from_first first [] h a = tt
all_from_first first ((k.At t, unit) ∷ es) h a = (ap (λ m. is_le (mark_cmp m (at_id (scalar_view t.value) t.id))) h ∙ first_of_all (scalar_view t.value) t.id, all_from_first first es h a.1)
all_from_first first ((k.Before w, unit) ∷ es) h a = absurd a.0
all_from_first first ((k.After w, unit) ∷ es) h a = absurd a.0
all_from_first first ((k.End, unit) ∷ es) h a = absurd a.0

same_side : (s : ℕ) → nat_cmp 1 s ≡ Equal → nat_eq s 1 ≡ false → ⊥
same_side s h g = grind (arith, nat_tests)

-- no term is where an edge is
apart : (r q : Ordering) → q ≡ ordering_reverse r → (is_eq r ≡ true → ⊥) → is_le r ≡ not (is_le q)
apart Less q h n = ap (λ o. not (is_le o)) (sym h)
apart Equal q h n = absurd (n refl)
apart Greater q h n = ap (λ o. not (is_le o)) (sym h)

pub none_at_edge : (low : Key) (es : Pairs) → nat_eq (mark_of low).side 1 ≡ false → AreTerms es → NoneAt by_mark low es
none_at_edge low [] h a = tt
none_at_edge low ((k.At t, unit) ∷ es) h a =
    let here = at_id (scalar_view t.value) t.id in (
      apart (mark_cmp here (mark_of low)) (mark_cmp (mark_of low) here) (marks_total.antisymm (mark_of low) here)
          (λ e. same_side (mark_of low).side (equal (nat_cmp 1 (mark_of low).side) (marks_tie here (mark_of low) e).0) h),
      none_at_edge low es h a.1,
    )
none_at_edge low ((k.Before w, unit) ∷ es) h a = absurd a.0
none_at_edge low ((k.After w, unit) ∷ es) h a = absurd a.0
none_at_edge low ((k.End, unit) ∷ es) h a = absurd a.0

pub kind_edge : (a : Scalar) → nat_eq (kind_start a).side 1 ≡ false
kind_edge nothing = refl
kind_edge (truth b) = refl
kind_edge (number n) = refl
kind_edge (words s) = refl

-- LISTS OF TERMS

pub held_drop : (n : ℕ) (es : Pairs) → AreTerms es → held (drop n es) ≡ drop n (held es)
held_drop zero es a = refl
held_drop (suc n) [] a = refl
held_drop (suc n) ((k.At t, unit) ∷ es) a = held_drop n es a.1
held_drop (suc n) ((k.Before w, unit) ∷ es) a = absurd a.0
held_drop (suc n) ((k.After w, unit) ∷ es) a = absurd a.0
held_drop (suc n) ((k.End, unit) ∷ es) a = absurd a.0

pub terms_between : (low high : Key) (es : Pairs) → AreTerms es → AreTerms (between by_mark low high es)
terms_between low high [] a = tt
terms_between low high (e ∷ es) a =
    elim (is_le (by_mark low e.0) && is_le (by_mark e.0 high)) as (λ b. AreTerms (cond b (e ∷ between by_mark low high es) (between by_mark low high es))) [ true ↦ (a.0, terms_between low high es a.1) | false ↦ terms_between low high es a.1 ]

-- THE PAGE OF ALL

pub none_taken : (n : ℕ) (l : List (List ℕ × Scalar)) → l ≡ [] → take n l ≡ []
none_taken zero l h = refl
none_taken (suc n) [] h = refl
none_taken (suc n) (e ∷ l) h = absurd cc

pub page_none : (size start : ℕ) (es : Pairs) → AreTerms es → [] ≡ drop start es → [] ≡ map (λ e. e.0) (take size (drop start (held es)))
page_none size start es a none =
    sym (ap (λ (l : List (List ℕ × Scalar)). map (λ e. e.0) (take size l)) (sym (held_drop start es a) ∙ ap held (sym none)) ∙ ap (map (λ (e : List ℕ × Scalar). e.0)) (none_taken size [] refl))

-- one more id is in the page
pub page_more : (ids more : List (List ℕ)) (left : ℕ) (t : Term) (es rest : Pairs) → (left ≡ 0 → ⊥) → es ≡ (k.At t, tt) ∷ rest → more ≡ ids ++ t.id ∷ []
    → map folded more ++ map (λ e. e.0) (take (left - 1) (held rest)) ≡ map folded ids ++ map (λ e. e.0) (take left (held es))
page_more ids more zero t es rest n is adds = absurd (n refl)
page_more ids more (suc left) t es rest n is adds =
    ap (λ l. map folded l ++ map (λ e. e.0) (take (suc left - 1) (held rest))) adds
    ∙ (ap (λ l. l ++ map (λ e. e.0) (take (suc left - 1) (held rest))) (map-append folded ids (t.id ∷ []))
    ∙ (append_assoc (map folded ids) (folded t.id ∷ []) (map (λ e. e.0) (take (suc left - 1) (held rest)))
    ∙ (ap (λ m. map folded ids ++ (folded t.id ∷ map (λ e. e.0) (take m (held rest)))) (let e : suc left - 1 ≡ left = omega arith in e)
    ∙ ap (λ (l : Pairs). map folded ids ++ map (λ e. e.0) (take (suc left) (held l))) (sym is))))
