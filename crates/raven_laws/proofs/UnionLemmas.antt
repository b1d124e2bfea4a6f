-- The fields that a new automatic index takes in.
use Rattle.std.proofs.Common.{arith, ◌≡◌, List, [], ◌∷◌, ◌++◌, true, false, ◌||◌, cond, flat_map, length, sum_by, nat_lt, Option, Some, None, Ordering, Less, Equal, Greater, refl, sym, ap, ◌∙◌, subst, ◌⊎◌, inl, inr}
use Rattle.std.proofs.lemmas.Bool.{ltb-true, ltb-false}
use Rattle.std.proofs.lemmas.Cmp.{lists_total, nat_list_cmp_total}
use Rattle.std.proofs.lemmas.Map.Text.{is_eq-slice_cmp}
use Rattle.std.proofs.lemmas.Slice.Eq.{bytes_eq-Decides}
use Rattle.std.specs.Cmp.{IsTotalOrder, then_total, on_total}
use Rattle.std.specs.Cmp.Lexicographic.{slice_cmp}
use Rattle.std.specs.FinMap.{IsAntisymmetric, slice_cmp-IsAntisymmetric}
use Rattle.std.specs.Ordering.{is_eq, match_ordering, ordering_reverse, ordering_then}
use Rattle.spec_data.specs.Folding.{key_cmp}
use Rattle.spec_data.specs.Members.{Path}
use Rattle.index_tree.specs.Mapper.{joined}
use Rattle.spec_index.specs.Optimiser.{Shape, all_fields, fields_alike, in_order, is_alike, is_too_wide, path_order, slot_shape, widened, with_path}
use Rattle.spec_index.specs.World.{Slot}
use Rattle.spec_server.specs.Sound.{Has}
use Rattle.spec_store.proofs.StoreLemmas.{either_false}
use Rattle.raven_laws.specs.Choices.{AreInOrder, HasAlike, IsTooWide, IsUnion, IsWidened}
use Rattle.raven_laws.proofs.SlotLemmas.{Has-append, Has-left, Has-right}

-- THE ORDER OF PATHS

paths-total : IsTotalOrder path_order
paths-total = then_total (on_total joined nat_list_cmp_total) (lists_total nat_list_cmp_total)

pub text_equal : IsAntisymmetric key_cmp
text_equal a b h = (bytes_eq-Decides a b).0 (sym (is_eq-slice_cmp a b) ∙ ap is_eq h)

second-equal : (a b : Ordering) → ordering_then a b ≡ Equal → b ≡ Equal
second-equal Less b h = absurd cc
second-equal Equal b h = h
second-equal Greater b h = absurd cc

-- only the same path is equal
pub path_equal : (p q : Path) → path_order p q ≡ Equal → p ≡ q
path_equal p q h = slice_cmp-IsAntisymmetric text_equal p q (second-equal (key_cmp (joined p) (joined q)) (slice_cmp key_cmp p q) h)

turned : (p q : Path) → path_order p q ≡ Greater → path_order q p ≡ Less
turned p q h = paths-total.antisymm q p ∙ ap ordering_reverse h

not-both : (p q : Path) → path_order p q ≡ Less → path_order q p ≡ Less → ⊥
not-both p q h g = let e = paths-total.antisymm p q ∙ ap ordering_reverse g in let f = sym h ∙ e in cc

pub not-itself : (p : Path) → path_order p p ≡ Less → ⊥
not-itself p h = not-both p p h h

-- IN ORDER

tail-ordered : (p : Path) (ps : List Path) → AreInOrder (p ∷ ps) → AreInOrder ps
tail-ordered p [] h = tt
tail-ordered p (q ∷ ps) h = h.1

-- the first is before all others
least : (p : Path) (ps : List Path) (x : Path) → AreInOrder (p ∷ ps) → Has ps x → path_order p x ≡ Less
least p [] x h at = absurd at
least p (q ∷ ps) x h (inl e) = subst (λ y. path_order p y ≡ Less) e h.0
least p (q ∷ ps) x h (inr at) = paths-total.trans p q x h.0 (least q ps x h.1 at)

ordered-after : (q p : Path) (qs : List Path) → path_order q p ≡ Less → AreInOrder (q ∷ qs) → AreInOrder (with_path p qs) → AreInOrder (q ∷ with_path p qs)
ordered-after q p [] less h more = (less, tt)
ordered-after q p (r ∷ rs) less h more = elim (path_order p r) as (λ o. AreInOrder (match_ordering o (p ∷ r ∷ rs) (r ∷ rs) (r ∷ with_path p rs)) → AreInOrder (q ∷ match_ordering o (p ∷ r ∷ rs) (r ∷ rs) (r ∷ with_path p rs))) [
  | Less ↦ λ m. (less, m)
  | Equal ↦ λ m. h
  | Greater ↦ λ m. (h.0, m)
] more

with-ordered : (p : Path) (qs : List Path) → AreInOrder qs → AreInOrder (with_path p qs)
with-ordered p [] h = tt
with-ordered p (q ∷ qs) h = elim (path_order p q) as (λ o. path_order p q ≡ o → AreInOrder (match_ordering o (p ∷ q ∷ qs) (q ∷ qs) (q ∷ with_path p qs))) [
  | Less ↦ λ e. (e, h)
  | Equal ↦ λ e. h
  | Greater ↦ λ e. ordered-after q p qs (turned p q e) h (with-ordered p qs (tail-ordered q qs h))
] refl

Has-with : (p : Path) (qs : List Path) (x : Path) → Has (with_path p qs) x → (p ≡ x) ⊎ Has qs x
Has-with p [] x (inl e) = inl e
Has-with p [] x (inr no_more) = absurd no_more
Has-with p (q ∷ qs) x h = elim (path_order p q) as (λ o. Has (match_ordering o (p ∷ q ∷ qs) (q ∷ qs) (q ∷ with_path p qs)) x → (p ≡ x) ⊎ ((q ≡ x) ⊎ Has qs x)) [
  | Less ↦ λ g. g
  | Equal ↦ λ g. inr g
  | Greater ↦ λ g. elim g [ inl e ↦ inr (inl e) | inr more ↦ elim (Has-with p qs x more) [ inl e ↦ inl e | inr k ↦ inr (inr k) ] ]
] h

with-Has : (p : Path) (qs : List Path) (x : Path) → (p ≡ x) ⊎ Has qs x → Has (with_path p qs) x
with-Has p [] x h = h
with-Has p (q ∷ qs) x h = elim (path_order p q) as (λ o. path_order p q ≡ o → Has (match_ordering o (p ∷ q ∷ qs) (q ∷ qs) (q ∷ with_path p qs)) x) [
  | Less ↦ λ e. h
  | Equal ↦ λ e. elim h [ inl same ↦ inl (sym (path_equal p q e) ∙ same) | inr k ↦ k ]
  | Greater ↦ λ e. elim h [ inl same ↦ inr (with-Has p qs x (inl same)) | inr k ↦ elim k [ inl same ↦ inl same | inr more ↦ inr (with-Has p qs x (inr more)) ] ]
] refl

pub in_order-ordered : (ps : List Path) → AreInOrder (in_order ps)
in_order-ordered [] = tt
in_order-ordered (p ∷ ps) = with-ordered p (in_order ps) (in_order-ordered ps)

pub Has-in_order : (ps : List Path) (x : Path) → Has (in_order ps) x → Has ps x
Has-in_order [] x h = h
Has-in_order (p ∷ ps) x h = elim (Has-with p (in_order ps) x h) [ inl e ↦ inl e | inr more ↦ inr (Has-in_order ps x more) ]

pub in_order-Has : (ps : List Path) (x : Path) → Has ps x → Has (in_order ps) x
in_order-Has [] x h = h
in_order-Has (p ∷ ps) x (inl e) = with-Has p (in_order ps) x (inl e)
in_order-Has (p ∷ ps) x (inr h) = with-Has p (in_order ps) x (inr (in_order-Has ps x h))

-- two lists in order that have the same paths are the same
same-lists : (ps qs : List Path) → AreInOrder ps → AreInOrder qs → ((x : Path) → Has ps x → Has qs x) → ((x : Path) → Has qs x → Has ps x) → ps ≡ qs
same-lists [] [] a b f g = refl
same-lists [] (q ∷ qs) a b f g = absurd (g q (inl refl))
same-lists (p ∷ ps) [] a b f g = absurd (f p (inl refl))
same-lists (p ∷ ps) (q ∷ qs) a b f g =
    let first : p ≡ q = elim (f p (inl refl)) [
      | inl e ↦ sym e
      | inr at ↦ elim (g q (inl refl)) [
        | inl e ↦ e
        | inr back ↦ absurd (not-both p q (least p ps q a back) (least q qs p b at))
      ]
    ] in
    let rest = same-lists ps qs (tail-ordered p ps a) (tail-ordered q qs b)
    (λ x h. elim (f x (inr h)) [ inr k ↦ k | inl e ↦ absurd (not-itself p (subst (λ y. path_order p y ≡ Less) (sym (first ∙ e)) (least p ps x a h))) ])
    (λ x h. elim (g x (inr h)) [ inr k ↦ k | inl e ↦ absurd (not-itself q (subst (λ y. path_order q y ≡ Less) (sym e ∙ first) (least q qs x b h))) ]) in
    λ i. first i ∷ rest i

-- THE UNION

Has-flat : {X : Type 0} (f : X → List Path) (xs : List X) (p : Path) → Has (flat_map f xs) p → (x : X) × Has xs x × Has (f x) p
Has-flat f [] p h = absurd h
Has-flat f (x ∷ xs) p h = elim (Has-append (f x) (flat_map f xs) p h) [
  | inl a ↦ (x, inl refl, a)
  | inr more ↦ let r = Has-flat f xs p more in (r.0, inr r.1, r.2)
]

flat-Has : {X : Type 0} (f : X → List Path) (xs : List X) (x : X) (p : Path) → Has xs x → Has (f x) p → Has (flat_map f xs) p
flat-Has f [] x p h at = absurd h
flat-Has f (y ∷ xs) x p (inl e) at = Has-left (f y) (flat_map f xs) p (subst (λ z. Has (f z) p) (sym e) at)
flat-Has f (y ∷ xs) x p (inr h) at = Has-right (f y) (flat_map f xs) p (flat-Has f xs x p h at)

alike-fields : (slots : List Slot) (shape : Shape) (t : Slot) (p : Path) → Has slots t → Has (fields_alike shape (slot_shape t)) p → HasAlike slots shape p
alike-fields slots shape t p at h = by (slot_shape t) refl h
  where
    by : (o : Option Shape) → slot_shape t ≡ o → Has (fields_alike shape o) p → HasAlike slots shape p
    by None e g = absurd g
    by (Some own) e g = elim (is_alike own shape) as (λ b. is_alike own shape ≡ b → Has (cond b own.fields []) p → HasAlike slots shape p) [
      | true ↦ λ f k. record { slot = t; there = at; own = own; its = e; alike = f; field = k }
      | false ↦ λ f k. absurd k
    ] refl g

fields-alike : (slots : List Slot) (shape : Shape) (p : Path) → (h : HasAlike slots shape p) → Has (fields_alike shape (slot_shape h.slot)) p
fields-alike slots shape p h =
    subst (λ o. Has (fields_alike shape o) p) (sym h.its) (subst (λ b. Has (cond b h.own.fields []) p) (sym h.alike) h.field)

all-union : (shape : Shape) (slots : List Slot) → IsUnion slots shape (all_fields shape slots)
all-union shape slots =
    let f = λ (s : Slot). fields_alike shape (slot_shape s) in
    record {
      ordered = in_order-ordered (shape.fields ++ flat_map f slots);
      each = λ p h. elim (Has-append shape.fields (flat_map f slots) p (Has-in_order (shape.fields ++ flat_map f slots) p h)) [
        | inl own ↦ inl own
        | inr other ↦ let t = Has-flat f slots p other in inr (alike-fields slots shape t.0 p t.1 t.2)
      ];
      all = λ p h. in_order-Has (shape.fields ++ flat_map f slots) p (elim h [
        | inl own ↦ Has-left shape.fields (flat_map f slots) p own
        | inr other ↦ Has-right shape.fields (flat_map f slots) p (flat-Has f slots other.slot p other.there (fields-alike slots shape p other))
      ]);
    }

-- THE LIMITS

wide : (fields : List Path) → is_too_wide fields ≡ true → IsTooWide fields
wide fields h = elim (nat_lt 64 (length fields)) as (λ b. nat_lt 64 (length fields) ≡ b → b || nat_lt 65536 (sum_by (λ p. length (joined p)) fields) ≡ true → IsTooWide fields) [
  | true ↦ λ e g. inl (ltb-true 64 (length fields) e)
  | false ↦ λ e g. inr (ltb-true 65536 (sum_by (λ p. length (joined p)) fields) g)
] refl h

not-wide : (fields : List Path) → is_too_wide fields ≡ false → IsTooWide fields → ⊥
not-wide fields h =
    let f = either_false (nat_lt 64 (length fields)) (nat_lt 65536 (sum_by (λ p. length (joined p)) fields)) h in
    let a = ltb-false 64 (length fields) f.0 in
    let b = ltb-false 65536 (sum_by (λ p. length (joined p)) fields) f.1 in
    λ w. elim w [ inl x ↦ omega arith | inr x ↦ omega arith ]

pub widened-is : (shape : Shape) (slots : List Slot) → IsWidened slots shape (widened shape slots)
widened-is shape slots =
    let all = all_fields shape slots in
    record {
      collection = refl;
      grouped = refl;
      groups = refl;
      union = all;
      is_union = all-union shape slots;
      fields = elim (is_too_wide all) as (λ b. is_too_wide all ≡ b → (IsTooWide all × (cond b shape.fields all ≡ shape.fields)) ⊎ ((IsTooWide all → ⊥) × (cond b shape.fields all ≡ all))) [
        | true ↦ λ e. inl (wide all e, refl)
        | false ↦ λ e. inr (not-wide all e, refl)
      ] refl;
    }

-- THERE IS ONE

same_shape : (a b : Shape) → a.collection ≡ b.collection → a.grouped ≡ b.grouped → a.groups ≡ b.groups → a.fields ≡ b.fields → a ≡ b
same_shape a b c d e f = λ i. record { collection = c i; grouped = d i; groups = e i; fields = f i }

pub one-widened : (slots : List Slot) (shape m n : Shape) → IsWidened slots shape m → IsWidened slots shape n → m ≡ n
one-widened slots shape m n a b =
    let x = a.is_union in
    let y = b.is_union in
    let same : a.union ≡ b.union = same-lists a.union b.union x.ordered y.ordered (λ p h. y.all p (x.each p h)) (λ p h. x.all p (y.each p h)) in
    same_shape m n (a.collection ∙ sym b.collection) (a.grouped ∙ sym b.grouped) (a.groups ∙ sym b.groups) (elim a.fields [
      | inl w ↦ elim b.fields [
        | inl v ↦ w.1 ∙ sym v.1
        | inr v ↦ absurd (v.0 (subst IsTooWide same w.0))
      ]
      | inr w ↦ elim b.fields [
        | inl v ↦ absurd (w.0 (subst IsTooWide (sym same) v.0))
        | inr v ↦ w.1 ∙ same ∙ sym v.1
      ]
    ])
