-- The shapes that queries ask for, and those of all automatic indexes, have paths that can be stored and read again.
use Rattle.std.proofs.Common.{◌≡◌, ◌⊎◌, ℕ, ◌<◌, List, [], ◌∷◌, ◌++◌, Bool, true, false, not, cond, ◌&&◌, ◌||◌, ◌==◌, nat_lt, length, map, Option, Some, None, option_map, unwrap_or, IfSome, IsUtf8, Less, Equal, Greater, refl, sym, ap, ◌∙◌, subst, arith, inl, inr}
use Rattle.std.specs.Cmp.Lexicographic.{slice_cmp}
use Rattle.std.specs.List.{list_any}
use Rattle.std.specs.Ordering.{is_lt, ordering_then}
use Rattle.spec_data.specs.Folding.{key_cmp}
use Rattle.spec_data.specs.Members.{Path}
use Rattle.index_tree.specs.Definitions.{Definition, Auto, AutoReduce, Static}
use Rattle.index_tree.specs.Mapper.{count_name, joined, sum_name}
use Rattle.spec_query.specs.Fields.{asked_fields, cond_fields, selected_fields}
use Rattle.spec_query.specs.Query.{At, Cond, Query, Sum}
use Rattle.spec_index.specs.Optimiser.{Shape, definition_of, path_order, shape_of, widened}
use Rattle.spec_index.specs.World.{Slot, is_automatic}
use Rattle.spec_server.specs.Requests.{Auto as AutoOne}
use Rattle.spec_server.specs.Indexing.{one_field}
use Rattle.spec_server.specs.Opening.{are_rising, is_part}
use Rattle.spec_server.specs.Shapes.{shape_asked}
use Rattle.spec_server.specs.Sound.{Has}
use Rattle.spec_store.proofs.StoreLemmas.{both_true, either_false}
use Rattle.raven_laws.specs.Asked.{AreTold, AsksGroups, AsksPlain}
use Rattle.raven_laws.specs.Choices.{AreInOrder, HasAlike}
use Rattle.raven_laws.proofs.AskLemmas.{asked-shape}
use Rattle.raven_laws.proofs.UnionLemmas.{not-itself, text_equal, widened-is}
use Rattle.raven_reading.specs.Requests.{AreAll, AreFields, ArePaths, IsAsked, IsField, IsIndexing, IsPart, IsPath}
use Rattle.raven_reading.proofs.AskedLemmas.{all-append}
use Rattle.raven_reopening.specs.Form.{AreKept, IsKept}

pub record IsKeptShape (shape : Shape) : Type 0 where
  pub collection : IsUtf8 shape.collection
  pub groups : AreKept shape.groups
  pub fields : AreKept shape.fields

none-kept : AreKept []
none-kept = record { paths = tt; rising = refl }

-- JOINED FORMS TELL PATHS APART

abbrev HasNoDot : List ℕ → Type 0
HasNoDot [] = Unit {0}
HasNoDot (b ∷ bs) = ((b == 46) ≡ false) × HasNoDot bs

abbrev is_break : ℕ → Bool
is_break b = (b == 46) || (b == 40) || (b == 41)

no-dot : (bs : List ℕ) → list_any is_break bs ≡ false → HasNoDot bs
no-dot [] h = tt
no-dot (b ∷ bs) h =
    let e = either_false (is_break b) (list_any is_break bs) h in
    let f = either_false ((b == 46) || (b == 40)) (b == 41) e.0 in
    let g = either_false (b == 46) (b == 40) f.0 in (g.0, no-dot bs e.1)

part-no-dot : (part : List ℕ) → is_part part ≡ true → HasNoDot part
part-no-dot part h = let f = both_true (nat_lt 0 (length part)) (not (list_any is_break part)) h in no-dot part (no (list_any is_break part) f.1)
  where
    no : (b : Bool) → not b ≡ true → b ≡ false
    no true e = absurd cc
    no false e = refl

no-dot-in : (y s : List ℕ) → HasNoDot (y ++ 46 ∷ s) → ⊥
no-dot-in [] s h = let e : true ≡ false = h.0 in cc
no-dot-in (b ∷ y) s h = no-dot-in y s h.1

same-cons : (b c : ℕ) (bs cs : List ℕ) → b ∷ bs ≡ c ∷ cs → (b ≡ c) × (bs ≡ cs)
same-cons b c bs cs h = (cc, cc)

dot-first : (c : ℕ) → 46 ≡ c → (c == 46) ≡ false → ⊥
dot-first c e f = let g : true ≡ false = subst (λ x. (x == 46) ≡ false) (sym e) f in cc

-- the first dot parts a text in one way
parted : (x y r s : List ℕ) → HasNoDot x → HasNoDot y → x ++ 46 ∷ r ≡ y ++ 46 ∷ s → (x ≡ y) × (r ≡ s)
parted [] [] r s f g h = (refl, (same-cons 46 46 r s h).1)
parted [] (c ∷ y) r s f g h = absurd (dot-first c (same-cons 46 c r (y ++ 46 ∷ s) h).0 g.0)
parted (b ∷ x) [] r s f g h = absurd (dot-first b (sym (same-cons b 46 (x ++ 46 ∷ r) s h).0) f.0)
parted (b ∷ x) (c ∷ y) r s f g h =
    let both = same-cons b c (x ++ 46 ∷ r) (y ++ 46 ∷ s) h in
    let more = parted x y r s f.1 g.1 both.1 in (λ i. both.0 i ∷ more.0 i, more.1)

joined-apart : (p q : Path) → AreAll IsPart p → AreAll IsPart q → 0 < length p → 0 < length q → joined p ≡ joined q → p ≡ q
joined-apart [] q a b some any h = absurd (omega arith)
joined-apart (x ∷ p) [] a b some any h = absurd (omega arith)
joined-apart (x ∷ []) (y ∷ []) a b some any h = λ i. h i ∷ []
joined-apart (x ∷ []) (y ∷ z ∷ q) a b some any h = absurd (no-dot-in y (joined (z ∷ q)) (subst HasNoDot h (part-no-dot x a.0.1)))
joined-apart (x ∷ w ∷ p) (y ∷ []) a b some any h = absurd (no-dot-in x (joined (w ∷ p)) (subst HasNoDot (sym h) (part-no-dot y b.0.1)))
joined-apart (x ∷ w ∷ p) (y ∷ z ∷ q) a b some any h =
    let cut = parted x y (joined (w ∷ p)) (joined (z ∷ q)) (part-no-dot x a.0.1) (part-no-dot y b.0.1) h in
    let more = joined-apart (w ∷ p) (z ∷ q) a.1 b.1 (omega arith) (omega arith) cut.1 in λ i. cut.0 i ∷ more i

-- PATHS IN ORDER

below-next : (p q : Path) → IsPath p → IsPath q → path_order p q ≡ Less → is_lt (key_cmp (joined p) (joined q)) ≡ true
below-next p q a b h = elim (key_cmp (joined p) (joined q)) as (λ o. key_cmp (joined p) (joined q) ≡ o → ordering_then o (slice_cmp key_cmp p q) ≡ Less → is_lt o ≡ true) [
  | Less ↦ λ e g. refl
  | Equal ↦ λ e g. absurd (let same = joined-apart p q a.1 b.1 a.0 b.0 (text_equal (joined p) (joined q) e) in not-itself p (subst (λ x. path_order p x ≡ Less) (sym same) h))
  | Greater ↦ λ e g. absurd cc
] refl h

in-order-rising : (ps : List Path) → AreInOrder ps → ArePaths ps → are_rising ps ≡ true
in-order-rising [] o h = refl
in-order-rising (p ∷ []) o h = refl
in-order-rising (p ∷ q ∷ ps) o h = λ i. below-next p q h.0 h.1.0 o.0 i && in-order-rising (q ∷ ps) o.1 h.1 i

pub all-has : {A : Type 0} (P : A → Type 0) (xs : List A) (x : A) → AreAll P xs → Has xs x → P x
all-has P [] x h at = absurd at
all-has P (y ∷ xs) x h (inl e) = subst P e h.0
all-has P (y ∷ xs) x h (inr at) = all-has P xs x h.1 at

has-all : {A : Type 0} (P : A → Type 0) (xs : List A) → ((x : A) → Has xs x → P x) → AreAll P xs
has-all P [] f = tt
has-all P (x ∷ xs) f = (f x (inl refl), has-all P xs (λ y at. f y (inr at)))

all-mapped : {A B : Type 0} (P : B → Type 0) (f : A → B) (xs : List A) → AreAll (λ x. P (f x)) xs → AreAll P (map f xs)
all-mapped P f [] h = tt
all-mapped P f (x ∷ xs) h = (h.0, all-mapped P f xs h.1)

kept-ordered : (ps : List Path) → AreInOrder ps → ((p : Path) → Has ps p → IsPath p) → AreKept ps
kept-ordered ps o f = let paths = has-all IsPath ps f in record { paths = paths; rising = in-order-rising ps o paths }

-- WHAT A QUERY ASKS

cond-paths : (o : Option Cond) → IfSome o (λ a. AreFields (cond_fields a)) → AreFields (unwrap_or (option_map cond_fields o) [])
cond-paths None h = tt
cond-paths (Some a) h = h

asked-paths : (q : Query) → IsAsked q → AreFields (asked_fields q)
asked-paths q a = all-append IsField (unwrap_or (option_map cond_fields q.cond) []) (map (λ s. s.field) q.sorts) (cond-paths q.cond a.cond) (all-mapped IsField (λ s. s.field) q.sorts a.sorts)

all-paths : (q : Query) → IsAsked q → AreFields (asked_fields q ++ selected_fields q)
all-paths q a = all-append IsField (asked_fields q) (selected_fields q) (asked-paths q a) (all-mapped IsField (λ c. c.field) q.columns a.columns)

plain-kept : (collection : List ℕ) (q : Query) (shape : Shape) → IsUtf8 collection → IsAsked q → AsksPlain collection q shape → IsKeptShape shape
plain-kept collection q shape u a x = record {
  collection = subst IsUtf8 (sym x.collection_is) u;
  groups = subst AreKept (sym x.groups) none-kept;
  fields = kept-ordered shape.fields x.ordered (λ p h. all-has IsField (asked_fields q) (At p) (asked-paths q a) ((x.fields p).0 h));
}

grouped-kept : (collection : List ℕ) (q : Query) (shape : Shape) → IsUtf8 collection → IsAsked q → AsksGroups collection q shape → IsKeptShape shape
grouped-kept collection q shape u a x = record {
  collection = subst IsUtf8 (sym x.collection_is) u;
  groups = kept-ordered shape.groups x.groups_ordered (λ p h. all-has IsPath q.groups p a.groups ((x.groups p).0 h));
  fields = kept-ordered shape.fields x.ordered (λ p h. all-has IsField (asked_fields q ++ selected_fields q) (Sum p) (all-paths q a) ((x.sums p).0 h));
}

pub asked-kept : (collection : List ℕ) (q : Query) → IsUtf8 collection → IsAsked q → IsKeptShape (shape_asked collection q)
asked-kept collection q u a = elim (asked-shape collection q) [
  | inl x ↦ plain-kept collection q (shape_asked collection q) u a x.1
  | inr x ↦ grouped-kept collection q (shape_asked collection q) u a x.1
]

-- of an AUTO
pub one-kept : (c f : List ℕ) → IsIndexing (AutoOne c f) → IsKeptShape (one_field c f)
one-kept c f h = record { collection = h.0; groups = none-kept; fields = record { paths = ((omega arith, ((h.1.0, h.1.1), tt)), tt); rising = refl } }

-- WHAT A NEW INDEX TAKES IN

same_shape : (a b : Shape) → Some a ≡ Some b → a ≡ b
same_shape a b h = cc

shape-kept : (d : Definition) (own : Shape) → IsKept d → shape_of d ≡ Some own → IsKeptShape own
shape-kept (Static map reduce map_text reduce_text) own k h = absurd cc
shape-kept (Auto collection fields) own k h = subst IsKeptShape (same_shape _ own h) (record { collection = k.0; groups = none-kept; fields = k.1 })
shape-kept (AutoReduce collection groups sums) own k h = subst IsKeptShape (same_shape _ own h) (record { collection = k.0; groups = k.1.0; fields = k.1.1 })

pub widened-kept : (shape : Shape) (slots : List Slot) → ((s : Slot) → Has slots s → IsKept s.version.definition) → IsKeptShape shape → IsKeptShape (widened shape slots)
widened-kept shape slots all k =
    let w = widened-is shape slots in
    record {
      collection = k.collection;
      groups = k.groups;
      fields = elim w.fields [
        | inl own ↦ subst AreKept (sym own.1) k.fields
        | inr other ↦ subst AreKept (sym other.1) (kept-ordered w.union w.is_union.ordered (λ p h. by p (w.is_union.each p h)))
      ];
    }
  where
    by : (p : Path) → Has shape.fields p ⊎ HasAlike slots shape p → IsPath p
    by p (inl own) = all-has IsPath shape.fields p k.fields.paths own
    by p (inr other) = all-has IsPath other.own.fields p (shape-kept other.slot.version.definition other.own (all other.slot other.there) other.its).fields.paths other.field

pub made-automatic : (shape : Shape) → is_automatic (definition_of shape) ≡ true
made-automatic shape = elim shape.grouped as (λ b. is_automatic (cond b (AutoReduce shape.collection shape.groups shape.fields) (Auto shape.collection shape.fields)) ≡ true) [ true ↦ refl | false ↦ refl ]

pub made-kept : (shape : Shape) → IsKeptShape shape → IsKept (definition_of shape)
made-kept shape k = elim shape.grouped as (λ b. IsKept (cond b (AutoReduce shape.collection shape.groups shape.fields) (Auto shape.collection shape.fields))) [
  | true ↦ (k.collection, (k.groups, k.fields))
  | false ↦ (k.collection, k.fields)
]

-- THEIR JOINED FORMS TELL THEM APART

pub kept-apart : (fields : List Path) (p q : Path) → AreKept fields → Has fields p → Has fields q → joined p ≡ joined q → p ≡ q
kept-apart fields p q k a b h =
    let x = all-has IsPath fields p k.paths a in let y = all-has IsPath fields q k.paths b in joined-apart p q x.1 y.1 x.0 y.0 h

-- NAMES OF FIELDS, with groups

-- the text has a `(`
abbrev has_open : List ℕ → Bool
has_open bs = list_any (λ b. b == 40) bs

no-open : (bs : List ℕ) → list_any is_break bs ≡ false → has_open bs ≡ false
no-open [] h = refl
no-open (b ∷ bs) h =
    let e = either_false (is_break b) (list_any is_break bs) h in
    let f = either_false ((b == 46) || (b == 40)) (b == 41) e.0 in
    let g = either_false (b == 46) (b == 40) f.0 in λ i. g.1 i || no-open bs e.1 i

part-no-open : (part : List ℕ) → is_part part ≡ true → has_open part ≡ false
part-no-open part h = let f = both_true (nat_lt 0 (length part)) (not (list_any is_break part)) h in no-open part (no (list_any is_break part) f.1)
  where
    no : (b : Bool) → not b ≡ true → b ≡ false
    no true e = absurd cc
    no false e = refl

none-append : (xs ys : List ℕ) → has_open xs ≡ false → has_open ys ≡ false → has_open (xs ++ ys) ≡ false
none-append [] ys h g = g
none-append (x ∷ xs) ys h g = let e = either_false (x == 40) (has_open xs) h in λ i. e.0 i || none-append xs ys e.1 g i

joined-no-open : (p : Path) → AreAll IsPart p → has_open (joined p) ≡ false
joined-no-open [] a = refl
joined-no-open (x ∷ []) a = part-no-open x a.0.1
joined-no-open (x ∷ y ∷ p) a = none-append x (46 ∷ joined (y ∷ p)) (part-no-open x a.0.1) (joined-no-open (y ∷ p) a.1)

has-no-open : (fields : List Path) (p : Path) → AreKept fields → Has fields p → has_open (joined p) ≡ false
has-no-open fields p k at = let is = all-has IsPath fields p k.paths at in joined-no-open p is.1

-- a text without a `(` is none with one
apart-by-open : (xs ys : List ℕ) → has_open xs ≡ false → has_open ys ≡ true → xs ≡ ys → ⊥
apart-by-open xs ys h g e = let f : false ≡ true = sym h ∙ ap has_open e ∙ g in cc

abbrev past_sum : List ℕ → List ℕ
past_sum (a ∷ b ∷ c ∷ d ∷ rest) = rest
past_sum other = other

not-last : (xs : List ℕ) (c : ℕ) → [] ≡ xs ++ c ∷ [] → ⊥
not-last [] c h = cc
not-last (x ∷ xs) c h = cc

same-front : (xs ys : List ℕ) (c : ℕ) → xs ++ c ∷ [] ≡ ys ++ c ∷ [] → xs ≡ ys
same-front [] [] c h = refl
same-front [] (y ∷ ys) c h = absurd (not-last ys c (same-cons c y [] (ys ++ c ∷ []) h).1)
same-front (x ∷ xs) [] c h = absurd (not-last xs c (sym (same-cons x c (xs ++ c ∷ []) [] h).1))
same-front (x ∷ xs) (y ∷ ys) c h = let both = same-cons x y (xs ++ c ∷ []) (ys ++ c ∷ []) h in λ i. both.0 i ∷ same-front xs ys c both.1 i

pub names-apart : (groups sums : List Path) → AreKept groups → AreKept sums → AreTold groups sums
names-apart groups sums k l = record {
  groups_told = λ p q at there e. kept-apart groups p q k at there e;
  sums_told = λ p q at there e. kept-apart sums p q l at there (same-front (joined p) (joined q) 41 (ap past_sum e));
  no_count = λ p at e. apart-by-open (joined p) count_name (has-no-open groups p k at) refl e;
  no_sum = λ p q at there e. apart-by-open (joined p) (sum_name q) (has-no-open groups p k at) refl e;
}
