-- Which index covers a shape, and which are retired.
use Rattle.std.proofs.Common.{arith, ◌≡◌, ℕ, zero, suc, ◌+◌, ◌<◌, ◌≤◌, List, [], ◌∷◌, Bool, true, false, not, ◌&&◌, ◌||◌, cond, length, nat_lt, nat_le, Option, Some, None, refl, sym, ap, ◌∙◌, subst, ◌⊎◌, inl, inr, ◌↔◌}
use Rattle.std.proofs.lemmas.Bool.{leb-true, ltb-true}
use Rattle.std.proofs.lemmas.Slice.Eq.{bytes_eq-Decides, slice_eq-Decides}
use Rattle.std.specs.Cmp.Lexicographic.{pointwise}
use Rattle.std.specs.List.{list_all, list_any}
use Rattle.std.specs.Prelude.{Decides}
use Rattle.std.specs.Str.{bytes_eq}
use Rattle.spec_data.specs.Members.{Path}
use Rattle.index_tree.specs.Definitions.{Definition, Static, Auto, AutoReduce}
use Rattle.index_tree.specs.Mapper.{mapper_of, scope_of}
use Rattle.spec_store.specs.Stale.{Unseen, stale}
use Rattle.spec_store.specs.Store.{Store, IsStore}
use Rattle.spec_store.proofs.StaleLemmas.{Unseen-stale, stale-Unseen}
use Rattle.spec_store.proofs.StoreLemmas.{both_true}
use Rattle.spec_index.specs.Optimiser.{Shape, covers, fields_in, has_path, is_alike, is_fresh, is_retired, is_wider, outdoes, retired, same_path, shape_of, slot_shape, widened, width}
use Rattle.spec_index.specs.World.{Slot, World, reads}
use Rattle.spec_server.specs.Sound.{Has, Sound}
use Rattle.raven_laws.specs.Choices.{Covers, IsOutdone}
use Rattle.raven_laws.proofs.SlotLemmas.{passes}
use Rattle.raven_laws.proofs.UnionLemmas.{widened-is}

both_are : (a b : Bool) → a ≡ true → b ≡ true → a && b ≡ true
both_are a b h g = λ i. h i && g i

-- TESTS OF LISTS

any-has : {X : Type 0} (p : X → Bool) (xs : List X) → list_any p xs ≡ true → (x : X) × Has xs x × (p x ≡ true)
any-has p [] h = absurd cc
any-has p (x ∷ xs) h = elim (p x) as (λ b. p x ≡ b → b || list_any p xs ≡ true → (z : _) × ((x ≡ z) ⊎ Has xs z) × (p z ≡ true)) [
  | true ↦ λ e g. (x, inl refl, e)
  | false ↦ λ e g. let r = any-has p xs g in (r.0, inr r.1, r.2)
] refl h

has-any : {X : Type 0} (p : X → Bool) (xs : List X) (x : X) → Has xs x → p x ≡ true → list_any p xs ≡ true
has-any p [] x h is = absurd h
has-any p (y ∷ xs) x (inl e) is = ap (λ b. b || list_any p xs) (ap p e ∙ is)
has-any p (y ∷ xs) x (inr h) is = elim (p y) as (λ b. b || list_any p xs ≡ true) [ true ↦ refl | false ↦ has-any p xs x h is ]

all-has : {X : Type 0} (p : X → Bool) (xs : List X) → list_all p xs ≡ true → (x : X) → Has xs x → p x ≡ true
all-has p [] h x at = absurd at
all-has p (y ∷ xs) h x (inl e) = ap p (sym e) ∙ (both_true (p y) (list_all p xs) h).0
all-has p (y ∷ xs) h x (inr at) = all-has p xs (both_true (p y) (list_all p xs) h).1 x at

has-all : {X : Type 0} (p : X → Bool) (xs : List X) → ((x : X) → Has xs x → p x ≡ true) → list_all p xs ≡ true
has-all p [] h = refl
has-all p (y ∷ xs) h = both_are (p y) (list_all p xs) (h y (inl refl)) (has-all p xs (λ x at. h x (inr at)))

-- SHAPES

path-told : (p q : Path) → Decides (same_path p q) (p ≡ q)
path-told p q = slice_eq-Decides bytes_eq-Decides p q (same_path p q) refl

paths-told : (ps qs : List Path) → Decides (pointwise same_path ps qs) (ps ≡ qs)
paths-told ps qs = slice_eq-Decides path-told ps qs (pointwise same_path ps qs) refl

path-has : (ps : List Path) (p : Path) → (has_path ps p ≡ true) ↔ Has ps p
path-has ps p = (
  λ h. let r = any-has (same_path p) ps h in subst (Has ps) (sym ((path-told p r.0).0 r.2)) r.1,
  λ at. has-any (same_path p) ps p at ((path-told p p).1 refl),
)

same-grouped : (a b : Bool) → cond a b (not b) ≡ true → a ≡ b
same-grouped true true h = refl
same-grouped true false h = absurd cc
same-grouped false true h = absurd cc
same-grouped false false h = refl

grouped-same : (a b : Bool) → a ≡ b → cond a b (not b) ≡ true
grouped-same true b e = sym e
grouped-same false b e = ap not (sym e)

pub covers-told : (a b : Shape) → (covers (Some a) b ≡ true) ↔ Covers a b
covers-told a b = (
  λ h.
      let x = both_true (is_alike a b) (list_all (has_path a.fields) b.fields) h in
      let y = both_true (bytes_eq a.collection b.collection) (cond a.grouped b.grouped (not b.grouped) && pointwise same_path a.groups b.groups) x.0 in
      let z = both_true (cond a.grouped b.grouped (not b.grouped)) (pointwise same_path a.groups b.groups) y.1 in
      record {
        collection = (bytes_eq-Decides a.collection b.collection).0 y.0;
        grouped = same-grouped a.grouped b.grouped z.0;
        groups = (paths-told a.groups b.groups).0 z.1;
        fields = λ p at. (path-has a.fields p).0 (all-has (has_path a.fields) b.fields x.1 p at);
      },
  λ c. both_are (is_alike a b) (list_all (has_path a.fields) b.fields)
      (both_are (bytes_eq a.collection b.collection) (cond a.grouped b.grouped (not b.grouped) && pointwise same_path a.groups b.groups)
      ((bytes_eq-Decides a.collection b.collection).1 c.collection)
      (both_are (cond a.grouped b.grouped (not b.grouped)) (pointwise same_path a.groups b.groups) (grouped-same a.grouped b.grouped c.grouped) ((paths-told a.groups b.groups).1 c.groups)))
      (has-all (has_path a.fields) b.fields (λ p at. (path-has a.fields p).1 (c.fields p at))),
)

Covers-then : (a b c : Shape) → Covers a b → Covers b c → Covers a c
Covers-then a b c f g = record {
  collection = f.collection ∙ g.collection;
  grouped = f.grouped ∙ g.grouped;
  groups = f.groups ∙ g.groups;
  fields = λ p at. f.fields p (g.fields p at);
}

-- what is made for a shape covers it
pub widened-covers : (shape : Shape) (slots : List Slot) → covers (Some (widened shape slots)) shape ≡ true
widened-covers shape slots =
    let w = widened-is shape slots in
    (covers-told (widened shape slots) shape).1 (record {
      collection = w.collection;
      grouped = w.grouped;
      groups = w.groups;
      fields = λ p at. elim w.fields [
        | inl own ↦ subst (λ ps. Has ps p) (sym own.1) at
        | inr all ↦ subst (λ ps. Has ps p) (sym all.1) (w.is_union.all p (inl at))
      ];
    })

-- RETIREMENT

-- b answers all that a answers, has more fields, and is no further back
record Outdoes (b a : Slot) : Type 0 where
  own : Shape
  its : slot_shape a ≡ Some own
  wide : Shape
  other : slot_shape b ≡ Some wide
  covers_it : Covers wide own
  wider : length own.fields < length wide.fields
  ahead : a.version.etag ≤ b.version.etag

outdoes-is : (b a : Slot) → outdoes b a ≡ true → Outdoes b a
outdoes-is b a h =
    let x = both_true (is_wider (slot_shape b) (slot_shape a)) (nat_le a.version.etag b.version.etag) h in
    by (slot_shape b) (slot_shape a) refl refl x.0 (leb-true a.version.etag b.version.etag x.1)
  where
    by : (o p : Option Shape) → slot_shape b ≡ o → slot_shape a ≡ p → is_wider o p ≡ true → a.version.etag ≤ b.version.etag → Outdoes b a
    by o None e f g le = absurd cc
    by None (Some own) e f g le = absurd cc
    by (Some wide) (Some own) e f g le =
        let y = both_true (covers (Some wide) own) (nat_lt (length own.fields) (length wide.fields)) g in
        record { own = own; its = f; wide = wide; other = e; covers_it = (covers-told wide own).0 y.0; wider = ltb-true (length own.fields) (length wide.fields) y.1; ahead = le }

same_some : (a b : Shape) → Some a ≡ Some b → a ≡ b
same_some a b h = cc

Outdoes-then : (c b a : Slot) → Outdoes c b → Outdoes b a → Outdoes c a
Outdoes-then c b a f g =
    let same : g.wide ≡ f.own = same_some g.wide f.own (sym g.other ∙ f.its) in
    record {
      own = g.own;
      its = g.its;
      wide = f.wide;
      other = f.other;
      covers_it = Covers-then f.wide f.own g.own f.covers_it (subst (λ x. Covers x g.own) same g.covers_it);
      wider = let x = f.wider in let y = g.wider in let z : length g.wide.fields ≡ length f.own.fields = ap (λ (s : Shape). length s.fields) same in omega arith;
      ahead = let x = f.ahead in let y = g.ahead in omega arith;
    }

Outdoes-width : (b a : Slot) → Outdoes b a → width a < width b
Outdoes-width b a f =
    let x : width a ≡ length f.own.fields = ap fields_in f.its in
    let y : width b ≡ length f.wide.fields = ap fields_in f.other in
    let z = f.wider in omega arith

-- the fields of all slots together
abbrev all_wide : List Slot → ℕ
all_wide [] = 0
all_wide (x ∷ xs) = width x + all_wide xs

below : (w v a : ℕ) → v ≡ w → w ≤ v + a
below w v a e = omega arith

beyond : (w v a : ℕ) → w ≤ a → w ≤ v + a
beyond w v a h = omega arith

under-all : (slots : List Slot) (x : Slot) → Has slots x → width x ≤ all_wide slots
under-all [] x h = absurd h
under-all (y ∷ slots) x (inl e) = let a : width y ≡ width x = ap width e in below (width x) (width y) (all_wide slots) a
under-all (y ∷ slots) x (inr h) = beyond (width x) (width y) (all_wide slots) (under-all slots x h)

record Final (slots : List Slot) (s : Slot) : Type 0 where
  slot : Slot
  has : Has slots slot
  stays : is_retired slots slot ≡ false
  outdone : Outdoes slot s

stays-or : (slots : List Slot) (s t : Slot) → Has slots t → Outdoes t s → ((c : Slot) → Has slots c → Outdoes c t → Final slots s) → Final slots s
stays-or slots s t at f further = elim (is_retired slots t) as (λ b. is_retired slots t ≡ b → Final slots s) [
  | false ↦ λ e. record { slot = t; has = at; stays = e; outdone = f }
  | true ↦ λ e. let r = any-has (λ b. outdoes b t) slots e in further r.0 r.1 (outdoes-is r.0 t r.2)
] refl

-- among those that outdo it there is one that none outdoes
final : (left : ℕ) (slots : List Slot) (s t : Slot) → Has slots t → Outdoes t s → all_wide slots ≤ width t + left → Final slots s
final zero slots s t at f most =
    stays-or slots s t at f (λ c h g. absurd (let a = under-all slots c h in let b = Outdoes-width c t g in omega arith))
final (suc k) slots s t at f most =
    stays-or slots s t at f (λ c h g. final k slots s c h (Outdoes-then c t s g f) (let b = Outdoes-width c t g in omega arith))

-- both read the same documents
reads-shape : (v : Definition) (a : Shape) → shape_of v ≡ Some a → scope_of (mapper_of v) ≡ a.collection ∷ []
reads-shape (Static map reduce map_text reduce_text) a h = absurd cc
reads-shape (Auto collection fields) a h = ap (λ (s : Shape). s.collection ∷ []) (same_some (record { collection = collection; grouped = false; groups = []; fields = fields }) a h)
reads-shape (AutoReduce collection groups sums) a h = ap (λ (s : Shape). s.collection ∷ []) (same_some (record { collection = collection; grouped = true; groups = groups; fields = sums }) a h)

Outdoes-fresh : (S : Store) (t s : Slot) → IsStore S → Outdoes t s → is_fresh S s ≡ true → is_fresh S t ≡ true
Outdoes-fresh S t s o f fresh =
    let same : reads s.version ≡ reads t.version =
    reads-shape s.version.definition f.own f.its ∙ ap (λ c. c ∷ []) (sym f.covers_it.collection) ∙ sym (reads-shape t.version.definition f.wide f.other) in
    elim (stale S (reads t.version) t.version.etag None) as (λ b. stale S (reads t.version) t.version.etag None ≡ b → not b ≡ true) [
      | false ↦ λ e. refl
      | true ↦ λ e.
          let u = stale-Unseen S (reads t.version) t.version.etag None o e in
          let v : Unseen S (reads s.version) s.version.etag None = subst (λ scope. Unseen S scope s.version.etag None) (sym same)
          (record { id = u.id; row = u.row; found = u.found; read = u.read; past = let a = u.past in let b = f.ahead in omega arith; before = u.before }) in
          let g = Unseen-stale S (reads s.version) s.version.etag None v in
          absurd (let h = ap not g in cc)
    ] refl

pub retired-outdone : (W : World) (s : Slot) → Sound W → Has (retired W.slots) s → (t : Slot) × IsOutdone W.store W.slots s t
retired-outdone W s o at =
    let r = any-has (λ b. outdoes b s) W.slots (passes (is_retired W.slots) W.slots s at) in
    let f = final (all_wide W.slots) W.slots s r.0 r.1 (outdoes-is r.0 s r.2) (omega arith) in
    let d = f.outdone in (
      f.slot,
      record {
        has = f.has;
        stays = f.stays;
        covers_all = λ shape h.
            let own = (covers-told d.own shape).0 (ap (λ x. covers x shape) (sym d.its) ∙ h) in
            ap (λ x. covers x shape) d.other ∙ (covers-told d.wide shape).1 (Covers-then d.wide d.own shape d.covers_it own);
        wider = Outdoes-width f.slot s d;
        ahead = d.ahead;
        fresh = Outdoes-fresh W.store f.slot s o.store d;
      },
    )
