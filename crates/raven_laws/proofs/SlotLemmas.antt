-- Lists of slots, and versions that a batch advances.
use Rattle.std.proofs.Common.{◌≡◌, ℕ, zero, suc, ◌<◌, ◌≤◌, List, [], ◌∷◌, ◌++◌, Bool, true, false, not, ◌&&◌, ◌||◌, ◌==◌, nat_eq, nat_lt, cond, codes, length, drop, Some, None, filter, find, map, refl, sym, ap, ◌∙◌, subst, arith, ◌⊎◌, inl, inr}
use Rattle.std.proofs.lemmas.Bool.{eq-eqb, eqb-true, ltb-false}
use Rattle.std.specs.List.{list_all, list_any, starts_with}
use Rattle.std.specs.FinMap.{get, get-empty}
use Rattle.spec_data.specs.Faults.{replacement_of}
use Rattle.spec_data.specs.Folding.{folded, key_cmp, same_key}
use Rattle.spec_data.specs.Rows.{Row}
use Rattle.spec_store.specs.Store.{Store, IsStore, last_of}
use Rattle.spec_store.specs.Later.{Later}
use Rattle.spec_index.specs.Index.{Agrees, etag_of_batch}
use Rattle.spec_store.specs.Stale.{batch_rows, newest, stale, up_to}
use Rattle.spec_data.specs.Tables.{Scope, in_scope, note_rows}
use Rattle.index_tree.specs.Definitions.{Definition}
use Rattle.spec_index.specs.World.{Version, Slot, reads, new_version, advanced, batch, begins_with_auto, begins_with_replacement, is_reserved_name, replaced_name, serving, without}
use Rattle.spec_server.specs.Workers.{was_cleaned}
use Rattle.spec_server.specs.Sound.{Has, Fits, StillFits, NumbersRise, NamesApart, HaveTheirSlots}
use Rattle.spec_store.proofs.StoreLemmas.{both_true, either_false, found_etag, same_itself, same_means}
use Rattle.raven_laws.proofs.IndexLemmas.{Taken, Agrees-later, Agrees-batch, Taken-batch}

-- MEMBERSHIP

pub Has-append : {X : Type 0} (xs ys : List X) (x : X) → Has (xs ++ ys) x → Has xs x ⊎ Has ys x
Has-append [] ys x h = inr h
Has-append (y ∷ xs) ys x (inl e) = inl (inl e)
Has-append (y ∷ xs) ys x (inr h) = elim (Has-append xs ys x h) [ inl a ↦ inl (inr a) | inr b ↦ inr b ]

pub Has-left : {X : Type 0} (xs ys : List X) (x : X) → Has xs x → Has (xs ++ ys) x
Has-left [] ys x h = absurd h
Has-left (y ∷ xs) ys x (inl e) = inl e
Has-left (y ∷ xs) ys x (inr h) = inr (Has-left xs ys x h)

pub Has-right : {X : Type 0} (xs ys : List X) (x : X) → Has ys x → Has (xs ++ ys) x
Has-right [] ys x h = h
Has-right (y ∷ xs) ys x h = inr (Has-right xs ys x h)

pub Has-filter : {X : Type 0} (p : X → Bool) (xs : List X) (x : X) → Has (filter p xs) x → Has xs x
Has-filter p [] x h = h
Has-filter p (y ∷ xs) x h =
    elim (p y) as (λ b. Has (cond b (y ∷ filter p xs) (filter p xs)) x → (y ≡ x) ⊎ Has xs x) [
      | true ↦ λ g. elim g [ inl e ↦ inl e | inr k ↦ inr (Has-filter p xs x k) ]
      | false ↦ λ g. inr (Has-filter p xs x g)
    ] h

pub passes : {X : Type 0} (p : X → Bool) (xs : List X) (x : X) → Has (filter p xs) x → p x ≡ true
passes p [] x h = absurd h
passes p (y ∷ xs) x h =
    elim (p y) as (λ b. p y ≡ b → Has (cond b (y ∷ filter p xs) (filter p xs)) x → p x ≡ true) [
      | true ↦ λ e g. elim g [ inl same ↦ ap p (sym same) ∙ e | inr more ↦ passes p xs x more ]
      | false ↦ λ e g. passes p xs x g
    ] refl h

pub into-filter : {X : Type 0} (p : X → Bool) (xs : List X) (x : X) → Has xs x → p x ≡ true → Has (filter p xs) x
into-filter p [] x h is = absurd h
into-filter p (y ∷ xs) x (inl e) is = subst (λ b. Has (cond b (y ∷ filter p xs) (filter p xs)) x) (sym (ap p e ∙ is)) (inl e)
into-filter p (y ∷ xs) x (inr h) is = elim (p y) as (λ b. Has (cond b (y ∷ filter p xs) (filter p xs)) x) [
  | true ↦ inr (into-filter p xs x h is)
  | false ↦ into-filter p xs x h is
]

-- an element of a mapped list comes from one of the list
pub Has-map : {X Y : Type 0} (f : X → Y) (xs : List X) (y : Y) → Has (map f xs) y → (x : X) × Has xs x × (f x ≡ y)
Has-map f [] y h = absurd h
Has-map f (x ∷ xs) y (inl e) = (x, inl refl, e)
Has-map f (x ∷ xs) y (inr h) = let r = Has-map f xs y h in (r.0, inr r.1, r.2)

pub Has-mapped : {X Y : Type 0} (f : X → Y) (xs : List X) (x : X) → Has xs x → Has (map f xs) (f x)
Has-mapped f [] x h = absurd h
Has-mapped f (y ∷ xs) x (inl e) = inl (ap f e)
Has-mapped f (y ∷ xs) x (inr h) = inr (Has-mapped f xs x h)

pub find-Has : {X : Type 0} (p : X → Bool) (xs : List X) (x : X) → find p xs ≡ Some x → Has xs x × (p x ≡ true)
find-Has p [] x h = absurd cc
find-Has p (y ∷ xs) x h =
    elim (p y) as (λ b. p y ≡ b → cond b (Some y) (find p xs) ≡ Some x → ((y ≡ x) ⊎ Has xs x) × (p x ≡ true)) [
      | true ↦ λ e is. let same : y ≡ x = cc in (inl same, subst (λ z. p z ≡ true) same e)
      | false ↦ λ e is. let r = find-Has p xs x is in (inr r.0, r.1)
    ] refl h

-- TESTS OF LISTS

pub every : {X : Type 0} (p : X → Bool) (xs : List X) (x : X) → list_all p xs ≡ true → Has xs x → p x ≡ true
every p [] x h at = absurd at
every p (y ∷ xs) x h (inl e) = ap p (sym e) ∙ (both_true (p y) (list_all p xs) h).0
every p (y ∷ xs) x h (inr more) = every p xs x (both_true (p y) (list_all p xs) h).1 more

pub some : {X : Type 0} (p : X → Bool) (xs : List X) → list_any p xs ≡ true → (x : X) × Has xs x × (p x ≡ true)
some p [] h = absurd cc
some p (x ∷ xs) h = elim (p x) as (λ b. p x ≡ b → (b || list_any p xs) ≡ true → (y : _) × Has (x ∷ xs) y × (p y ≡ true)) [
  | true ↦ λ e g. (x, inl refl, e)
  | false ↦ λ e g. let f = some p xs g in (f.0, inr f.1, f.2)
] refl h

pub none_passes : {X : Type 0} (p : X → Bool) (xs : List X) (x : X) → list_any p xs ≡ false → Has xs x → p x ≡ false
none_passes p [] x h at = absurd at
none_passes p (y ∷ xs) x h (inl e) = ap p (sym e) ∙ (either_false (p y) (list_any p xs) h).0
none_passes p (y ∷ xs) x h (inr more) = none_passes p xs x (either_false (p y) (list_any p xs) h).1 more

-- NUMBERS

pub NumbersRise-map : (low : ℕ) (f : Slot → Slot) (slots : List Slot) → ((s : Slot) → (f s).number ≡ s.number) → NumbersRise low slots → NumbersRise low (map f slots)
NumbersRise-map low f [] keeps up = tt
NumbersRise-map low f (s ∷ slots) keeps up =
    (let a = up.0 in let e = keeps s in omega arith, subst (λ n. NumbersRise n (map f slots)) (sym (keeps s)) (NumbersRise-map s.number f slots keeps up.1))

pub NumbersRise-push : (low : ℕ) (slots : List Slot) (new : Slot) → NumbersRise low slots → low < new.number → ((s : Slot) → Has slots s → s.number < new.number) → NumbersRise low (slots ++ new ∷ [])
NumbersRise-push low [] new up h below = (h, tt)
NumbersRise-push low (s ∷ slots) new up h below = (up.0, NumbersRise-push s.number slots new up.1 (below s (inl refl)) (λ x at. below x (inr at)))

pub above : (low : ℕ) (slots : List Slot) (s : Slot) → NumbersRise low slots → Has slots s → low < s.number
above low [] s up h = absurd h
above low (x ∷ slots) s up (inl e) = subst (λ (y : Slot). low < y.number) e up.0
above low (x ∷ slots) s up (inr h) = let a = above x.number slots s up.1 h in let b = up.0 in omega arith

-- one slot at most has a number
pub same_slot : (low : ℕ) (slots : List Slot) (s t : Slot) → NumbersRise low slots → Has slots s → Has slots t → s.number ≡ t.number → s ≡ t
same_slot low [] s t up h g e = absurd h
same_slot low (x ∷ slots) s t up (inl a) (inl b) e = sym a ∙ b
same_slot low (x ∷ slots) s t up (inl a) (inr b) e = absurd (let f = above x.number slots t up.1 b in let n = ap (λ (y : Slot). y.number) a in omega arith)
same_slot low (x ∷ slots) s t up (inr a) (inl b) e = absurd (let f = above x.number slots s up.1 a in let n = ap (λ (y : Slot). y.number) b in omega arith)
same_slot low (x ∷ slots) s t up (inr a) (inr b) e = same_slot x.number slots s t up.1 a b e

pub NumbersRise-lower : (low high : ℕ) (slots : List Slot) → low ≤ high → NumbersRise high slots → NumbersRise low slots
NumbersRise-lower low high [] le up = tt
NumbersRise-lower low high (s ∷ slots) le up = (let a = up.0 in omega arith, up.1)

pub NumbersRise-filter : (low : ℕ) (p : Slot → Bool) (slots : List Slot) → NumbersRise low slots → NumbersRise low (filter p slots)
NumbersRise-filter low p [] up = tt
NumbersRise-filter low p (s ∷ slots) up = elim (p s) as (λ b. NumbersRise low (cond b (s ∷ filter p slots) (filter p slots))) [
  | true ↦ (up.0, NumbersRise-filter s.number p slots up.1)
  | false ↦ NumbersRise-filter low p slots (NumbersRise-lower low s.number slots (let a = up.0 in omega arith) up.1)
]

-- NAMES

pub NamesApart-map : (f : Slot → Slot) (slots : List Slot) → ((s : Slot) → (f s).name ≡ s.name) → NamesApart slots → NamesApart (map f slots)
NamesApart-map f slots keeps apart s t h g e =
    let x = Has-map f slots s h in
    let y = Has-map f slots t g in
    let same = apart x.0 y.0 x.1 y.1 (ap folded (sym (keeps x.0) ∙ ap (λ (z : Slot). z.name) x.2) ∙ e ∙ ap folded (sym (ap (λ (z : Slot). z.name) y.2) ∙ keeps y.0)) in
    sym x.2 ∙ ap f same ∙ y.2

pub NamesApart-push : (slots : List Slot) (new : Slot) → NamesApart slots → ((s : Slot) → Has slots s → folded s.name ≡ folded new.name → ⊥) → NamesApart (slots ++ new ∷ [])
NamesApart-push slots new apart free s t h g e = elim (Has-append slots (new ∷ []) s h) [
  | inl a ↦ elim (Has-append slots (new ∷ []) t g) [
    | inl b ↦ apart s t a b e
    | inr (inl k) ↦ absurd (free s a (e ∙ ap (λ (z : Slot). folded z.name) (sym k)))
    | inr (inr no_more) ↦ absurd no_more
  ]
  | inr (inl k) ↦ elim (Has-append slots (new ∷ []) t g) [
    | inl b ↦ absurd (free t b (sym e ∙ ap (λ (z : Slot). folded z.name) (sym k)))
    | inr (inl l) ↦ sym k ∙ l
    | inr (inr no_more) ↦ absurd no_more
  ]
  | inr (inr no_more) ↦ absurd no_more
]

pub NamesApart-filter : (p : Slot → Bool) (slots : List Slot) → NamesApart slots → NamesApart (filter p slots)
NamesApart-filter p slots apart s t h g e = apart s t (Has-filter p slots s h) (Has-filter p slots t g) e

-- if no slot serves a name, no slot has it
pub unserved : (slots : List Slot) (name : List ℕ) → serving slots name ≡ None → (s : Slot) → Has slots s → folded s.name ≡ folded name → ⊥
unserved [] name h s at e = at
unserved (x ∷ slots) name h s (inl k) e =
    let t = subst (λ q. same_key q (folded x.name) ≡ true) (ap (λ (z : Slot). folded z.name) k ∙ e) (same_itself (folded x.name)) in
    let f = sym (ap (λ b. cond b (Some x) (serving slots name)) t) ∙ h in cc
unserved (x ∷ slots) name h s (inr k) e =
    unserved slots name (elim (same_key (folded name) (folded x.name)) as (λ b. cond b (Some x) (serving slots name) ≡ None → serving slots name ≡ None) [ true ↦ λ f. absurd cc | false ↦ λ f. f ] h) s k e

-- the slot that serves a name has it
pub served : (slots : List Slot) (name : List ℕ) (s : Slot) → serving slots name ≡ Some s → Has slots s × (folded name ≡ folded s.name)
served slots name s h = let f = find-Has (λ x. same_key (folded name) (folded x.name)) slots s h in (f.0, same_means (folded name) (folded s.name) f.1)

-- each slot serves its own name
pub serves : (slots : List Slot) (s : Slot) → NamesApart slots → Has slots s → serving slots s.name ≡ Some s
serves slots s apart h = elim (serving slots s.name) as (λ o. serving slots s.name ≡ o → o ≡ Some s) [
  | None ↦ λ e. absurd (unserved slots s.name e s h refl)
  | Some t ↦ λ e. let f = served slots s.name t e in ap Some (apart t s f.0 h (sym f.1))
] refl

-- SLOTS EXCEPT ONE

-- what is left without a number has another
pub left : (n : ℕ) (slots : List Slot) (s : Slot) → Has (without n slots) s → s.number ≡ n → ⊥
left n slots s h e = let p = passes (λ x. not (x.number == n)) slots s h in let t = eq-eqb s.number n e in cc

-- a slot is left without a number, or has it
pub left_or : (n : ℕ) (slots : List Slot) (s : Slot) → Has slots s → Has (without n slots) s ⊎ (s.number ≡ n)
left_or n slots s h = elim (s.number == n) as (λ b. (s.number == n) ≡ b → Has (without n slots) s ⊎ (s.number ≡ n)) [
  | true ↦ λ e. inr (eqb-true s.number n e)
  | false ↦ λ e. inl (into-filter (λ x. not (x.number == n)) slots s h (ap not e))
] refl

pub Has-without : (n : ℕ) (slots : List Slot) (s : Slot) → Has (without n slots) s → Has slots s
Has-without n slots s h = Has-filter (λ x. not (x.number == n)) slots s h

pub NamesApart-sub : (slots more : List Slot) → ((s : Slot) → Has slots s → Has more s) → NamesApart more → NamesApart slots
NamesApart-sub slots more sub apart s t h g e = apart s t (sub s h) (sub t g) e

-- THE NAMES OF REPLACEMENTS

-- the name behind the prefix is the same
pub replaced_apart : (a b : List ℕ) → folded (replacement_of a) ≡ folded (replacement_of b) → folded a ≡ folded b
replaced_apart a b h = cc

pub longer : (a : List ℕ) → folded (replacement_of a) ≡ folded a → ⊥
longer a h = let e = ap length h in omega arith

pub replacing : (name a : List ℕ) → folded name ≡ folded (replacement_of a) → begins_with_replacement name ≡ true
replacing name a h = ap (λ q. starts_with nat_eq q (codes "replacementof/")) h

pub replacing-no-auto : (name a : List ℕ) → folded name ≡ folded (replacement_of a) → begins_with_auto name ≡ false
replacing-no-auto name a h = ap (λ q. starts_with nat_eq q (codes "auto/")) h

folded-drop : (n : ℕ) (words : List ℕ) → folded (drop n words) ≡ drop n (folded words)
folded-drop zero words = refl
folded-drop (suc n) [] = refl
folded-drop (suc n) (b ∷ bs) = folded-drop n bs

-- the name behind the prefix depends on the folded name alone
replaced-other : (a b : List ℕ) → folded a ≡ folded b → folded (replaced_name a) ≡ folded (replaced_name b)
replaced-other a b same =
    ap (λ t. folded (cond t (drop 14 a) a)) (ap (λ q. starts_with nat_eq q (codes "replacementof/")) same)
    ∙ elim (begins_with_replacement b) as (λ t. folded (cond t (drop 14 a) a) ≡ folded (cond t (drop 14 b) b)) [
      | true ↦ folded-drop 14 a ∙ ap (drop 14) same ∙ sym (folded-drop 14 b)
      | false ↦ same
    ]

-- the replacement of an index has the name of that index behind the prefix
pub taking : (name a : List ℕ) → folded name ≡ folded (replacement_of a) → begins_with_replacement a ≡ false → folded (replaced_name name) ≡ folded (replaced_name a)
taking name a h plain = replaced-other name (replacement_of a) h ∙ ap folded (sym (ap (λ t. cond t (drop 14 a) a) plain))

-- slots that keep their names
pub HaveTheirSlots-map : (f : Slot → Slot) (slots : List Slot) → ((s : Slot) → (f s).name ≡ s.name) → HaveTheirSlots slots → HaveTheirSlots (map f slots)
HaveTheirSlots-map f slots keeps all s h is =
    let x = Has-map f slots s h in
    let called : s.name ≡ x.0.name = ap (λ (y : Slot). y.name) (sym x.2) ∙ keeps x.0 in
    let b = all x.0 x.1 (ap begins_with_replacement (sym called) ∙ is) in
    record {
      slot = f b.slot;
      there = Has-mapped f slots b.slot b.there;
      named = ap folded called ∙ b.named ∙ ap (λ n. folded (replacement_of n)) (sym (keeps b.slot));
      given = ap is_reserved_name (keeps b.slot) ∙ b.given;
    }

-- VERSIONS

-- an index that is not stale has seen the newest row that it reads
pub newest_fresh : (S : Store) (scope : Scope) (e : ℕ) → stale S scope e None ≡ false → newest S scope None ≤ e
newest_fresh S scope e h = along 0 S.rows (omega arith) h
  where
    and_true : (b : Bool) → b && true ≡ false → b ≡ false
    and_true true h = h
    and_true false h = refl

    along : (low : ℕ) (rows : List Row) → low ≤ e → list_any (λ r. in_scope scope r && nat_lt e r.etag && up_to None r.etag) rows ≡ false
        → last_of low (filter (λ r. in_scope scope r && up_to None r.etag) rows) ≤ e
    along low [] le h = le
    along low (r ∷ rows) le h =
        elim (in_scope scope r) as (λ b. (b && nat_lt e r.etag && true) || list_any (λ x. in_scope scope x && nat_lt e x.etag && up_to None x.etag) rows ≡ false
        → last_of low (cond (b && true) (r ∷ filter (λ x. in_scope scope x && up_to None x.etag) rows) (filter (λ x. in_scope scope x && up_to None x.etag) rows)) ≤ e) [
          | true ↦ λ g. let f = either_false (nat_lt e r.etag && true) (list_any (λ x. in_scope scope x && nat_lt e x.etag && up_to None x.etag) rows) g in
              along r.etag rows (ltb-false e r.etag (and_true (nat_lt e r.etag) f.0)) f.1
          | false ↦ λ g. along low rows le g
        ] h

pub Fits-later : (S N : Store) (v : Version) → Fits S v → Later S N → (N.cleaned ≤ S.cleaned) ⊎ (N.cleaned ≤ v.etag) → Fits N v
Fits-later S N v f l up = record { agrees = Agrees-later (reads v) v.table S N v.etag f.agrees l f.within up; within = let a = f.within in let b = l.grown in omega arith }

-- a version that has read nothing fits every store
pub Fits-unread : (S N : Store) (v : Version) → Fits S v → v.etag ≡ 0 → IsStore N → Fits N v
Fits-unread S N v f none_read s = record {
  agrees = record {
    known = λ q t h. absurd (none q t h);
    exact = λ q r h le. absurd (let a = (found_etag 0 q N.rows r s.rising h).0 in omega arith);
    filed = λ q t h. absurd (none q t h);
    scoped = λ q t h. absurd (none q t h);
    dated = λ q t h. absurd (none q t h);
  };
  within = omega arith;
}
  where
    none : (q : List ℕ) (t : Row) → get v.table q ≡ Some t → ⊥
    none q t h = let a = f.agrees in let d = a.dated q t h in let b = d.0 in let c = d.1 in omega arith

-- and a version that fits may still be published
pub Fits-still : (S : Store) (v : Version) → Fits S v → StillFits S v
Fits-still S v f = record { agrees = λ way. f.agrees; within = f.within }

pub StillFits-later : (S N : Store) (v : Version) → StillFits S v → v.cleaned ≤ S.cleaned → Later S N → StillFits N v
StillFits-later S N v f since l = record { agrees = by; within = let a = f.within in let b = l.grown in omega arith }
  where
    by : (N.cleaned ≤ v.cleaned) ⊎ (N.cleaned ≤ v.etag) → Agrees (reads v) v.table N v.etag
    by (inl same) = Agrees-later (reads v) v.table S N v.etag (f.agrees (inl (let a = l.cleaned in omega arith))) l f.within (inl (omega arith))
    by (inr under) = Agrees-later (reads v) v.table S N v.etag (f.agrees (inr (let a = l.cleaned in omega arith))) l f.within (inr under)

-- a version fits if it still fits and nothing past it was cleaned since it was read
pub StillFits-Fits : (S : Store) (v : Version) → StillFits S v → was_cleaned S v ≡ false → Fits S v
StillFits-Fits S v f h = record { agrees = f.agrees way; within = f.within }
  where
    way : (S.cleaned ≤ v.cleaned) ⊎ (S.cleaned ≤ v.etag)
    way = elim (nat_lt v.cleaned S.cleaned) as (λ b. nat_lt v.cleaned S.cleaned ≡ b → b && nat_lt v.etag S.cleaned ≡ false → (S.cleaned ≤ v.cleaned) ⊎ (S.cleaned ≤ v.etag)) [
      | true ↦ λ e g. inr (ltb-false v.etag S.cleaned g)
      | false ↦ λ e g. inl (ltb-false v.cleaned S.cleaned e)
    ] refl h

pub Fits-fresh : (S : Store) (d : Definition) → IsStore S → Fits S (new_version d)
Fits-fresh S d s = record {
  agrees = record {
    known = λ q t h. absurd (none q t h);
    exact = λ q r h le. absurd (let a = (found_etag 0 q S.rows r s.rising h).0 in omega arith);
    filed = λ q t h. absurd (none q t h);
    scoped = λ q t h. absurd (none q t h);
    dated = λ q t h. absurd (none q t h);
  };
  within = omega arith;
}
  where
    none : (q : List ℕ) (t : Row) → get (new_version d).table q ≡ Some t → ⊥
    none q t h = let e = sym (get-empty key_cmp q) ∙ h in cc

pub record Brought (S : Store) (v new : Version) : Type 0 where
  pub fits : Fits S new
  pub definition : v.definition ≡ new.definition
  pub onward : v.etag ≤ new.etag
  pub cleaned : new.cleaned ≡ S.cleaned

pub batch-Brought : (S : Store) (v new : Version) (max : ℕ) → IsStore S → Fits S v → batch v S max ≡ Some new → Brought S v new
batch-Brought S v new max s f is = by (batch_rows (reads v) v.etag S max) (Agrees-batch (reads v) v.table S v.etag max s f.agrees f.within) is
  where
    t : Taken (reads v) S v.etag (batch_rows (reads v) v.etag S max) (etag_of_batch (reads v) v.etag S max)
    t = Taken-batch (reads v) S v.etag max s f.within

    by : (rows : List Row) → Agrees (reads v) (note_rows v.table rows) S (etag_of_batch (reads v) v.etag S max) → advanced v rows (etag_of_batch (reads v) v.etag S max) S.cleaned ≡ Some new → Brought S v new
    by [] a h = absurd cc
    by (r ∷ rows) a h =
        let same : (let x : Version = record { definition = v.definition; etag = etag_of_batch (reads v) v.etag S max; table = note_rows v.table (r ∷ rows); cleaned = S.cleaned } in x) ≡ new = cc in
        subst (Brought S v) same (record { fits = record { agrees = a; within = t.within }; definition = refl; onward = t.onward; cleaned = refl })
