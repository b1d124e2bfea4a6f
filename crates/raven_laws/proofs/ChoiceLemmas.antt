-- The index that is picked is the best one, and a new name has the least number that is free.
use Rattle.std.proofs.Common.{◌≡◌, ℕ, zero, suc, ◌+◌, ◌<◌, ◌≤◌, ◌^◌, List, [], ◌∷◌, Bool, true, false, not, ◌&&◌, ◌||◌, cond, nat_lt, nat_le, is_some, length, Option, Some, None, Ok, Err, filter, refl, sym, ap, ◌∙◌, subst, arith, ◌⊎◌, inl, inr}
use Rattle.std.proofs.lemmas.Bool.{leb-true, ltb-false, ltb-true}
use Rattle.spec_store.specs.Store.{Store, last}
use Rattle.spec_index.specs.Optimiser.{Choice, Make, Shape, Use, beats, best, better, chosen, covers, definition_of, first_free, free_name, is_fresh, pick, slot_shape, width}
use Rattle.spec_index.specs.World.{Slot, SlotRefusal, added, serving}
use Rattle.spec_server.specs.Requests.{Keeping}
use Rattle.spec_server.specs.Courses.{Machine, settled}
use Rattle.spec_server.specs.Indexing.{made_name, make, one_field, change_of_slots, use_or_make}
use Rattle.spec_server.specs.Replies.{Reply}
use Rattle.spec_server.specs.Sound.{Has, NumbersRise, Sound}
use Rattle.raven_laws.specs.Choices.{AutoIsAnswered, Before, FollowsChoice, IsMakeAnswer, IsBefore, IsChosen, IsFirstFree, IsNumberedName, IsUsed, numbered_name}
use Rattle.raven_laws.proofs.DefinitionLemmas.{new-answered}
use Rattle.raven_laws.proofs.NameLemmas.{name_of-free}
use Rattle.raven_laws.proofs.UnionLemmas.{one-widened, widened-is}
use Rattle.raven_laws.proofs.SlotLemmas.{Has-filter, NumbersRise-filter, above, into-filter, passes}

-- THE ORDER

no_more : (v u w m n : ℕ) → v ≤ u → u ≡ w → m < n → (v < w) ⊎ ((v ≡ w) × (m < n))
no_more v u w m n le same low = elim (nat_lt v w) as (λ b. nat_lt v w ≡ b → (v < w) ⊎ ((v ≡ w) × (m < n))) [
  | true ↦ λ e. inl (ltb-true v w e)
  | false ↦ λ e. let a = ltb-false v w e in inr (omega arith, low)
] refl

-- what is no further back than b, of a smaller number, is before all that b is before
onward : (fa fb ft : Bool) (wa wb wt na nb nt : ℕ) → (fb && not fa) || ((fb || not fa) && nat_lt wb wa) ≡ false → na < nt
    → Before fb ft wb wt nb nt → Before fa ft wa wt na nt
onward true true ft wa wb wt na nb nt h low (inl fresher) = inl (refl, fresher.1)
onward true true ft wa wb wt na nb nt h low (inr (same, inl fewer)) = inr (same, inl (let a = ltb-false wb wa h in omega arith))
onward true true ft wa wb wt na nb nt h low (inr (same, inr alike)) = inr (same, no_more wa wb wt na nt (ltb-false wb wa h) alike.0 low)
onward true false ft wa wb wt na nb nt h low (inl fresher) = inl (refl, fresher.1)
onward true false ft wa wb wt na nb nt h low (inr (same, rest)) = inl (refl, sym same)
onward false true ft wa wb wt na nb nt h low before = absurd cc
onward false false ft wa wb wt na nb nt h low (inl fresher) = absurd (let e = fresher.0 in cc)
onward false false ft wa wb wt na nb nt h low (inr (same, inl fewer)) = inr (same, inl (let a = ltb-false wb wa h in omega arith))
onward false false ft wa wb wt na nb nt h low (inr (same, inr alike)) = inr (same, no_more wa wb wt na nt (ltb-false wb wa h) alike.0 low)

-- the same for b itself
itself : (fa fb : Bool) (wa wb na nb : ℕ) → (fb && not fa) || ((fb || not fa) && nat_lt wb wa) ≡ false → na < nb → Before fa fb wa wb na nb
itself true true wa wb na nb h low = inr (refl, no_more wa wb wb na nb (ltb-false wb wa h) refl low)
itself true false wa wb na nb h low = inl (refl, refl)
itself false true wa wb na nb h low = absurd cc
itself false false wa wb na nb h low = inr (refl, no_more wa wb wb na nb (ltb-false wb wa h) refl low)

beaten : (fa fb : Bool) (wa wb na nb : ℕ) → (fb && not fa) || ((fb || not fa) && nat_lt wb wa) ≡ true → Before fb fa wb wa nb na
beaten true true wa wb na nb h = inr (refl, inl (ltb-true wb wa h))
beaten true false wa wb na nb h = absurd cc
beaten false true wa wb na nb h = inl (refl, refl)
beaten false false wa wb na nb h = inr (refl, inl (ltb-true wb wa h))

-- no two are each before the other
apart : (f g : Bool) (v w m n : ℕ) → Before f g v w m n → Before g f w v n m → ⊥
apart f g v w m n (inl a) (inl b) = let x = a.0 in let y = b.1 in cc
apart f g v w m n (inl a) (inr (same, rest)) = let x = a.0 in let y = a.1 in cc
apart f g v w m n (inr (same, rest)) (inl b) = let x = b.0 in let y = b.1 in cc
apart f g v w m n (inr (same, inl a)) (inr (again, inl b)) = omega arith
apart f g v w m n (inr (same, inl a)) (inr (again, inr b)) = let x = b.0 in omega arith
apart f g v w m n (inr (same, inr a)) (inr (again, inl b)) = let x = a.0 in omega arith
apart f g v w m n (inr (same, inr a)) (inr (again, inr b)) = let x = a.1 in let y = b.1 in omega arith

-- THE BEST OF A LIST

-- the slot is in the list and before all others
record IsLeast (S : Store) (slots : List Slot) (s : Slot) : Type 0 where
  has : Has slots s
  first : (t : Slot) → Has slots t → (s ≡ t) ⊎ IsBefore S s t

none-best : (S : Store) (slots : List Slot) → best S slots ≡ None → (t : Slot) → Has slots t → ⊥
none-best S [] h t at = at
none-best S (a ∷ more) h t at = elim (best S more) as (λ o. better S a o ≡ None → ⊥) [
  | None ↦ λ e. cc
  | Some b ↦ λ e. elim (beats S b a) as (λ x. cond x (Some b) (Some a) ≡ None → ⊥) [ true ↦ λ f. cc | false ↦ λ f. cc ] e
] h

some-best : (S : Store) (low : ℕ) (slots : List Slot) (s : Slot) → NumbersRise low slots → best S slots ≡ Some s → IsLeast S slots s
some-best S low [] s up h = absurd cc
some-best S low (a ∷ more) s up h = elim (best S more) as (λ o. best S more ≡ o → better S a o ≡ Some s → IsLeast S (a ∷ more) s) [
  | None ↦ λ e g.
      let same : a ≡ s = cc in
      record { has = inl same; first = alone e same }
  | Some b ↦ λ e g.
      let rest = some-best S a.number more b up.1 e in
      elim (beats S b a) as (λ x. beats S b a ≡ x → cond x (Some b) (Some a) ≡ Some s → IsLeast S (a ∷ more) s) [
        | true ↦ λ f k. let same : b ≡ s = cc in subst (IsLeast S (a ∷ more)) same (record { has = inr rest.has; first = later b f rest })
        | false ↦ λ f k. let same : a ≡ s = cc in subst (IsLeast S (a ∷ more)) same (record { has = inl refl; first = here b f rest })
      ] refl g
] refl h
  where
    alone : best S more ≡ None → a ≡ s → (t : Slot) → Has (a ∷ more) t → (s ≡ t) ⊎ IsBefore S s t
    alone e same t (inl is) = inl (sym same ∙ is)
    alone e same t (inr at) = absurd (none-best S more e t at)

    later : (b : Slot) → beats S b a ≡ true → IsLeast S more b → (t : Slot) → Has (a ∷ more) t → (b ≡ t) ⊎ IsBefore S b t
    later b f rest t (inl is) = inr (subst (IsBefore S b) is (beaten (is_fresh S a) (is_fresh S b) (width a) (width b) a.number b.number f))
    later b f rest t (inr at) = rest.first t at

    here : (b : Slot) → beats S b a ≡ false → IsLeast S more b → (t : Slot) → Has (a ∷ more) t → (a ≡ t) ⊎ IsBefore S a t
    here b f rest t (inl is) = inl is
    here b f rest t (inr at) = inr (elim (rest.first t at) as (λ _. IsBefore S a t) [
      | inl is ↦ subst (IsBefore S a) is (itself (is_fresh S a) (is_fresh S b) (width a) (width b) a.number b.number f (above a.number more b up.1 rest.has))
      | inr before ↦ onward (is_fresh S a) (is_fresh S b) (is_fresh S t) (width a) (width b) (width t) a.number b.number t.number f (above a.number more t up.1 at) before
    ])

-- THE CHOICE

abbrev covering : Shape → List Slot → List Slot
covering shape slots = filter (λ s. covers (slot_shape s) shape) slots

uncovered : (b : Bool) → (b ≡ true → ⊥) → b ≡ false
uncovered true never = absurd (never refl)
uncovered false never = refl

chosen-is : (shape : Shape) (S : Store) (slots : List Slot) (found : Option Slot) → NumbersRise 0 slots → best S (covering shape slots) ≡ found → IsChosen S slots shape (chosen shape slots found)
chosen-is shape S slots (Some s) up h =
    let b = some-best S 0 (covering shape slots) s (NumbersRise-filter 0 (λ x. covers (slot_shape x) shape) slots up) h in
    record {
      has = Has-filter (λ x. covers (slot_shape x) shape) slots s b.has;
      covers_it = passes (λ x. covers (slot_shape x) shape) slots s b.has;
      first = λ t at is. b.first t (into-filter (λ x. covers (slot_shape x) shape) slots t at is);
    }
chosen-is shape S slots None up h =
    (λ t at. uncovered (covers (slot_shape t) shape) (λ is. none-best S (covering shape slots) h t (into-filter (λ x. covers (slot_shape x) shape) slots t at is)), widened-is shape slots)

pub pick-chosen : (S : Store) (slots : List Slot) (shape : Shape) → NumbersRise 0 slots → IsChosen S slots shape (pick shape S slots)
pick-chosen S slots shape up = chosen-is shape S slots (best S (covering shape slots)) up refl

pub one-chosen : (S : Store) (slots : List Slot) (shape : Shape) (c d : Choice) → IsChosen S slots shape c → IsChosen S slots shape d → c ≡ d
one-chosen S slots shape (Use s) (Use t) a b = elim (a.first t b.has b.covers_it) as (λ _. Use s ≡ Use t) [
  | inl same ↦ ap Use same
  | inr before ↦ elim (b.first s a.has a.covers_it) as (λ _. Use s ≡ Use t) [
    | inl same ↦ ap Use (sym same)
    | inr back ↦ absurd (apart (is_fresh S s) (is_fresh S t) (width s) (width t) s.number t.number before back)
  ]
]
one-chosen S slots shape (Use s) (Make m) a b = absurd (let e = b.0 s a.has in let f = a.covers_it in cc)
one-chosen S slots shape (Make m) (Use t) a b = absurd (let e = a.0 t b.has in let f = b.covers_it in cc)
one-chosen S slots shape (Make m) (Make n) a b = ap Make (one-widened slots shape m n a.1 b.1)

-- WHAT AUTO DOES

-- what is made for a shape is a new index, if there is room
pub make-answered : (M : Machine) (k : Keeping) (now : ℕ) (shape : Shape) → Sound M.world → M.world.setting.max_slots < 2 ^ 32
    → IsMakeAnswer M k now (made_name M.world shape) (definition_of shape) (settled M k (change_of_slots M.world now Reply.Index (made_name M.world shape) (make M.world shape)))
make-answered M k now shape o few =
    let W = M.world in
    let name = made_name W shape in
    let d = definition_of shape in
    let free : serving W.slots name ≡ None = name_of-free W.slots (last W.store + 1) shape (let a = o.limits.slots in omega arith) in
    elim (nat_le W.setting.max_slots (length W.slots)) as (λ b. nat_le W.setting.max_slots (length W.slots) ≡ b
    → IsMakeAnswer M k now name d (settled M k (change_of_slots M.world now Reply.Index name
    (cond b (Err SlotRefusal.TooManyIndexes) (cond (is_some (serving W.slots name)) (Err SlotRefusal.NameServes) (Ok (added W name d))))))) [
      | true ↦ λ e. inl (record { full = leb-true W.setting.max_slots (length W.slots) e; reply = refl })
      | false ↦ λ e. subst (λ found. IsMakeAnswer M k now name d (settled M k (change_of_slots M.world now Reply.Index name (cond (is_some found) (Err SlotRefusal.NameServes) (Ok (added W name d))))))
          (sym free) (inr (new-answered M k now name d free e))
    ] refl

choice-followed : (M : Machine) (k : Keeping) (now : ℕ) (c : Choice) → Sound M.world → M.world.setting.max_slots < 2 ^ 32
    → FollowsChoice M k now (settled M k (use_or_make M.world now c)) c
choice-followed M k now (Use s) o few = refl
choice-followed M k now (Make shape) o few = make-answered M k now shape o few

pub auto-answered : (M : Machine) (k : Keeping) (now : ℕ) (collection field : List ℕ) → Sound M.world → M.world.setting.max_slots < 2 ^ 32
    → AutoIsAnswered M k now collection field
auto-answered M k now collection field o few =
    let shape = one_field collection field in
    let choice = pick shape M.world.store M.world.slots in
    record { choice = choice; chosen = pick-chosen M.world.store M.world.slots shape o.rising; follows = choice-followed M k now choice o few }

-- NAMES

least-name : (k n : ℕ) (name : List ℕ) (slots : List Slot) → 2 ≤ n → ((m : ℕ) → 2 ≤ m → m < n → IsUsed slots (numbered_name name m)) → IsNumberedName slots name (free_name k n name slots)
least-name zero n name slots le used = record { number = n; least = le; spelled = refl; smaller = used }
least-name (suc k) n name slots le used =
    elim (is_some (serving slots (numbered_name name n))) as (λ b. is_some (serving slots (numbered_name name n)) ≡ b
    → IsNumberedName slots name (cond b (free_name k (n + 1) name slots) (numbered_name name n))) [
      | true ↦ λ e. least-name k (n + 1) name slots (omega arith) (up_to e)
      | false ↦ λ e. record { number = n; least = le; spelled = refl; smaller = used }
    ] refl
  where
    up_to : IsUsed slots (numbered_name name n) → (m : ℕ) → 2 ≤ m → m < n + 1 → IsUsed slots (numbered_name name m)
    up_to e m low high = elim (nat_lt m n) as (λ b. nat_lt m n ≡ b → IsUsed slots (numbered_name name m)) [
      | true ↦ λ f. used m low (ltb-true m n f)
      | false ↦ λ f. subst (λ i. IsUsed slots (numbered_name name i)) (let a = ltb-false m n f in let same : n ≡ m = omega arith in same) e
    ] refl

not-used : (o : Option Slot) → is_some o ≡ false → o ≡ None
not-used None h = refl
not-used (Some s) h = absurd cc

pub first_free-least : (slots : List Slot) (name : List ℕ) → IsFirstFree slots name (first_free name slots)
first_free-least slots name =
    elim (is_some (serving slots name)) as (λ b. is_some (serving slots name) ≡ b → IsFirstFree slots name (cond b (free_name (length slots) 2 name slots) name)) [
      | true ↦ λ e. inr (e, least-name (length slots) 2 name slots (omega arith) (λ m low high. absurd (omega arith)))
      | false ↦ λ e. inl (refl, not-used (serving slots name) e)
    ] refl
