-- Numbers of slots that rise.
use Rattle.std.proofs.Common.{◌≡◌, ℕ, ◌+◌, ◌≤◌, List, [], ◌∷◌, ◌++◌, Bool, true, false, not, cond, ◌==◌, filter, map, refl, sym, subst, arith}
use Rattle.std.proofs.lemmas.List.Elements.{All-head, All-tail}
use Rattle.std.specs.List.{All}
use Rattle.spec_index.specs.World.{Slot, Version, NumbersRise, renamed, with_version, without}
use Rattle.side_by_side.specs.Naming.{RiseTo}

lower : (low high : ℕ) (slots : List Slot) → low ≤ high → NumbersRise high slots → NumbersRise low slots
lower low high [] le up = tt
lower low high (s ∷ slots) le up = (let a = up.0 in omega arith, up.1)

pub rise-passing : (low : ℕ) (p : Slot → Bool) (slots : List Slot) → NumbersRise low slots → NumbersRise low (filter p slots)
rise-passing low p [] up = tt
rise-passing low p (s ∷ slots) up = elim (p s) as (λ b. NumbersRise low (cond b (s ∷ filter p slots) (filter p slots))) [
  | true ↦ (up.0, rise-passing s.number p slots up.1)
  | false ↦ rise-passing low p slots (lower low s.number slots (let a = up.0 in omega arith) up.1)
]

-- some of the slots
pub rise-without : (low n : ℕ) (slots : List Slot) → NumbersRise low slots → NumbersRise low (without n slots)
rise-without low n slots up = rise-passing low (λ s. not (s.number == n)) slots up

pub ruleset filtering = (rise-without)

mapping : (low : ℕ) (f : Slot → Slot) (slots : List Slot) → ((s : Slot) → (f s).number ≡ s.number) → NumbersRise low slots → NumbersRise low (map f slots)
mapping low f [] keeps up = tt
mapping low f (s ∷ slots) keeps up =
    (let a = up.0 in let e = keeps s in omega arith, subst (λ n. NumbersRise n (map f slots)) (sym (keeps s)) (mapping s.number f slots keeps up.1))

renamed-number : (n : ℕ) (name : List ℕ) (row : ℕ) (s : Slot) → (renamed n name row s).number ≡ s.number
renamed-number n name row s = elim (s.number == n) as (λ b. (cond b (record { number = s.number; name = name; version = s.version; row = row }) s).number ≡ s.number) [ true ↦ refl | false ↦ refl ]

versioned-number : (n : ℕ) (v : Version) (s : Slot) → (with_version n v s).number ≡ s.number
versioned-number n v s = elim (s.number == n) as (λ b. (cond b (record { number = s.number; name = s.name; version = v; row = s.row }) s).number ≡ s.number) [ true ↦ refl | false ↦ refl ]

-- slots that keep their numbers
pub rise-renamed : (low n : ℕ) (name : List ℕ) (row : ℕ) (slots : List Slot) → NumbersRise low slots → NumbersRise low (map (renamed n name row) slots)
rise-renamed low n name row slots up = mapping low (renamed n name row) slots (renamed-number n name row) up

pub rise-versioned : (low n : ℕ) (v : Version) (slots : List Slot) → NumbersRise low slots → NumbersRise low (map (with_version n v) slots)
rise-versioned low n v slots up = mapping low (with_version n v) slots (versioned-number n v) up

-- A NEW SLOT BEHIND THEM

rise-to : (low last : ℕ) (slots : List Slot) → low ≤ last → NumbersRise low slots → All (λ s. s.number ≤ last) slots → RiseTo low last slots
rise-to low last [] le up all = le
rise-to low last (s ∷ slots) le up all =
    let P : Slot → Type 0 = λ s. s.number ≤ last in
    (up.0, rise-to s.number last slots (All-head P s slots all) up.1 (All-tail P s slots all))

-- the slots that there are, of which none has a number past the last etag
pub rise-all : (last : ℕ) (slots : List Slot) → NumbersRise 0 slots → All (λ s. s.number ≤ last) slots → RiseTo 0 last slots
rise-all last slots up all = rise-to 0 last slots (omega arith) up all

to-lower : (low high last : ℕ) (slots : List Slot) → low ≤ high → RiseTo high last slots → RiseTo low last slots
to-lower low high last [] le up = let a : high ≤ last = up in omega arith
to-lower low high last (s ∷ slots) le up = (let a = up.0 in omega arith, up.1)

to-passing : (low last : ℕ) (p : Slot → Bool) (slots : List Slot) → RiseTo low last slots → RiseTo low last (filter p slots)
to-passing low last p [] up = up
to-passing low last p (s ∷ slots) up = elim (p s) as (λ b. RiseTo low last (cond b (s ∷ filter p slots) (filter p slots))) [
  | true ↦ (up.0, to-passing s.number last p slots up.1)
  | false ↦ to-passing low last p slots (to-lower low s.number last slots (let a = up.0 in omega arith) up.1)
]

pub rise-to-without : (low last n : ℕ) (slots : List Slot) → RiseTo low last slots → RiseTo low last (without n slots)
rise-to-without low last n slots up = to-passing low last (λ s. not (s.number == n)) slots up

pub rise-new : (low last : ℕ) (slots : List Slot) (new : Slot) → RiseTo low last slots → new.number ≡ last + 1 → NumbersRise low (slots ++ new ∷ [])
rise-new low last [] new up is = (let a : low ≤ last = up in omega arith, tt)
rise-new low last (s ∷ slots) new up is = (up.0, rise-new s.number last slots new up.1 is)

pub ruleset adding = (rise-all, rise-to-without, rise-new)

pub ruleset switching = (rise-without, rise-renamed)
