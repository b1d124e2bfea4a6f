-- The name of a new index is free.
use Rattle.std.proofs.Common.{◌≡◌, ℕ, zero, suc, ◌+◌, ◌^◌, ◌<◌, ◌≤◌, List, [], ◌∷◌, ◌++◌, length, true, false, not, cond, nat_lt, is_some, Some, None, filter, refl, sym, ap, ◌∙◌, subst, arith, ◌⊎◌, inl, inr, codes}
use Rattle.std.proofs.lemmas.Bool.{ltb-false, ltb-true}
use Rattle.std.proofs.lemmas.Bool.Decides.{nat_tests}
use Rattle.std.proofs.lemmas.List.{append_cancel_left}
use Rattle.std.proofs.lemmas.Fmt.{decimal_is_IsNumeral, decimal_injective}
use Rattle.std.specs.Char.{to_ascii_lowercase, digit_value}
use Rattle.std.specs.Fmt.{decimal}
use Rattle.std.specs.Str.Parse.{AllDigits}
use Rattle.spec_data.specs.Folding.{folded, same_key}
use Rattle.spec_store.specs.Commit.{Setting}
use Rattle.spec_server.specs.Requests.{Event, AreFromClients}
use Rattle.spec_server.specs.Machine.{start, run}
use Rattle.spec_store.specs.Store.{last}
use Rattle.spec_data.specs.Faults.{is_fit}
use Rattle.spec_index.specs.World.{Slot, serving}
use Rattle.spec_index.specs.Optimiser.{Shape, plain_name, free_name, first_free, name_of}
use Rattle.spec_server.specs.Sound.{Has}
use Rattle.spec_store.proofs.StoreLemmas.{same_itself, same_means}
use Rattle.raven_laws.proofs.LimitLemmas.{fewer_filtered}
use Rattle.raven_laws.proofs.SlotLemmas.{served}
use Rattle.raven_laws.proofs.MachineLemmas.{run-Sound, run-LaterW}

-- NUMBERED NAMES ARE APART

folded-append : (a b : List ℕ) → folded (a ++ b) ≡ folded a ++ folded b
folded-append [] b = refl
folded-append (c ∷ a) b = ap (λ more. to_ascii_lowercase c ∷ more) (folded-append a b)

digit_same : (c : ℕ) → digit_value c < 10 → to_ascii_lowercase c ≡ c
digit_same c h = grind (arith, nat_tests)

digits_same : (cs : List ℕ) → AllDigits 10 cs → folded cs ≡ cs
digits_same [] h = refl
digits_same (c ∷ cs) h = λ i. digit_same c h.0 i ∷ digits_same cs h.1 i

abbrev numbered : List ℕ → ℕ → List ℕ
numbered name n = name ++ (codes "/" ++ decimal n)

numbered_apart : (name : List ℕ) (m n : ℕ) → m < 2 ^ 64 → n < 2 ^ 64 → folded (numbered name m) ≡ folded (numbered name n) → m ≡ n
numbered_apart name m n low high h =
    let front = sym (folded-append name (codes "/" ++ decimal m)) ∙ h ∙ folded-append name (codes "/" ++ decimal n) in
    let back = append_cancel_left (folded name) (folded (codes "/" ++ decimal m)) (folded (codes "/" ++ decimal n)) front in
    let digits = append_cancel_left (codes "/") (folded (decimal m)) (folded (decimal n)) back in
    decimal_injective m n low high (sym (digits_same (decimal m) (decimal_is_IsNumeral m low).0.1) ∙ digits ∙ digits_same (decimal n) (decimal_is_IsNumeral n high).0.1)

-- AS MANY SLOTS AS NAMES

-- each of the k names from n on has a slot
abbrev Serves : List ℕ → ℕ → ℕ → List Slot → Type 0
Serves name n k slots = (m : ℕ) → n ≤ m → m < n + k → (s : Slot) × Has slots s × (folded s.name ≡ folded (numbered name m))

abbrev others : List ℕ → List Slot → List Slot
others q slots = filter (λ s. not (same_key q (folded s.name))) slots

stays : (q : List ℕ) (slots : List Slot) (s : Slot) → Has slots s → same_key q (folded s.name) ≡ false → Has (others q slots) s
stays q [] s at apart = at
stays q (x ∷ slots) s (inl e) apart =
    subst (λ b. Has (cond (not b) (x ∷ others q slots) (others q slots)) s) (sym (ap (λ (y : Slot). same_key q (folded y.name)) e ∙ apart)) (inl e)
stays q (x ∷ slots) s (inr at) apart = elim (same_key q (folded x.name)) as (λ b. Has (cond (not b) (x ∷ others q slots) (others q slots)) s) [
  | true ↦ stays q slots s at apart
  | false ↦ inr (stays q slots s at apart)
]

enough : (name : List ℕ) (n k : ℕ) (slots : List Slot) → n + k < 2 ^ 64 → Serves name n k slots → k ≤ length slots
enough name n zero slots small all = omega arith
enough name n (suc k) slots small all =
    let top = all (n + k) (omega arith) (omega arith) in
    let q = folded (numbered name (n + k)) in
    let fewer = fewer_filtered (λ x. not (same_key q (folded x.name))) slots top.0 top.1 (ap not (subst (λ k. same_key q k ≡ true) (sym top.2) (same_itself q))) in
    let rest = enough name n k (others q slots) (omega arith) (λ m low high.
    let s = all m low (omega arith) in
    (s.0, stays q slots s.0 s.1 (differ (folded s.0.name) q (λ e. let f : n + k ≡ m = numbered_apart name (n + k) m (omega arith) (omega arith) (sym e ∙ s.2) in omega arith)), s.2)) in
    omega arith
  where
    differ : (a q : List ℕ) → (a ≡ q → ⊥) → same_key q a ≡ false
    differ a q never = elim (same_key q a) as (λ b. same_key q a ≡ b → b ≡ false) [ true ↦ λ e. absurd (never (sym (same_means q a e))) | false ↦ λ e. refl ] refl

-- THE FIRST NAME THAT IS FREE

one_more : (name : List ℕ) (n k : ℕ) (slots : List Slot) (s : Slot) → serving slots (numbered name n) ≡ Some s → Serves name (n + 1) k slots → Serves name n (suc k) slots
one_more name n k slots s is all m low high =
    elim (nat_lt n m) as (λ b. nat_lt n m ≡ b → (x : Slot) × Has slots x × (folded x.name ≡ folded (numbered name m))) [
      | true ↦ λ e. let f = ltb-true n m e in all m (omega arith) (omega arith)
      | false ↦ λ e.
          let f = ltb-false n m e in
          let same : n ≡ m = omega arith in
          let g = served slots (numbered name n) s is in
          (s, g.0, sym g.1 ∙ ap (λ i. folded (numbered name i)) same)
    ] refl

free-or : (name : List ℕ) (k n : ℕ) (slots : List Slot) → (serving slots (free_name k n name slots) ≡ None) ⊎ Serves name n (suc k) slots
free-or name zero n slots = elim (serving slots (numbered name n)) as (λ o. serving slots (numbered name n) ≡ o → (o ≡ None) ⊎ Serves name n 1 slots) [
  | None ↦ λ e. inl refl
  | Some s ↦ λ e. inr (one_more name n 0 slots s e (λ m low high. absurd (omega arith)))
] refl
free-or name (suc k) n slots =
    elim (serving slots (numbered name n)) as (λ o. serving slots (numbered name n) ≡ o → (serving slots (cond (is_some o) (free_name k (n + 1) name slots) (numbered name n)) ≡ None) ⊎ Serves name n (suc (suc k)) slots) [
      | None ↦ λ e. inl e
      | Some s ↦ λ e. elim (free-or name k (n + 1) slots) [
        | inl free ↦ inl free
        | inr all ↦ inr (one_more name n (suc k) slots s e all)
      ]
    ] refl

pub first_free-free : (name : List ℕ) (slots : List Slot) → length slots + 3 < 2 ^ 64 → serving slots (first_free name slots) ≡ None
first_free-free name slots small =
    elim (serving slots name) as (λ o. serving slots name ≡ o → serving slots (cond (is_some o) (free_name (length slots) 2 name slots) name) ≡ None) [
      | None ↦ λ e. e
      | Some s ↦ λ e. elim (free-or name (length slots) 2 slots) [
        | inl free ↦ free
        | inr all ↦ absurd (let a = enough name 2 (suc (length slots)) slots (omega arith) all in omega arith)
      ]
    ] refl

pub name_of-free : (slots : List Slot) (number : ℕ) (shape : Shape) → length slots + 3 < 2 ^ 64 → serving slots (name_of slots number shape) ≡ None
name_of-free slots number shape small =
    elim (is_fit 200 (first_free (plain_name shape) slots)) as (λ b. serving slots (cond b (first_free (plain_name shape) slots) (first_free (codes "Auto/" ++ decimal number) slots)) ≡ None) [
      | true ↦ first_free-free (plain_name shape) slots small
      | false ↦ first_free-free (codes "Auto/" ++ decimal number) slots small
    ]

-- AFTER A RUN

pub run-free : (setting : Setting) (events : List Event) (shape : Shape) → AreFromClients events → setting.max_slots < 2 ^ 32
    → let W = (run events (start setting)).world in serving W.slots (name_of W.slots (last W.store + 1) shape) ≡ None
run-free setting events shape from few =
    let W = (run events (start setting)).world in
    let o = run-Sound setting events from in
    let l = run-LaterW setting [] events from in
    name_of-free W.slots (last W.store + 1) shape (let a = o.limits.slots in let b : W.setting.max_slots ≡ setting.max_slots = ap (λ (s : Setting). s.max_slots) l.setting in omega arith)
