-- The numbers of indexes, of which none is past the last etag.
use Rattle.std.proofs.Common.{◌≡◌, ℕ, ◌+◌, ◌≤◌, List, [], ◌∷◌, ◌++◌, Bool, true, false, not, cond, ◌==◌, filter, map, nat_le, length, Option, Some, None, is_some, Result, Ok, Err, IfOk, refl, sym, subst, arith}
use Rattle.std.specs.Option.{option_map}
use Rattle.std.proofs.lemmas.List.Elements.{All-append, All-cons, All-head, All-nil, All-tail}
use Rattle.spec_data.specs.Data.{Data}
use Rattle.spec_data.specs.Faults.{replacement_of}
use Rattle.spec_data.specs.Folding.{folded}
use Rattle.spec_data.specs.Rows.{Row, doc}
use Rattle.spec_store.specs.Commit.{AnyVector, Client, Command, Delete, Put, Server, Setting, Writer, Written, after_command, after_commands, collection_of, commit, document_at, row_spelling, stored_body, tombstone, with_option}
use Rattle.spec_store.specs.Store.{Store, last, row_at, with_row}
use Rattle.spec_store.proofs.LaterLemmas.{last-with}
use Rattle.index_tree.specs.Definitions.{Definition, same_definition}
use Rattle.spec_index.specs.Optimiser.{is_retired, retirement}
use Rattle.spec_index.specs.World.{NameServes, NotFresh, NotesFull, Slot, SlotChange, SlotRefusal, TooManyIndexes, Version, World, added, added_if_room, added_to, define, define_at, define_beside, define_named, dropped, index_id, is_stale, name_refusal, new_version, newest_read, remove, removed, renamed, row_body, serving, switch, switched, switched_to, taken_out, takes_over, unchanged, unless_refused, with_version, without}
use Rattle.side_by_side.specs.Changes.{define_by}
use Rattle.raven_laws.proofs.ListedLemmas.{commit_from-applied}
use Rattle.raven_world.specs.Roomy.{NumbersUpTo}
use Rattle.raven_world.specs.Slotting.{HasNumbers}

-- LISTS OF INDEXES

abbrev UpTo : ℕ → Slot → Type 0
UpTo n s = s.number ≤ n

pub numbers-later : (a b : ℕ) (slots : List Slot) → a ≤ b → NumbersUpTo a slots → NumbersUpTo b slots
numbers-later a b slots le h k d lt = let n = h k d lt in omega (arith, n, le)

numbers-filter : (n : ℕ) (p : Slot → Bool) (slots : List Slot) → NumbersUpTo n slots → NumbersUpTo n (filter p slots)
numbers-filter n p [] h = All-nil (UpTo n)
numbers-filter n p (s ∷ slots) h = elim (p s) as (λ b. NumbersUpTo n (cond b (s ∷ filter p slots) (filter p slots))) [
  | true ↦ All-cons (UpTo n) s (filter p slots) (All-head (UpTo n) s slots h) (numbers-filter n p slots (All-tail (UpTo n) s slots h))
  | false ↦ numbers-filter n p slots (All-tail (UpTo n) s slots h)
]

pub numbers-map : (n : ℕ) (f : Slot → Slot) (slots : List Slot) → ((s : Slot) → (f s).number ≡ s.number) → NumbersUpTo n slots → NumbersUpTo n (map f slots)
numbers-map n f [] keeps h = All-nil (UpTo n)
numbers-map n f (s ∷ slots) keeps h =
    All-cons (UpTo n) (f s) (map f slots) (subst (λ k. k ≤ n) (sym (keeps s)) (All-head (UpTo n) s slots h)) (numbers-map n f slots keeps (All-tail (UpTo n) s slots h))

numbers-push : (n : ℕ) (slots : List Slot) (new : Slot) → NumbersUpTo n slots → new.number ≤ n → NumbersUpTo n (slots ++ new ∷ [])
numbers-push n slots new h le = All-append (UpTo n) slots (new ∷ []) h (All-cons (UpTo n) new [] le (All-nil (UpTo n)))

numbers-without : (n k : ℕ) (slots : List Slot) → NumbersUpTo n slots → NumbersUpTo n (without k slots)
numbers-without n k slots h = numbers-filter n (λ s. not (s.number == k)) slots h

-- STORES

at_itself : (n : ℕ) → n ≤ n
at_itself n = omega arith

grown-row : (S : Store) (r : Row) → r.etag ≡ last S + 1 → last S ≤ last (with_row S r)
grown-row S r next = let e = last-with S r in omega (arith, e, next)

abbrev put_row : ℕ → Store → List ℕ → Data → Row
put_row now S id body = record {
  etag = last S + 1;
  id = row_spelling id (row_at (folded id) S.rows);
  collection = collection_of body;
  body = doc (stored_body body);
  changed = now;
}

grown-one : (now : ℕ) (S : Store) (c : Command) → last S ≤ last (after_command now S c)
grown-one now S (Put id expected body) = grown-row S (put_row now S id body) refl
grown-one now S (Delete id expected) = elim (document_at S (folded id)) as (λ o. last S ≤ last (with_option S (option_map (tombstone (last S + 1) now) o))) [
  | None ↦ at_itself (last S)
  | Some r ↦ grown-row S (tombstone (last S + 1) now r) refl
]

grown : (now : ℕ) (commands : List Command) (S : Store) → last S ≤ last (after_commands now commands S)
grown now [] S = at_itself (last S)
grown now (c ∷ commands) S = let a = grown-one now S c in let b = grown now commands (after_command now S c) in omega (arith, a, b)

-- a transaction never lowers the last etag
pub commit-grown : (s : Setting) (w : Writer) (now : ℕ) (commands : List Command) (S : Store) (new : Written) → commit s w now commands S ≡ Ok new → last S ≤ last new.store
commit-grown s w now commands S new h =
    subst (λ (T : Store). last S ≤ last T) (sym (commit_from-applied 0 s w now commands (record { store = S; rows = [] }) new h)) (grown now commands S)

pub commit-numbers : (W : World) (now : ℕ) (commands : List Command) (slots : List Slot) (S : Store) (rows : List Row) → HasNumbers W now commands slots
    → (let w : Written = record { store = S; rows = rows } in commit W.setting Server now commands W.store ≡ Ok w) → NumbersUpTo (last S) slots
commit-numbers W now commands slots S rows h is =
    subst (λ (T : Store). NumbersUpTo (last T) slots) (sym (commit_from-applied 0 W.setting Server now commands (record { store = W.store; rows = [] }) (record { store = S; rows = rows }) is)) h

put-last : (now : ℕ) (S : Store) (id : List ℕ) (body : Data) → last (after_commands now (Put id AnyVector body ∷ []) S) ≡ last S + 1
put-last now S id body = last-with S (put_row now S id body)

-- CHANGES OF INDEXES

abbrev pub Numbered : ℕ → World → SlotChange → Type 0
Numbered now W c = HasNumbers W now c.commands c.slots

still : (now : ℕ) (W : World) (commands : List Command) (slots : List Slot) → NumbersUpTo (last W.store) slots → HasNumbers W now commands slots
still now W commands slots h = numbers-later (last W.store) (last (after_commands now commands W.store)) slots (grown now commands W.store) h

or_refused : (P : SlotChange → Type 0) (b : Bool) (refusal : SlotRefusal) (change : Result SlotChange SlotRefusal) → IfOk change P → IfOk (cond b (Err refusal) change) P
or_refused P true refusal change h = tt
or_refused P false refusal change h = h

either : (P : SlotChange → Type 0) (b : Bool) (one other : Result SlotChange SlotRefusal) → IfOk one P → IfOk other P → IfOk (cond b one other) P
either P true one other h g = h
either P false one other h g = g

module _ (now : ℕ) (W : World) (up : NumbersUpTo (last W.store) W.slots) where
  abbrev Fine : SlotChange → Type 0
  Fine c = Numbered now W c

  added_to-numbered : (slots : List Slot) (name : List ℕ) (d : Definition) → NumbersUpTo (last W.store) slots → Fine (added_to W slots name d)
  added_to-numbered slots name d h =
      let commands : List Command = Put (index_id name) AnyVector (row_body d) ∷ [] in
      let e = put-last now W.store (index_id name) (row_body d) in
      numbers-push (last (after_commands now commands W.store)) slots (record { number = last W.store + 1; name = name; version = new_version d; row = last W.store + 1 })
      (still now W commands slots h) (omega (arith, e))

  room-numbered : (name : List ℕ) (d : Definition) → IfOk (added_if_room W name d) Fine
  room-numbered name d = or_refused Fine (nat_le W.setting.max_slots (length W.slots)) TooManyIndexes (Ok (added W name d)) (added_to-numbered W.slots name d up)

  unchanged-numbered : (name : List ℕ) → Fine (unchanged W name)
  unchanged-numbered name = still now W [] W.slots up

  beside-numbered : (d : Definition) (s : Slot) (other : Option Slot) → IfOk (define_beside W d s other) Fine
  beside-numbered d s None =
      either Fine (same_definition d s.version.definition) (Ok (unchanged W s.name)) (added_if_room W (replacement_of s.name) d) (unchanged-numbered s.name) (room-numbered (replacement_of s.name) d)
  beside-numbered d s (Some r) =
      let less = numbers-without (last W.store) r.number W.slots up in
      either Fine (same_definition d s.version.definition) (Ok (dropped W r s.name))
      (cond (same_definition d r.version.definition) (Ok (unchanged W r.name)) (Ok (added_to W (without r.number W.slots) (replacement_of s.name) d)))
      (still now W (Delete (index_id r.name) AnyVector ∷ []) (without r.number W.slots) less)
      (either Fine (same_definition d r.version.definition) (Ok (unchanged W r.name)) (Ok (added_to W (without r.number W.slots) (replacement_of s.name) d))
      (unchanged-numbered r.name) (added_to-numbered (without r.number W.slots) (replacement_of s.name) d less))

  at-numbered : (name : List ℕ) (d : Definition) (there : Option Slot) → IfOk (define_at W name d there) Fine
  at-numbered name d None = room-numbered name d
  at-numbered name d (Some s) = beside-numbered d s (serving W.slots (replacement_of s.name))

  named-numbered : (name : List ℕ) (d : Definition) → IfOk (define_named W name d) Fine
  named-numbered name d = elim (name_refusal name) as (λ r. IfOk (unless_refused r (define_at W name d (serving W.slots name))) Fine) [
    | None ↦ at-numbered name d (serving W.slots name)
    | Some refusal ↦ tt
  ]

  free-numbered : (name : List ℕ) (d : Definition) → IfOk (define W name d) Fine
  free-numbered name d =
      or_refused Fine (nat_le W.setting.max_slots (length W.slots)) TooManyIndexes (cond (is_some (serving W.slots name)) (Err NameServes) (Ok (added W name d)))
      (or_refused Fine (is_some (serving W.slots name)) NameServes (Ok (added W name d)) (added_to-numbered W.slots name d up))

  define-numbered : (writer : Writer) (name : List ℕ) (d : Definition) → IfOk (define_by writer W name d) Fine
  define-numbered Client name d = named-numbered name d
  define-numbered Server name d = free-numbered name d

  out-numbered : (s : Slot) (other : Option Slot) → Fine (taken_out W s other)
  out-numbered s None = still now W (Delete (index_id s.name) AnyVector ∷ []) (without s.number W.slots) (numbers-without (last W.store) s.number W.slots up)
  out-numbered s (Some r) =
      still now W (Delete (index_id s.name) AnyVector ∷ Delete (index_id r.name) AnyVector ∷ []) (without r.number (without s.number W.slots))
      (numbers-without (last W.store) r.number (without s.number W.slots) (numbers-without (last W.store) s.number W.slots up))

  remove-numbered : (name : List ℕ) → IfOk (remove W name) Fine
  remove-numbered name = elim (serving W.slots name) as (λ o. IfOk (removed W o) Fine) [
    | None ↦ tt
    | Some s ↦ out-numbered s (serving W.slots (replacement_of s.name))
  ]

  renamed-number : (n : ℕ) (name : List ℕ) (row : ℕ) (s : Slot) → (renamed n name row s).number ≡ s.number
  renamed-number n name row s =
      elim (s.number == n) as (λ b. (cond b (record { number = s.number; name = name; version = s.version; row = row }) s).number ≡ s.number) [ true ↦ refl | false ↦ refl ]

  over-numbered : (s r : Slot) → Fine (takes_over W s r)
  over-numbered s r =
      still now W (takes_over W s r).commands (takes_over W s r).slots
      (numbers-map (last W.store) (renamed r.number s.name (last W.store + 1)) (without s.number W.slots) (renamed-number r.number s.name (last W.store + 1)) (numbers-without (last W.store) s.number W.slots up))

  to-numbered : (s : Slot) (other : Option Slot) → IfOk (switched_to W s other) Fine
  to-numbered s None = tt
  to-numbered s (Some r) =
      let stale = NotFresh r.version.etag (newest_read W.store r) in
      or_refused Fine (nat_le W.setting.max_notes (length W.notes)) NotesFull (cond (is_stale W.store r) (Err stale) (Ok (takes_over W s r)))
      (or_refused Fine (is_stale W.store r) stale (Ok (takes_over W s r)) (over-numbered s r))

  switch-numbered : (name : List ℕ) → IfOk (switch W name) Fine
  switch-numbered name = elim (serving W.slots name) as (λ o. IfOk (switched W o) Fine) [
    | None ↦ tt
    | Some s ↦ to-numbered s (serving W.slots (replacement_of s.name))
  ]

  pub retired-numbered : Fine (retirement W)
  retired-numbered = still now W (retirement W).commands (retirement W).slots (numbers-filter (last W.store) (λ s. not (is_retired W.slots s)) W.slots up)

-- the change that is made
change-of : (now : ℕ) (W : World) (c : SlotChange) (change : Result SlotChange SlotRefusal) → Ok c ≡ change → IfOk change (Numbered now W) → Numbered now W c
change-of now W c change is h = subst (λ r. IfOk r (Numbered now W)) (sym is) h

pub defined-numbers : (now : ℕ) (W : World) (writer : Writer) (name : List ℕ) (d : Definition) (c : SlotChange) → NumbersUpTo (last W.store) W.slots → Ok c ≡ define_by writer W name d → Numbered now W c
defined-numbers now W writer name d c up is = change-of now W c (define_by writer W name d) is (define-numbered now W up writer name d)

pub removed-numbers : (now : ℕ) (W : World) (name : List ℕ) (c : SlotChange) → NumbersUpTo (last W.store) W.slots → Ok c ≡ remove W name → Numbered now W c
removed-numbers now W name c up is = change-of now W c (remove W name) is (remove-numbered now W up name)

pub switched-numbers : (now : ℕ) (W : World) (name : List ℕ) (c : SlotChange) → NumbersUpTo (last W.store) W.slots → Ok c ≡ switch W name → Numbered now W c
switched-numbers now W name c up is = change-of now W c (switch W name) is (switch-numbered now W up name)

-- A NEW VERSION

pub versioned-number : (n : ℕ) (v : Version) (s : Slot) → (with_version n v s).number ≡ s.number
versioned-number n v s = elim (s.number == n) as (λ b. (cond b (record { number = s.number; name = s.name; version = v; row = s.row }) s).number ≡ s.number) [ true ↦ refl | false ↦ refl ]
