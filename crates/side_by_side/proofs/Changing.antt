-- Changes of slots, and what the definitions say of them.
use Rattle.std.proofs.Common.{◌≡◌, ℕ, List, Bool, true, false, cond, nat_le, nat_lt, length, Option, Some, None, is_some, Result, Ok, Err, sym, ap, ◌∙◌, subst}
use Rattle.std.specs.Prelude.{IfSome}
use Rattle.spec_data.specs.Faults.{replacement_of}
use Rattle.spec_data.specs.Limits.{max_index_name}
use Rattle.index_tree.specs.Definitions.{Definition, same_definition}
use Rattle.spec_index.specs.World.{World, Slot, SlotChange, SlotRefusal, NameServes, NameTooLong, NotFresh, NotesFull, ReservedName, TooManyIndexes, added, added_if_room, define, define_at, define_beside, define_named, is_reserved_name, is_stale, name_refusal, newest_read, remove, removed, serving, switch, switched, switched_to, taken_out, takes_over, unchanged, unless_refused}

abbrev pub Answer : Type 0
Answer = Option (Result SlotChange SlotRefusal)

abbrev pub Gives : Answer → Result SlotChange SlotRefusal → Type 0
Gives answer change = IfSome answer (λ c. c ≡ change)

gives-same : (answer : Answer) (a b : Result SlotChange SlotRefusal) → a ≡ b → Gives answer a → Gives answer b
gives-same answer a b e h = subst (λ x. Gives answer x) e h

-- DEFINING

abbrev beside-by : World → Definition → Slot → Bool → Result SlotChange SlotRefusal
beside-by W d s same = cond same (Ok (unchanged W s.name)) (added_if_room W (replacement_of s.name) d)

-- a definition that is another one becomes a replacement
pub newly : (W : World) (d : Definition) (s : Slot) (name : List ℕ) (answer : Answer) → same_definition d s.version.definition ≡ false
    → name ≡ replacement_of s.name → Gives answer (added_if_room W name d) → Gives answer (define_beside W d s None)
newly W d s name answer differs is h = gives-same answer (added_if_room W name d) (define_beside W d s None) (ap (λ n. added_if_room W n d) is ∙ ap (beside-by W d s) (sym differs)) h

pub over : (W : World) (d : Definition) (s r : Slot) (o : Option Slot) (change : SlotChange) → o ≡ Some r → Ok change ≡ define_beside W d s (Some r) → Ok change ≡ define_beside W d s o
over W d s r o change is h = h ∙ ap (define_beside W d s) (sym is)

pub alone : (W : World) (d : Definition) (s : Slot) (o : Option Slot) (answer : Answer) → o ≡ None → Gives answer (define_beside W d s None) → Gives answer (define_beside W d s o)
alone W d s o answer none h = gives-same answer (define_beside W d s None) (define_beside W d s o) (ap (define_beside W d s) (sym none)) h

pub at-slot : (W : World) (name : List ℕ) (d : Definition) (s : Slot) (answer : Answer) → serving W.slots name ≡ Some s
    → Gives answer (define_beside W d s (serving W.slots (replacement_of s.name))) → Gives answer (define_at W name d (serving W.slots name))
at-slot W name d s answer found h =
    gives-same answer (define_beside W d s (serving W.slots (replacement_of s.name))) (define_at W name d (serving W.slots name)) (ap (define_at W name d) (sym found)) h

pub at-none : (W : World) (name : List ℕ) (d : Definition) (answer : Answer) → serving W.slots name ≡ None → Gives answer (added_if_room W name d) → Gives answer (define_at W name d (serving W.slots name))
at-none W name d answer none h = gives-same answer (added_if_room W name d) (define_at W name d (serving W.slots name)) (ap (define_at W name d) (sym none)) h

not-refused : (name : List ℕ) → is_reserved_name name ≡ false → nat_lt max_index_name (length name) ≡ false → name_refusal name ≡ None
not-refused name plain short =
    ap (λ b. cond b (Some ReservedName) (cond (nat_lt max_index_name (length name)) (Some (NameTooLong (length name))) None)) plain
    ∙ ap (λ b. cond b (Some (NameTooLong (length name))) None) short

named-at : (W : World) (name : List ℕ) (d : Definition) → is_reserved_name name ≡ false → nat_lt max_index_name (length name) ≡ false → define_at W name d (serving W.slots name) ≡ define_named W name d
named-at W name d plain short = ap (λ r. unless_refused r (define_at W name d (serving W.slots name))) (sym (not-refused name plain short))

pub defines-at : (W : World) (name : List ℕ) (d : Definition) (answer : Answer) → is_reserved_name name ≡ false → nat_lt max_index_name (length name) ≡ false
    → Gives answer (define_at W name d (serving W.slots name)) → Gives answer (define_named W name d)
defines-at W name d answer plain short h = gives-same answer (define_at W name d (serving W.slots name)) (define_named W name d) (named-at W name d plain short) h

pub refuses-reserved : (W : World) (name : List ℕ) (d : Definition) → is_reserved_name name ≡ true → Err ReservedName ≡ define_named W name d
refuses-reserved W name d is =
    ap (λ b. unless_refused (cond b (Some ReservedName) (cond (nat_lt max_index_name (length name)) (Some (NameTooLong (length name))) None)) (define_at W name d (serving W.slots name))) (sym is)

pub refuses-long : (W : World) (name : List ℕ) (d : Definition) → is_reserved_name name ≡ false → nat_lt max_index_name (length name) ≡ true → Err (NameTooLong (length name)) ≡ define_named W name d
refuses-long W name d plain long =
    ap (λ r. unless_refused r (define_at W name d (serving W.slots name)))
    (sym (ap (λ b. cond b (Some ReservedName) (cond (nat_lt max_index_name (length name)) (Some (NameTooLong (length name))) None)) plain
    ∙ ap (λ b. cond b (Some (NameTooLong (length name))) None) long))

pub renamed-gives : (W : World) (a b : List ℕ) (d : Definition) (answer : Answer) → a ≡ b → Gives answer (added_if_room W a d) → Gives answer (added_if_room W b d)
renamed-gives W a b d answer is h = subst (λ n. Gives answer (added_if_room W n d)) is h

-- the server's name is free
pub defines-free : (W : World) (name : List ℕ) (d : Definition) (answer : Answer) → serving W.slots name ≡ None → Gives answer (added_if_room W name d) → Gives answer (define W name d)
defines-free W name d answer none h =
    gives-same answer (added_if_room W name d) (define W name d)
    (ap (λ (o : Option Slot). cond {A = Result SlotChange SlotRefusal} (nat_le W.setting.max_slots (length W.slots)) (Err TooManyIndexes) (cond {A = Result SlotChange SlotRefusal} (is_some o) (Err NameServes) (Ok (added W name d)))) (sym none)) h

pub ruleset defining = (defines-at, refuses-reserved, refuses-long)

-- REMOVING

pub removes : (W : World) (name : List ℕ) (s : Slot) (change : SlotChange) → serving W.slots name ≡ Some s → change ≡ taken_out W s (serving W.slots (replacement_of s.name)) → Ok change ≡ remove W name
removes W name s change found is = ap Ok is ∙ ap (removed W) (sym found)

-- SWITCHING

pub switches : (W : World) (name : List ℕ) (s r : Slot) (answer : Answer) → serving W.slots name ≡ Some s → serving W.slots (replacement_of s.name) ≡ Some r
    → Gives answer (switched_to W s (Some r)) → Gives answer (switch W name)
switches W name s r answer found beside h = gives-same answer (switched_to W s (Some r)) (switch W name) (ap (switched_to W s) (sym beside) ∙ ap (switched W) (sym found)) h

abbrev refused-or : World → Slot → Slot → Bool → Bool → Result SlotChange SlotRefusal
refused-or W s r full stale = cond full (Err NotesFull) (cond stale (Err (NotFresh r.version.etag (newest_read W.store r))) (Ok (takes_over W s r)))

pub switches-to : (W : World) (s r : Slot) (change : SlotChange) → nat_le W.setting.max_notes (length W.notes) ≡ false → is_stale W.store r ≡ false → change ≡ takes_over W s r → Ok change ≡ switched_to W s (Some r)
switches-to W s r change few fresh is = ap Ok is ∙ (λ i. refused-or W s r ((sym few) i) ((sym fresh) i))
