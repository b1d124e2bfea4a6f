-- A store never has more rows than its setting allows, and no etag past the greatest.
use Rattle.std.proofs.Common.{◌≡◌, ℕ, suc, ◌+◌, ◌<◌, ◌≤◌, List, [], ◌∷◌, length, Bool, true, false, not, cond, ◌&&◌, ◌==◌, nat_lt, nat_le, is_none, is_some, Option, Some, None, Ok, filter, map, refl, sym, ap, ◌∙◌, subst, arith, inl, inr, length-append}
use Rattle.std.proofs.lemmas.Bool.{leb-false, ltb-true, ltb-false, eq-eqb}
use Rattle.std.specs.Option.{option_map}
use Rattle.spec_data.specs.Folding.{folded, same_key}
use Rattle.spec_data.specs.Rows.{Row, key}
use Rattle.spec_store.specs.Store.{row_at, put, Store, last}
use Rattle.spec_store.specs.Commit.{Command, Put, Delete, Writer, Setting, Refusal, StoreFull, Written, first_of, refusal_of, reserved, too_large, collection_changed, conflict, store_full, takes_etag, refuse_if, EtagsSpent, etags_spent, document_at, tombstone, row_of, with_written, or_refused, commit_from}
use Rattle.spec_server.specs.Sound.{Has}
use Rattle.spec_store.proofs.StoreLemmas.{same_row, found_key}
use Rattle.spec_store.proofs.LaterLemmas.{last-with}
use Rattle.spec_store.proofs.CommitLemmas.{put_key, document_found, row_of-follows}

-- WHAT IS LEFT WITHOUT AN ID

abbrev others : List ℕ → List Row → List Row
others q rows = filter (λ x. not (same_key q (key x))) rows

no_more : (q : List ℕ) (rows : List Row) → length (others q rows) ≤ length rows
no_more q [] = omega arith
no_more q (x ∷ rows) = elim (same_key q (key x)) as (λ b. length (cond (not b) (x ∷ others q rows) (others q rows)) ≤ length (x ∷ rows)) [
  | true ↦ let a = no_more q rows in omega arith
  | false ↦ let a = no_more q rows in omega arith
]

one_fewer : (q : List ℕ) (rows : List Row) (r : Row) → row_at q rows ≡ Some r → length (others q rows) < length rows
one_fewer q [] r h = absurd cc
one_fewer q (x ∷ rows) r h =
    elim (same_key q (key x)) as (λ b. cond b (Some x) (row_at q rows) ≡ Some r → length (cond (not b) (x ∷ others q rows) (others q rows)) < length (x ∷ rows)) [
      | true ↦ λ is. let a = no_more q rows in omega arith
      | false ↦ λ is. let a = one_fewer q rows r is in omega arith
    ] h

put_over : (r old : Row) (rows : List Row) → row_at (key r) rows ≡ Some old → length (put r rows) ≤ length rows
put_over r old rows h = let a = one_fewer (key r) rows old h in let b = length-append (others (key r) rows) (r ∷ []) in omega arith

put_beside : (r : Row) (rows : List Row) → length (put r rows) ≤ length rows + 1
put_beside r rows = let a = no_more (key r) rows in let b = length-append (others (key r) rows) (r ∷ []) in omega arith

-- WHAT A COMMAND THAT IS TAKEN LEAVES

pub all_none : (os : List (Option Refusal)) (o : Option Refusal) → first_of os ≡ None → Has os o → o ≡ None
all_none [] o h at = absurd at
all_none (None ∷ os) o h (inl e) = sym e
all_none (None ∷ os) o h (inr at) = all_none os o h at
all_none (Some r ∷ os) o h at = absurd cc

has_room : (s : Setting) (w : Writer) (S : Store) (c : Command) → refusal_of s w S c ≡ None → store_full s S c ≡ None
has_room s w S c h =
    all_none (reserved w c ∷ too_large c ∷ collection_changed S c ∷ conflict s S c ∷ store_full s S c ∷ etags_spent S c ∷ []) (store_full s S c) h (inr (inr (inr (inr (inl refl)))))

fits : (s : Setting) (S : Store) (o : Option Row) (r : Row) → length S.rows ≤ s.max_rows → row_at (key r) S.rows ≡ o
    → cond (is_none o && nat_le s.max_rows (length S.rows)) (Some (StoreFull (length S.rows))) None ≡ None → length (put r S.rows) ≤ s.max_rows
fits s S (Some x) r le at h = let a = put_over r x S.rows at in omega arith
fits s S None r le at h =
    elim (nat_le s.max_rows (length S.rows)) as (λ b. nat_le s.max_rows (length S.rows) ≡ b → cond b (Some (StoreFull (length S.rows))) None ≡ None → length (put r S.rows) ≤ s.max_rows) [
      | true ↦ λ e g. absurd cc
      | false ↦ λ e g. let a = leb-false s.max_rows (length S.rows) e in let b = put_beside r S.rows in omega arith
    ] refl h

row_of-fits : (s : Setting) (w : Writer) (now : ℕ) (S : Store) (c : Command) (r : Row) → length S.rows ≤ s.max_rows → refusal_of s w S c ≡ None → row_of now S c ≡ Some r → length (put r S.rows) ≤ s.max_rows
row_of-fits s w now S (Put id expected body) r le h is =
    subst (λ x. length (put x S.rows) ≤ s.max_rows) (same_row _ r is)
    (fits s S (row_at (folded id) S.rows) _ le (ap (λ k. row_at k S.rows) (put_key id S.rows)) (has_room s w S (Put id expected body) h))
row_of-fits s w now S (Delete id expected) r le h is =
    elim (document_at S (folded id)) as (λ o. document_at S (folded id) ≡ o → option_map (tombstone (last S + 1) now) o ≡ Some r → length (put r S.rows) ≤ s.max_rows) [
      | None ↦ λ e g. absurd cc
      | Some d ↦ λ e g.
          let there = document_found S (folded id) d e in
          subst (λ x. length (put x S.rows) ≤ s.max_rows) (same_row _ r g)
          (let a = put_over (tombstone (last S + 1) now d) d S.rows (subst (λ k. row_at k S.rows ≡ Some d) (found_key (folded id) S.rows d there) there) in omega arith)
    ] refl is

pub commit_from-fits : (at : ℕ) (s : Setting) (w : Writer) (now : ℕ) (cs : List Command) (done new : Written) → length done.store.rows ≤ s.max_rows → commit_from at s w now cs done ≡ Ok new → length new.store.rows ≤ s.max_rows
commit_from-fits at s w now [] done new le h = subst (λ (x : Written). length x.store.rows ≤ s.max_rows) (let e : done ≡ new = cc in e) le
commit_from-fits at s w now (c ∷ cs) done new le h =
    elim (refusal_of s w done.store c) as (λ o. refusal_of s w done.store c ≡ o → or_refused o at (commit_from (at + 1) s w now cs (with_written (row_of now done.store c) done)) ≡ Ok new → length new.store.rows ≤ s.max_rows) [
      | None ↦ λ e g. elim (row_of now done.store c) as (λ o. row_of now done.store c ≡ o → commit_from (at + 1) s w now cs (with_written o done) ≡ Ok new → length new.store.rows ≤ s.max_rows) [
        | None ↦ λ f k. commit_from-fits (at + 1) s w now cs done new le k
        | Some r ↦ λ f k. commit_from-fits (at + 1) s w now cs (with_written (Some r) done) new (row_of-fits s w now done.store c r le e f) k
      ] refl g
      | Some kind ↦ λ e g. absurd cc
    ] refl h

-- THE LAST ETAG

pub unspent : (s : Setting) (w : Writer) (S : Store) (c : Command) → refusal_of s w S c ≡ None → takes_etag S c ≡ true → last S ≤ 9007199254740991 → last S < 9007199254740991
unspent s w S c h takes le =
    elim (nat_lt (last S) 9007199254740991) as (λ b. nat_lt (last S) 9007199254740991 ≡ b → last S < 9007199254740991) [
      | true ↦ λ e. ltb-true (last S) 9007199254740991 e
      | false ↦ λ e.
          let at = ltb-false (last S) 9007199254740991 e in
          let is = eq-eqb (last S) 9007199254740991 (omega arith) in
          let none = all_none (reserved w c ∷ too_large c ∷ collection_changed S c ∷ conflict s S c ∷ store_full s S c ∷ etags_spent S c ∷ []) (etags_spent S c) h (inr (inr (inr (inr (inr (inl refl)))))) in
          let some : etags_spent S c ≡ Some (EtagsSpent (last S)) = ap (λ b. refuse_if (b && (last S == 9007199254740991)) (EtagsSpent (last S))) takes ∙ ap (λ b. refuse_if b (EtagsSpent (last S))) is in
          absurd (let both = sym none ∙ some in cc)
    ] refl

pub takes : (now : ℕ) (S : Store) (c : Command) (r : Row) → row_of now S c ≡ Some r → takes_etag S c ≡ true
takes now S (Put id expected body) r is = refl
takes now S (Delete id expected) r is = elim (document_at S (folded id)) as (λ o. option_map (tombstone (last S + 1) now) o ≡ Some r → is_some o ≡ true) [
  | None ↦ λ e. absurd cc
  | Some d ↦ λ e. refl
] is

pub commit_from-last : (at : ℕ) (s : Setting) (w : Writer) (now : ℕ) (cs : List Command) (done new : Written) → last done.store ≤ 9007199254740991 → commit_from at s w now cs done ≡ Ok new → last new.store ≤ 9007199254740991
commit_from-last at s w now [] done new le h = subst (λ (x : Written). last x.store ≤ 9007199254740991) (let e : done ≡ new = cc in e) le
commit_from-last at s w now (c ∷ cs) done new le h =
    elim (refusal_of s w done.store c) as (λ o. refusal_of s w done.store c ≡ o → or_refused o at (commit_from (at + 1) s w now cs (with_written (row_of now done.store c) done)) ≡ Ok new → last new.store ≤ 9007199254740991) [
      | None ↦ λ e g. elim (row_of now done.store c) as (λ o. row_of now done.store c ≡ o → commit_from (at + 1) s w now cs (with_written o done) ≡ Ok new → last new.store ≤ 9007199254740991) [
        | None ↦ λ f k. commit_from-last (at + 1) s w now cs done new le k
        | Some r ↦ λ f k.
            let m = row_of-follows s w now done.store c r e f in
            let below = unspent s w done.store c e (takes now done.store c r f) le in
            let next = last-with done.store r in
            commit_from-last (at + 1) s w now cs (with_written (Some r) done) new (let n = m.next in omega arith) k
      ] refl g
      | Some kind ↦ λ e g. absurd cc
    ] refl h

-- LISTS

pub length_mapped : {X Y : Type 0} (f : X → Y) (xs : List X) → length (map f xs) ≡ length xs
length_mapped f [] = refl
length_mapped f (x ∷ xs) = ap suc (length_mapped f xs)

pub length_filtered : {X : Type 0} (p : X → Bool) (xs : List X) → length (filter p xs) ≤ length xs
length_filtered p [] = omega arith
length_filtered p (x ∷ xs) = elim (p x) as (λ b. length (cond b (x ∷ filter p xs) (filter p xs)) ≤ length (x ∷ xs)) [
  | true ↦ let a = length_filtered p xs in omega arith
  | false ↦ let a = length_filtered p xs in omega arith
]

-- an element that does not pass is left out
pub fewer_filtered : {X : Type 0} (p : X → Bool) (xs : List X) (x : X) → Has xs x → p x ≡ false → length (filter p xs) < length xs
fewer_filtered p [] x h is = absurd h
fewer_filtered p (y ∷ xs) x (inl e) is =
    subst (λ b. length (cond b (y ∷ filter p xs) (filter p xs)) < length (y ∷ xs)) (sym (ap p e ∙ is)) (let a = length_filtered p xs in omega arith)
fewer_filtered p (y ∷ xs) x (inr h) is = let a = fewer_filtered p xs x h is in elim (p y) as (λ b. length (cond b (y ∷ filter p xs) (filter p xs)) < length (y ∷ xs)) [
  | true ↦ omega arith
  | false ↦ omega arith
]
