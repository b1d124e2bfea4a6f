-- A row that no test stands against fits into the store.
use Rattle.std.proofs.Common.{◌≡◌, ◌<◌, ◌≤◌, ◌+◌, ◌^◌, ℕ, List, [], ◌∷◌, ◌++◌, length, filter, not, Bool, true, false, cond, Option, Some, None, nat_le, refl, sym, ap, ◌∙◌, subst, arith}
use Rattle.std.proofs.lemmas.Bool.{eq-eqb}
use Rattle.std.proofs.lemmas.Grind.{common_steps}
use Rattle.std.specs.Prelude.{◌==◌}
use Rattle.std.specs.Option.{option_map}
use Rattle.spec_data.specs.Folding.{folded, same_key}
use Rattle.spec_data.specs.Rows.{Row, key}
use Rattle.spec_store.specs.Store.{Store, last, row_at, put, with_row}
use Rattle.spec_store.specs.Commit.{Command, Put, Delete, Setting, Refusal, id_of, document_at, refuse_if, row_of, tombstone, with_option}
use Rattle.spec_store.proofs.CommitLemmas.{put_key, document_found}
use Rattle.spec_store.proofs.LaterLemmas.{last-with}
use Rattle.spec_store.proofs.StoreLemmas.{found_key}
use Rattle.doc_store.specs.Bounds.{IsWithin}
use Rattle.spec_data.specs.Limits.{max_etag}
use Rattle.doc_txn.specs.Tests.{full_for, spent_for}

not_refused : (b : Bool) (r : Refusal) → refuse_if b r ≡ None → b ≡ false
not_refused true r h = absurd cc
not_refused false r h = refl

-- HOW MANY ROWS THERE ARE

length-put : (r : Row) (rows : List Row) → length (put r rows) ≤ length rows + 1
length-put r [] = omega arith
length-put r (x ∷ rows) =
    let h = length-put r rows in
    elim (same_key (key r) (key x)) as (λ b. length (cond (not b) (x ∷ filter (λ y. not (same_key (key r) (key y))) rows) (filter (λ y. not (same_key (key r) (key y))) rows) ++ r ∷ []) ≤ length (x ∷ rows) + 1) [
      | true ↦ omega arith
      | false ↦ omega arith
    ]

-- a row in place of another makes no more rows
length-put_known : (r old : Row) (rows : List Row) → row_at (key r) rows ≡ Some old → length (put r rows) ≤ length rows
length-put_known r old [] h = absurd cc
length-put_known r old (x ∷ rows) h =
    elim (same_key (key r) (key x)) as (λ b. cond b (Some x) (row_at (key r) rows) ≡ Some old → length (cond (not b) (x ∷ filter (λ y. not (same_key (key r) (key y))) rows) (filter (λ y. not (same_key (key r) (key y))) rows) ++ r ∷ []) ≤ length (x ∷ rows)) [
      | true ↦ λ e. let g = length-put r rows in omega arith
      | false ↦ λ e. let g = length-put_known r old rows e in omega arith
    ] h

few_rows : (s : Setting) (S : Store) (r : Row) (old : Option Row) → row_at (key r) S.rows ≡ old → full_for s S (Some r) old ≡ None → s.max_rows < 2 ^ 32 → length S.rows < 2 ^ 32 → length (put r S.rows) < 2 ^ 32
few_rows s S r None is full most few =
    let g = length-put r S.rows in
    let free : nat_le s.max_rows (length S.rows) ≡ false = not_refused (nat_le s.max_rows (length S.rows)) (Refusal.StoreFull (length S.rows)) full in
    let lt : length S.rows < s.max_rows = grind (arith, common_steps) in omega arith
few_rows s S r (Some old) is full most few = let g = length-put_known r old S.rows is in omega arith

-- THE LAST ETAG

next_within : (S : Store) (r : Row) → spent_for S (Some r) ≡ None → last S ≤ max_etag → last S + 1 ≤ max_etag
next_within S r h le =
    let free : (last S == max_etag) ≡ false = not_refused (last S == max_etag) (Refusal.EtagsSpent (last S)) h in
    let apart : last S ≡ max_etag → ⊥ = λ e. let t = eq-eqb (last S) max_etag e in cc in
    omega arith

-- THE ROW OF A COMMAND

same_row : (a b : Row) → Some a ≡ Some b → a ≡ b
same_row a b h = cc

-- it has the next etag, and the id of the command
row_of-is : (now : ℕ) (S : Store) (c : Command) (r : Row) → row_of now S c ≡ Some r → (r.etag ≡ last S + 1) × (key r ≡ folded (id_of c))
row_of-is now S (Put id expected body) r h = (ap (λ (x : Row). x.etag) (sym (same_row _ r h)), ap key (sym (same_row _ r h)) ∙ put_key id S.rows)
row_of-is now S (Delete id expected) r h =
    elim (document_at S (folded id)) as (λ o. document_at S (folded id) ≡ o → option_map (tombstone (last S + 1) now) o ≡ Some r → (r.etag ≡ last S + 1) × (key r ≡ folded id)) [
      | None ↦ λ e g. absurd cc
      | Some d ↦ λ e g.
          (ap (λ (x : Row). x.etag) (sym (same_row _ r g)), ap key (sym (same_row _ r g)) ∙ sym (found_key (folded id) S.rows d (document_found S (folded id) d e)))
    ] refl h

one_fits : (s : Setting) (S : Store) (r : Row) → full_for s S (Some r) (row_at (key r) S.rows) ≡ None → spent_for S (Some r) ≡ None → r.etag ≡ last S + 1 → s.max_rows < 2 ^ 32 → length S.rows < 2 ^ 32 → last S ≤ max_etag
    → IsWithin (with_row S r)
one_fits s S r full spent next most few bound = record {
  etags = let l = last-with S r in let n = next_within S r spent bound in omega arith;
  rows = few_rows s S r (row_at (key r) S.rows) refl full most few;
}

pub row-fits : (s : Setting) (now : ℕ) (S : Store) (c : Command) (row : Option Row) → row ≡ row_of now S c → full_for s S row (row_at (folded (id_of c)) S.rows) ≡ None → spent_for S row ≡ None
    → s.max_rows < 2 ^ 32 → length S.rows < 2 ^ 32 → last S ≤ max_etag → IsWithin (with_option S row)
row-fits s now S c None is full spent most few bound = record { etags = bound; rows = few }
row-fits s now S c (Some r) is full spent most few bound =
    let h = row_of-is now S c r (sym is) in
    one_fits s S r (subst (λ q. full_for s S (Some r) (row_at q S.rows) ≡ None) (sym h.1) full) spent h.0 most few bound
