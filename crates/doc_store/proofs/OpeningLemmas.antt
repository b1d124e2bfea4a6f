-- Which rows a store is opened with, all at once or one after another.
use Rattle.std.proofs.Common.{◌≡◌, ℕ, ◌<◌, ◌≤◌, ◌+◌, ◌^◌, List, [], ◌∷◌, ◌++◌, Bool, true, false, cond, not, ◌&&◌, nat_lt, nat_le, is_some, Option, Some, None, length, take, drop, get_or, append_assoc, refl, sym, ap, ◌∙◌, subst, arith}
use Rattle.std.proofs.lemmas.Bool.{leb-true, ltb-true}
use Rattle.std.proofs.lemmas.List.{drop_more, take_more, length-append, length-take}
use Rattle.std.specs.Cmp.Lexicographic.{nat_list_eq_equiv}
use Rattle.spec_data.specs.Folding.{same_key}
use Rattle.spec_data.specs.Rows.{Row, key}
use Rattle.spec_store.specs.Store.{row_at, put, last_of, AreApart, AreRising, Store, with_row}
use Rattle.spec_store.proofs.StoreLemmas.{both_true, last_of-append}
use Rattle.spec_store.proofs.LaterLemmas.{last-with}
use Rattle.doc_store.specs.Bounds.{AreWithin, IsWithin}
use Rattle.spec_data.specs.Limits.{max_etag, moments_end}
use Rattle.doc_store.specs.Opening.{is_next, are_next, is_sound_after, first_bad}
use Rattle.doc_store.proofs.MapLemmas.{none_out}

no_row : (o : Option Row) → not (is_some o) ≡ true → o ≡ None
no_row None h = refl
no_row (Some r) h = cc

-- what may stand behind others has an etag within the bound, and a new id
sound_etag : (earlier : List Row) (r : Row) → is_sound_after earlier r ≡ true → r.etag ≤ max_etag
sound_etag earlier r h = leb-true r.etag max_etag (both_true _ _ (both_true _ _ (both_true _ _ (both_true _ _ h).0).0).0).1

sound_id : (earlier : List Row) (r : Row) → is_sound_after earlier r ≡ true → row_at (key r) earlier ≡ None
sound_id earlier r h = no_row (row_at (key r) earlier) (both_true _ _ (both_true _ _ (both_true _ _ h).0).0).1

-- a row with a new id goes to the end
at_end : (r : Row) (rows : List Row) → row_at (key r) rows ≡ None → put r rows ≡ rows ++ r ∷ []
at_end r rows none = ap (λ xs. xs ++ r ∷ []) (none_out (key r) rows none)

pub opens_within : (S : Store) (rows : List Row) (i : ℕ) (r : Row) → S.rows ≡ take i rows → i < length rows → length rows < 2 ^ 32 → is_sound_after S.rows r ≡ true → IsWithin (with_row S r)
opens_within S rows i r so_far lt few h = record {
  etags = let a = last-with S r in let b = sound_etag S.rows r h in omega arith;
  rows = let a = ap length (at_end r S.rows (sound_id S.rows r h)) in let b = ap length so_far in omega (arith, length-append S.rows (r ∷ []), length-take i rows);
}

pub opens_on : (S : Store) (rows : List Row) (i : ℕ) (r : Row) (new : Store) → S.rows ≡ take i rows → i < length rows → get_or rows i r ≡ r → is_sound_after S.rows r ≡ true → new ≡ with_row S r
    → new.rows ≡ take (i + 1) rows
opens_on S rows i r new so_far lt is h made =
    ap (λ (T : Store). T.rows) made ∙ at_end r S.rows (sound_id S.rows r h) ∙ ap (λ xs. xs ++ r ∷ []) so_far
    ∙ sym (take_more rows i r lt ∙ ap (λ x. take i rows ++ x ∷ []) is)

pub first_bad_on : (S : Store) (rows : List Row) (i : ℕ) (r : Row) (new : Store) (bad : Option ℕ) → i < length rows → get_or rows i r ≡ r → is_sound_after S.rows r ≡ true → new ≡ with_row S r
    → first_bad S.rows (drop i rows) ≡ bad → first_bad new.rows (drop (i + 1) rows) ≡ bad
first_bad_on S rows i r new bad lt is h made was =
    ap (λ (T : Store). first_bad T.rows (drop (i + 1) rows)) made
    ∙ ap (λ xs. first_bad xs (drop (i + 1) rows)) (at_end r S.rows (sound_id S.rows r h))
    ∙ sym (ap (λ b. cond b (first_bad (S.rows ++ r ∷ []) (drop (i + 1) rows)) (Some r.etag)) h)
    ∙ ap (first_bad S.rows) (sym (drop_more rows i r lt ∙ ap (λ x. x ∷ drop (i + 1) rows) is))
    ∙ was

-- ALL AT ONCE

-- each row is past those before it, and within the bound
pub next_rise : (last : ℕ) (rows : List Row) → are_next last rows ≡ true → AreRising last rows
next_rise last [] h = tt
next_rise last (r ∷ rows) h =
    let both = both_true _ _ h in
    (ltb-true last r.etag (both_true _ _ (both_true _ _ (both_true _ _ both.0).0).0).0, next_rise r.etag rows both.1)

next_bound : (last : ℕ) (rows : List Row) → last ≤ max_etag → are_next last rows ≡ true → last_of last rows ≤ max_etag
next_bound last [] le h = le
next_bound last (r ∷ rows) le h =
    let both = both_true _ _ h in
    next_bound r.etag rows (leb-true r.etag max_etag (both_true _ _ (both_true _ _ (both_true _ _ both.0).0).0).1) both.1

pub next_within : (rows : List Row) → are_next 0 rows ≡ true → length rows < 2 ^ 32 → AreWithin rows
next_within rows h few = record { etags = next_bound 0 rows (omega arith) h; rows = few }

with_id : (a b n c d : Bool) → a && b && c && d ≡ true → n ≡ true → a && b && n && c && d ≡ true
with_id true true true c d h g = h
with_id true true false c d h g = absurd cc
with_id true false n c d h g = absurd cc
with_id false b n c d h g = absurd cc

next_sound : (earlier : List Row) (r : Row) → is_next (last_of 0 earlier) r ≡ true → row_at (key r) earlier ≡ None → is_sound_after earlier r ≡ true
next_sound earlier r h none = with_id (nat_lt (last_of 0 earlier) r.etag) (nat_le r.etag max_etag) _ (nat_lt 0 (length r.collection)) (nat_lt r.changed moments_end) h (ap (λ o. not (is_some o)) none)

differs : (q : List ℕ) (earlier rows : List Row) (r : Row) → row_at q (earlier ++ r ∷ rows) ≡ None → same_key q (key r) ≡ false
differs q [] rows r none = elim (same_key q (key r)) as (λ b. cond b (Some r) (row_at q rows) ≡ None → b ≡ false) [ true ↦ λ h. absurd cc | false ↦ λ h. refl ] none
differs q (x ∷ earlier) rows r none =
    elim (same_key q (key x)) as (λ b. cond b (Some x) (row_at q (earlier ++ r ∷ rows)) ≡ None → same_key q (key r) ≡ false) [ true ↦ λ h. absurd cc | false ↦ λ h. differs q earlier rows r h ] none

new_id : (earlier rows : List Row) (r : Row) → AreApart (earlier ++ r ∷ rows) → row_at (key r) earlier ≡ None
new_id [] rows r apart = refl
new_id (x ∷ earlier) rows r apart =
    ap (λ b. cond b (Some x) (row_at (key r) earlier)) (nat_list_eq_equiv.symm (key r) (key x) ∙ differs (key x) earlier rows r apart.0) ∙ new_id earlier rows r apart.1

none_bad : (earlier rows : List Row) → are_next (last_of 0 earlier) rows ≡ true → AreApart (earlier ++ rows) → first_bad earlier rows ≡ None
none_bad earlier [] h apart = refl
none_bad earlier (r ∷ rows) h apart =
    let both = both_true _ _ h in
    ap (λ b. cond b (first_bad (earlier ++ r ∷ []) rows) (Some r.etag)) (next_sound earlier r both.0 (new_id earlier rows r apart))
    ∙ none_bad (earlier ++ r ∷ []) rows (ap (λ last. are_next last rows) (last_of-append 0 earlier (r ∷ [])) ∙ both.1) (subst AreApart (sym (append_assoc earlier (r ∷ []) rows)) apart)

pub all_sound : (rows : List Row) → are_next 0 rows ≡ true → AreApart rows → first_bad [] rows ≡ None
all_sound rows h apart = none_bad [] rows h apart
