-- Stored rows are read first, and their ids are compared then.
use Rattle.std.proofs.Common.{◌≡◌, ℕ, ◌-◌, List, [], ◌∷◌, ◌++◌, Bool, true, false, cond, not, ◌&&◌, is_none, is_some, nat_le, nat_lt, Option, Some, None, option_map, Result, Ok, Err, length, slice_get, append_assoc, append-nil, refl, sym, ap, ◌∙◌, subst, arith}
use Rattle.std.specs.Option.{option_or}
use Rattle.spec_data.specs.Faults.{is_fit, max_id}
use Rattle.spec_data.specs.Kept.{KeptRow}
use Rattle.spec_data.specs.Moments.{moments_end}
use Rattle.spec_data.specs.Rows.{Body, Row, key}
use Rattle.spec_store.specs.Kept.{body_in, can_follow, is_etag, max_etag, or_bad_row, row_if_it_follows, row_in, rows_after, rows_in}
use Rattle.spec_store.specs.Store.{last_of, row_at}
use Rattle.spec_store.proofs.StoreLemmas.{both_true}
use Rattle.doc_store.specs.Opening.{first_bad, is_sound_after}
use Rattle.doc_keeper.specs.Reading.{has_place, judged, or_stop, read_on, row_with_place, unless_bad}

-- ONE ROW

-- what a row that is read has
record IsRead (k : KeptRow) (r : Row) : Type 0 where
  pub etag : r.etag ≡ k.etag
  pub bound : nat_le r.etag max_etag ≡ true
  pub collection : nat_lt 0 (length r.collection) ≡ true
  pub changed : nat_lt r.changed moments_end ≡ true

abbrev row_with : KeptRow → Body → Row
row_with k body = record { etag = k.etag; id = k.id; collection = k.collection; body = body; changed = k.changed }

row_in-IsRead : (k : KeptRow) (r : Row) → row_in k ≡ Some r → IsRead k r
row_in-IsRead k r h = by (is_etag k.etag && is_fit max_id k.id && nat_lt 0 (length k.collection) && nat_lt k.changed moments_end) refl h
  where
    same : (a b : Row) → Some a ≡ Some b → a ≡ b
    same a b e = cc

    with : (o : Option Body) → is_etag k.etag && is_fit max_id k.id && nat_lt 0 (length k.collection) && nat_lt k.changed moments_end ≡ true → option_map (row_with k) o ≡ Some r → IsRead k r
    with None t e = absurd cc
    with (Some b) t e =
        let all = both_true (is_etag k.etag && is_fit max_id k.id && nat_lt 0 (length k.collection)) (nat_lt k.changed moments_end) t in
        let three = both_true (is_etag k.etag && is_fit max_id k.id) (nat_lt 0 (length k.collection)) all.0 in
        let two = both_true (is_etag k.etag) (is_fit max_id k.id) three.0 in
        subst (IsRead k) (same (row_with k b) r e) (record { etag = refl; bound = (both_true (nat_lt 0 k.etag) (nat_le k.etag max_etag) two.0).1; collection = three.1; changed = all.1 })

    by : (b : Bool) → is_etag k.etag && is_fit max_id k.id && nat_lt 0 (length k.collection) && nat_lt k.changed moments_end ≡ b
        → cond b (option_map (row_with k) (body_in k.body)) None ≡ Some r → IsRead k r
    by true t e = with (body_in k.body) t e
    by false t e = absurd cc

-- THE LAST ROW

last_in : (low : ℕ) (x r : Row) (rows : List Row) → slice_get (x ∷ rows) (length rows) ≡ Some r → last_of low (x ∷ rows) ≡ r.etag
last_in low x r [] h = let same : x ≡ r = cc in ap (λ (y : Row). y.etag) same
last_in low x r (y ∷ rows) h = last_in x.etag y r rows h

pub last_found : (rows : List Row) (r : Row) → slice_get rows (length rows - 1) ≡ Some r → last_of 0 rows ≡ r.etag
last_found [] r h = absurd cc
last_found (x ∷ rows) r h = last_in 0 x r rows (ap (slice_get (x ∷ rows)) (let e : length rows ≡ length (x ∷ rows) - 1 = omega arith in e) ∙ h)

-- WHETHER A ROW FOLLOWS

-- whether the id is new decides the rest

with_place : (a c n : Bool) → a && c ≡ true → a && n && c ≡ n
with_place true true true h = refl
with_place true true false h = refl
with_place true false n h = absurd cc
with_place false c n h = absurd cc

without_place : (a c n : Bool) → a && c ≡ false → a && n && c ≡ false
without_place true true n h = absurd cc
without_place true false true h = refl
without_place true false false h = refl
without_place false c n h = refl

follows_by_id : (max : ℕ) (earlier : List Row) (r : Row) → has_place max earlier r ≡ true → can_follow max earlier r ≡ is_none (row_at (key r) earlier)
follows_by_id max earlier r h = with_place (nat_lt (last_of 0 earlier) r.etag) (nat_lt (length earlier) max) (is_none (row_at (key r) earlier)) h

no_place : (max : ℕ) (earlier : List Row) (r : Row) → has_place max earlier r ≡ false → can_follow max earlier r ≡ false
no_place max earlier r h = without_place (nat_lt (last_of 0 earlier) r.etag) (nat_lt (length earlier) max) (is_none (row_at (key r) earlier)) h

new_is : (o : Option Row) → not (is_some o) ≡ is_none o
new_is None = refl
new_is (Some r) = refl

but_for : (a b n c d : Bool) → a ≡ true → b ≡ true → c ≡ true → d ≡ true → a && b && n && c && d ≡ n
but_for a b n c d p q s t = ap (λ x. x && b && n && c && d) p ∙ ap (λ x. true && x && n && c && d) q ∙ ap (λ x. true && true && n && x && d) s ∙ ap (λ x. true && true && n && true && x) t ∙ is n
  where
    is : (n : Bool) → true && true && n && true && true ≡ n
    is true = refl
    is false = refl

sound_by_id : (max : ℕ) (earlier : List Row) (k : KeptRow) (r : Row) → has_place max earlier r ≡ true → IsRead k r → is_sound_after earlier r ≡ is_none (row_at (key r) earlier)
sound_by_id max earlier k r h is =
    but_for (nat_lt (last_of 0 earlier) r.etag) (nat_le r.etag max_etag) (not (is_some (row_at (key r) earlier))) (nat_lt 0 (length r.collection)) (nat_lt r.changed moments_end)
    (both_true _ _ h).0 is.bound is.collection is.changed
    ∙ new_is (row_at (key r) earlier)

-- ALL ROWS

-- the rows that are read are earlier ones and new ones, and the first bad one is a new one or the one after them
record IsReading (max : ℕ) (earlier : List Row) (reading : List Row × Option ℕ) (rows : Result (List Row) ℕ) : Type 0 where
  pub new : List Row
  pub split : reading.0 ≡ earlier ++ new
  pub answer : rows ≡ unless_bad reading.0 (option_or (first_bad earlier new) reading.1)

nothing_more : (max : ℕ) (earlier : List Row) (bad : Option ℕ) → IsReading max earlier (earlier, bad) (unless_bad earlier bad)
nothing_more max earlier bad = record { new = []; split = sym (append-nil earlier); answer = refl }

one_more : (max : ℕ) (earlier : List Row) (k : KeptRow) (r : Row) (reading : List Row × Option ℕ) (more : Row → Result (List Row) ℕ) → has_place max earlier r ≡ true → IsRead k r → IsReading max (earlier ++ r ∷ []) reading (more r)
    → IsReading max earlier reading (or_bad_row k.etag (cond (can_follow max earlier r) (Some r) None) more)
one_more max earlier k r reading more place is h = record {
  new = r ∷ h.new;
  split = h.split ∙ append_assoc earlier (r ∷ []) h.new;
  answer =
      ap (λ b. or_bad_row k.etag (cond b (Some r) None) more) (follows_by_id max earlier r place)
      ∙ by (is_none (row_at (key r) earlier))
      ∙ sym (ap (λ b. unless_bad reading.0 (option_or (cond b (first_bad (earlier ++ r ∷ []) h.new) (Some r.etag)) reading.1)) (sound_by_id max earlier k r place is));
}
  where
    by : (b : Bool) → or_bad_row k.etag (cond b (Some r) None) more ≡ unless_bad reading.0 (option_or (cond b (first_bad (earlier ++ r ∷ []) h.new) (Some r.etag)) reading.1)
    by true = h.answer
    by false = ap Err (sym is.etag)

reading : (max : ℕ) (earlier : List Row) (ks : List KeptRow) → IsReading max earlier (read_on max earlier ks) (rows_after max earlier ks)
reading max earlier [] = nothing_more max earlier None
reading max earlier (k ∷ ks) =
    elim (row_in k) as (λ o. row_in k ≡ o → IsReading max earlier (or_stop earlier k.etag (row_with_place max earlier o) (λ r. read_on max (earlier ++ r ∷ []) ks)) (or_bad_row k.etag (row_if_it_follows max earlier o) (λ r. rows_after max (earlier ++ r ∷ []) ks))) [
      | None ↦ λ e. nothing_more max earlier (Some k.etag)
      | Some r ↦ λ e.
          elim (has_place max earlier r) as (λ b. has_place max earlier r ≡ b → IsReading max earlier (or_stop earlier k.etag (cond b (Some r) None) (λ r. read_on max (earlier ++ r ∷ []) ks)) (or_bad_row k.etag (cond (can_follow max earlier r) (Some r) None) (λ r. rows_after max (earlier ++ r ∷ []) ks))) [
            | true ↦ λ place. one_more max earlier k r (read_on max (earlier ++ r ∷ []) ks) (λ x. rows_after max (earlier ++ x ∷ []) ks) place (row_in-IsRead k r e) (reading max (earlier ++ r ∷ []) ks)
            | false ↦ λ place.
                subst (λ c. IsReading max earlier (earlier, Some k.etag) (or_bad_row k.etag (cond c (Some r) None) (λ r. rows_after max (earlier ++ r ∷ []) ks))) (sym (no_place max earlier r place))
                (nothing_more max earlier (Some k.etag))
          ] refl
    ] refl

-- the rows of what is stored are those that are read, unless one of them is bad, or the one after them
pub rows_in-judged : (max : ℕ) (ks : List KeptRow) → rows_in max ks ≡ judged (read_on max [] ks).0 (read_on max [] ks).1
rows_in-judged max ks =
    let h = reading max [] ks in
    h.answer ∙ ap (λ new. unless_bad (read_on max [] ks).0 (option_or (first_bad [] new) (read_on max [] ks).1)) (sym h.split)

-- a bad row among the first is that of all
bad_first : (earlier xs ys : List Row) (etag : ℕ) → first_bad earlier xs ≡ Some etag → first_bad earlier (xs ++ ys) ≡ Some etag
bad_first earlier [] ys etag h = absurd cc
bad_first earlier (r ∷ xs) ys etag h =
    elim (is_sound_after earlier r) as (λ b. cond b (first_bad (earlier ++ r ∷ []) xs) (Some r.etag) ≡ Some etag → cond b (first_bad (earlier ++ r ∷ []) (xs ++ ys)) (Some r.etag) ≡ Some etag) [
      | true ↦ λ e. bad_first (earlier ++ r ∷ []) xs ys etag e
      | false ↦ λ e. e
    ] h

bad_of : (rows : List Row) (o : Option ℕ) (etag : ℕ) → unless_bad rows (option_or o None) ≡ Err etag → o ≡ Some etag
bad_of rows None etag h = absurd cc
bad_of rows (Some e) etag h = cc

pub bad_read : (max : ℕ) (rows : List Row) (ks : List KeptRow) (etag : ℕ) → judged rows None ≡ Err etag → judged (read_on max rows ks).0 (read_on max rows ks).1 ≡ Err etag
bad_read max rows ks etag h =
    let r = reading max rows ks in
    ap (λ o. unless_bad (read_on max rows ks).0 (option_or o (read_on max rows ks).1)) (ap (first_bad []) r.split ∙ bad_first [] rows r.new etag (bad_of rows (first_bad [] rows) etag h))

-- rows of which none is bad stay
pub judged_same : (rows found : List Row) (bad : Option ℕ) → judged rows bad ≡ Ok found → rows ≡ found
judged_same rows found bad h = by (option_or (first_bad [] rows) bad) h
  where
    by : (o : Option ℕ) → unless_bad rows o ≡ Ok found → rows ≡ found
    by None e = cc
    by (Some etag) e = absurd cc
