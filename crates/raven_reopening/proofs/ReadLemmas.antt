-- Valid rows are read back as they were stored.
use Rattle.std.proofs.Common.{◌≡◌, ℕ, ◌<◌, ◌≤◌, List, [], ◌∷◌, ◌++◌, Bool, true, false, cond, ◌&&◌, nat_lt, is_none, length, Some, None, option_map, Ok, refl, sym, ap, ◌∙◌, subst, arith, append_assoc, append-nil}
use Rattle.std.proofs.lemmas.Bool.{le-leb, lt-ltb}
use Rattle.std.proofs.lemmas.List.{length-append}
use Rattle.std.proofs.lemmas.Slice.Eq.{bytes_eq-Decides}
use Rattle.std.specs.Cmp.Lexicographic.{nat_list_eq_equiv}
use Rattle.std.specs.Str.{bytes_eq}
use Rattle.spec_data.specs.Data.{Data}
use Rattle.spec_data.specs.Faults.{is_fit, max_id}
use Rattle.spec_data.specs.Folding.{same_key}
use Rattle.spec_data.specs.Json.{reading}
use Rattle.spec_data.specs.Kept.{all_kept, body_text, kept}
use Rattle.spec_data.specs.Moments.{moments_end}
use Rattle.spec_data.specs.Rows.{Row, Body, doc, gone, key}
use Rattle.spec_data.specs.Written.{text_of}
use Rattle.spec_store.specs.Kept.{max_body, is_stored, document_of, document_in, body_in, is_etag, row_in, can_follow, row_if_it_follows, or_bad_row, rows_after, rows_in}
use Rattle.spec_store.specs.Store.{row_at, last_of, AreRising, AreApart, Store, IsStore}
use Rattle.spec_store.proofs.StoreLemmas.{AreRising-back}
use Rattle.raven_laws.proofs.OpenLemmas.{none_then}
use Rattle.raven_json.proofs.RoundTrip.{reading-text_of}
use Rattle.raven_reopening.specs.Form.{IsStorable, IsValidBody, IsValidRow, AreValidRows}

-- ONE ROW

-- the text of the document is read as the document
pub record IsReadBack (d : Data) : Type 0 where
  pub read : reading (text_of d) ≡ Ok d
  pub clean : is_stored d ≡ true
  pub small : length (text_of d) ≤ max_body

abbrev pub IsBodyBack : Body → Type 0
IsBodyBack (doc d) = IsReadBack d
IsBodyBack gone = Unit {0}

-- the row is read back as it was stored
pub record IsBack (r : Row) : Type 0 where
  pub etag : is_etag r.etag ≡ true
  pub id : is_fit max_id r.id ≡ true
  pub collection : 0 < length r.collection
  pub changed : r.changed < moments_end
  pub body : IsBodyBack r.body

pub document-back : (d : Data) → IsStorable d → IsReadBack d
document-back d f = record { read = reading-text_of d f.sound f.shallow; clean = f.clean; small = f.small }

body-back : (b : Body) → IsValidBody b → IsBodyBack b
body-back (doc d) f = document-back d f
body-back gone f = tt

pub form-back : (r : Row) → IsValidRow r → IsBack r
form-back r f = record { etag = f.etag; id = f.id; collection = f.collection; changed = f.changed; body = body-back r.body f.body }

document_in-text_of : (d : Data) → IsReadBack d → document_in (text_of d) ≡ Some d
document_in-text_of d f =
    ap (λ b. cond b (document_of (text_of d) (reading (text_of d))) None) (le-leb (length (text_of d)) max_body f.small)
    ∙ ap (document_of (text_of d)) f.read
    ∙ ap (λ b. cond (b && bytes_eq (text_of d) (text_of d)) (Some d) None) f.clean
    ∙ ap (λ b. cond b (Some d) None) ((bytes_eq-Decides (text_of d) (text_of d)).1 refl)

body_in-text : (b : Body) → IsBodyBack b → body_in (body_text b) ≡ Some b
body_in-text (doc d) f = ap (option_map doc) (document_in-text_of d f)
body_in-text gone f = refl

all_four : (a b c d : Bool) → a ≡ true → b ≡ true → c ≡ true → d ≡ true → a && b && c && d ≡ true
all_four a b c d e f g h = λ i. e i && f i && g i && h i

pub row_in-kept : (r : Row) → IsBack r → row_in (kept r) ≡ Some r
row_in-kept r f =
    let row : Body → Row = λ b. record { etag = r.etag; id = r.id; collection = r.collection; body = b; changed = r.changed } in
    let tests = all_four (is_etag r.etag) (is_fit max_id r.id) (nat_lt 0 (length r.collection)) (nat_lt r.changed moments_end) f.etag f.id (lt-ltb 0 (length r.collection) f.collection) (lt-ltb r.changed moments_end f.changed) in
    ap (λ b. cond b (option_map row (body_in (body_text r.body))) None) tests ∙ ap (option_map row) (body_in-text r.body f.body)

pub form-read : (r : Row) → IsValidRow r → row_in (kept r) ≡ Some r
form-read r f = row_in-kept r (form-back r f)

-- ALL ROWS

-- the id of a row that follows others is none of theirs
new_id : (earlier : List Row) (r : Row) (rows : List Row) → AreApart (earlier ++ r ∷ rows) → row_at (key r) earlier ≡ None
new_id [] r rows h = refl
new_id (x ∷ earlier) r rows h =
    ap (λ b. cond b (Some x) (row_at (key r) earlier)) (nat_list_eq_equiv.symm (key r) (key x) ∙ apart earlier h.0) ∙ new_id earlier r rows h.1
  where
    apart : (xs : List Row) → row_at (key x) (xs ++ r ∷ rows) ≡ None → same_key (key x) (key r) ≡ false
    apart [] none = (none_then (key x) r rows none).0
    apart (y ∷ xs) none = apart xs (none_then (key x) y (xs ++ r ∷ rows) none).1

abbrev pub AreBack : List Row → Type 0
AreBack [] = Unit {0}
AreBack (r ∷ rows) = IsBack r × AreBack rows

forms-back : (rows : List Row) → AreValidRows rows → AreBack rows
forms-back [] f = tt
forms-back (r ∷ rows) f = (form-back r f.0, forms-back rows f.1)

both : (a b c : Bool) → a ≡ true → b ≡ true → c ≡ true → a && b && c ≡ true
both a b c e f g = λ i. e i && f i && g i

rows_behind-kept : (max : ℕ) (earlier rows : List Row) → AreRising 0 (earlier ++ rows) → AreApart (earlier ++ rows) → AreBack rows → length (earlier ++ rows) ≤ max
    → rows_after max earlier (all_kept rows) ≡ Ok (earlier ++ rows)
rows_behind-kept max earlier [] up apart f few = ap Ok (sym (append-nil earlier))
rows_behind-kept max earlier (r ∷ rows) up apart f few =
    let past = (AreRising-back 0 earlier (r ∷ rows) up).0 in
    let none = ap is_none (new_id earlier r rows apart) in
    let room : length earlier < max = let l = length-append earlier (r ∷ rows) in omega arith in
    let may : can_follow max earlier r ≡ true =
    both (nat_lt (last_of 0 earlier) r.etag) (is_none (row_at (key r) earlier)) (nat_lt (length earlier) max) (lt-ltb (last_of 0 earlier) r.etag past) none (lt-ltb (length earlier) max room) in
    let next = append_assoc earlier (r ∷ []) rows in
    ap (λ o. or_bad_row r.etag (row_if_it_follows max earlier o) (λ x. rows_after max (earlier ++ x ∷ []) (all_kept rows))) (row_in-kept r f.0)
    ∙ ap (λ b. or_bad_row r.etag (cond b (Some r) None) (λ x. rows_after max (earlier ++ x ∷ []) (all_kept rows))) may
    ∙ rows_behind-kept max (earlier ++ r ∷ []) rows (subst (AreRising 0) (sym next) up) (subst AreApart (sym next) apart) f.1 (subst (λ xs. length xs ≤ max) (sym next) few)
    ∙ ap Ok next

pub rows_in-kept : (S : Store) (max : ℕ) → IsStore S → AreBack S.rows → length S.rows ≤ max → rows_in max (all_kept S.rows) ≡ Ok S.rows
rows_in-kept S max o f few = rows_behind-kept max [] S.rows o.rising o.apart f few

pub forms-read : (S : Store) (max : ℕ) → IsStore S → AreValidRows S.rows → length S.rows ≤ max → rows_in max (all_kept S.rows) ≡ Ok S.rows
forms-read S max o f few = rows_in-kept S max o (forms-back S.rows f) few
