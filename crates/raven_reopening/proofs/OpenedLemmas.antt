-- What stored rows open can be opened again.
use Rattle.std.proofs.Common.{◌≡◌, ◌⊎◌, ℕ, ◌+◌, ◌≤◌, List, [], ◌∷◌, ◌++◌, Bool, true, false, cond, ◌&&◌, nat_lt, nat_le, length, Option, Some, None, option_map, Result, Ok, Err, refl, sym, ap, ◌∙◌, subst, inl, inr}
use Rattle.std.proofs.lemmas.Bool.{leb-true, ltb-true}
use Rattle.std.proofs.lemmas.Slice.Eq.{bytes_eq-Decides}
use Rattle.std.specs.Str.{bytes_eq}
use Rattle.spec_data.specs.Data.{Data}
use Rattle.spec_data.specs.Faults.{is_fit, max_id}
use Rattle.spec_data.specs.Json.{JsonRefusal, reading}
use Rattle.spec_data.specs.Kept.{KeptRow}
use Rattle.spec_data.specs.Moments.{moments_end}
use Rattle.spec_data.specs.Rows.{Row, Body, doc, gone}
use Rattle.spec_data.specs.Sound.{IsSound}
use Rattle.spec_data.specs.Written.{text_of}
use Rattle.spec_store.specs.Store.{store_of}
use Rattle.spec_store.specs.Commit.{Setting, stored_body}
use Rattle.index_tree.specs.Definitions.{Definition, Static, Auto, AutoReduce}
use Rattle.spec_store.specs.Kept.{max_body, is_stored, document_of, body_in, is_etag, row_in, row_if_it_follows, or_bad_row, rows_after, rows_in}
use Rattle.spec_server.specs.Courses.{Machine}
use Rattle.spec_server.specs.Opening.{ReadRow, is_defining, is_filed, may_be_named, slot_of, with_slot, slots_after, or_bad, and_then, slots_from, opened, opened_with, rows_of}
use Rattle.spec_server.specs.Sound.{Has}
use Rattle.spec_index.specs.World.{Slot, is_automatic, row_body}
use Rattle.spec_store.proofs.StoreLemmas.{both_true, same_row}
use Rattle.raven_laws.proofs.OpenLemmas.{BodyRises, may_behind, rows_in-AreRowsOf, taken-of, toldin-is, with_slot-is}
use Rattle.raven_laws.proofs.SlotLemmas.{Has-append}
use Rattle.index_lang.specs.Openings.{AreReadRows, IsInBody, IsOpened, IsOpenedBy, IsReadIf, IsReadRow}
use Rattle.raven_reopening.proofs.ReadLemmas.{IsReadBack, IsBodyBack, IsBack}
use Rattle.raven_reopening.proofs.RightLemmas.{IsRight}
use Rattle.raven_reopening.proofs.VersionLemmas.{fine-written, read-written}
use Rattle.raven_reading.proofs.TextLemmas.{body-told}
use Rattle.raven_reading.specs.Requests.{IsRequestBody}
use Rattle.raven_reopening.proofs.BodyLemmas.{static-stored, stored-kept}
use Rattle.raven_reopening.proofs.AgainLemmas.{Again}

-- ROWS

same_document : (a b : Data) → Some a ≡ Some b → a ≡ b
same_document a b h = cc

same_body : (a b : Body) → Some a ≡ Some b → a ≡ b
same_body a b h = cc

document-read : (words : List ℕ) (r : Result Data JsonRefusal) (d : Data) → reading words ≡ r → length words ≤ max_body → document_of words r ≡ Some d → IsReadBack d
document-read words (Err refusal) d e small h = absurd cc
document-read words (Ok v) d e small h =
    elim (is_stored v && bytes_eq (text_of v) words) as (λ b. is_stored v && bytes_eq (text_of v) words ≡ b → cond b (Some v) None ≡ Some d → IsReadBack d) [
      | true ↦ λ t g.
          let f = both_true (is_stored v) (bytes_eq (text_of v) words) t in
          let same = (bytes_eq-Decides (text_of v) words).0 f.1 in
          subst IsReadBack (same_document v d g) (record { read = ap reading same ∙ e; clean = f.0; small = subst (λ x. length x ≤ max_body) (sym same) small })
      | false ↦ λ t g. absurd cc
    ] refl h

body-read : (words : Option (List ℕ)) (b : Body) → body_in words ≡ Some b → IsBodyBack b
body-read None b h = subst IsBodyBack (same_body gone b h) tt
body-read (Some words) b h =
    elim (nat_le (length words) max_body) as (λ t. nat_le (length words) max_body ≡ t → option_map doc (cond t (document_of words (reading words)) None) ≡ Some b → IsBodyBack b) [
      | true ↦ λ e g. elim (document_of words (reading words)) as (λ o. document_of words (reading words) ≡ o → option_map doc o ≡ Some b → IsBodyBack b) [
        | None ↦ λ f k. absurd cc
        | Some d ↦ λ f k. subst IsBodyBack (same_body (doc d) b k) (document-read words (reading words) d refl (leb-true (length words) max_body e) f)
      ] refl g
      | false ↦ λ e g. absurd cc
    ] refl h

abbrev row_with : KeptRow → Body → Row
row_with k body = record { etag = k.etag; id = k.id; collection = k.collection; body = body; changed = k.changed }

row-read : (k : KeptRow) (r : Row) → row_in k ≡ Some r → IsBack r
row-read k r h = by (is_etag k.etag && is_fit max_id k.id && nat_lt 0 (length k.collection) && nat_lt k.changed moments_end) refl h
  where
    with : is_etag k.etag && is_fit max_id k.id && nat_lt 0 (length k.collection) && nat_lt k.changed moments_end ≡ true → (o : Option Body) → body_in k.body ≡ o → option_map (row_with k) o ≡ Some r → IsBack r
    with t None e g = absurd cc
    with t (Some b) e g =
        let c = both_true (is_etag k.etag && is_fit max_id k.id && nat_lt 0 (length k.collection)) (nat_lt k.changed moments_end) t in
        let d = both_true (is_etag k.etag && is_fit max_id k.id) (nat_lt 0 (length k.collection)) c.0 in
        let f = both_true (is_etag k.etag) (is_fit max_id k.id) d.0 in
        subst IsBack (same_row (row_with k b) r g) (record {
          etag = f.0;
          id = f.1;
          collection = ltb-true 0 (length k.collection) d.1;
          changed = ltb-true k.changed moments_end c.1;
          body = body-read k.body b e;
        })

    by : (b : Bool) → is_etag k.etag && is_fit max_id k.id && nat_lt 0 (length k.collection) && nat_lt k.changed moments_end ≡ b → cond b (option_map (row_with k) (body_in k.body)) None ≡ Some r → IsBack r
    by true t g = with t (body_in k.body) refl g
    by false t g = absurd cc

abbrev AllBack : List Row → Type 0
AllBack rows = (r : Row) → Has rows r → IsBack r

same_rows : (a b : List Row) → (let r : Result (List Row) ℕ = Ok a in r) ≡ Ok b → a ≡ b
same_rows a b h = cc

rows-read : (max : ℕ) (earlier : List Row) (ks : List KeptRow) (rows : List Row) → AllBack earlier → rows_after max earlier ks ≡ Ok rows → AllBack rows
rows-read max earlier [] rows all h = subst AllBack (same_rows earlier rows h) all
rows-read max earlier (k ∷ ks) rows all h =
    elim (row_if_it_follows max earlier (row_in k)) as (λ o. row_if_it_follows max earlier (row_in k) ≡ o → or_bad_row k.etag o (λ r. rows_after max (earlier ++ r ∷ []) ks) ≡ Ok rows → AllBack rows) [
      | None ↦ λ e g. absurd cc
      | Some r ↦ λ e g.
          let one = row-read k r (may_behind max earlier (row_in k) r e).0 in
          rows-read max (earlier ++ r ∷ []) ks rows (λ x at. elim (Has-append earlier (r ∷ []) x at) [
            | inl old ↦ all x old
            | inr (inl same) ↦ subst IsBack same one
            | inr (inr no_more) ↦ absurd no_more
          ]) g
    ] refl h

pub rows-back : (max : ℕ) (held : List KeptRow) (rows : List Row) → rows_in max held ≡ Ok rows → (r : Row) → Has rows r → IsBack r
rows-back max held rows e = rows-read max [] held rows (λ r at. absurd at) e

-- THE SLOTS OF ROWS

-- the slot is that of a row whose definition was read of it
record IsReadFrom (rows : List Row) (y : Slot) : Type 0 where
  pub from : Row
  pub there : Has rows from
  pub defining : is_defining from ≡ true
  pub read : IsInBody from.body (Some y.version.definition)
  pub named : may_be_named y.version.definition y.name ≡ true

further : (r : Row) (rows : List Row) (y : Slot) → IsReadFrom rows y → IsReadFrom (r ∷ rows) y
further r rows y f = record { from = f.from; there = inr f.there; defining = f.defining; read = f.read; named = f.named }

-- what was taken so far, and the rest
record AreShown (slots : List Slot) (rows : List Row) (all : List Slot) : Type 0 where
  pub filed : (r : Row) → Has rows r → is_filed r ≡ true
  pub each : (y : Slot) → Has all y → Has slots y ⊎ IsReadFrom rows y

same_slots : (a b : List Slot) → Some a ≡ Some b → a ≡ b
same_slots a b h = cc

one-shown : (s : Setting) (rows : List Row) (n : ℕ) (slots : List Slot) (x : ReadRow) (more : List Slot) → IsReadRow x → slots_after s rows n slots x ≡ Some more → AreShown slots (x.row ∷ []) more
one-shown s rows n slots x more right h =
    let t = taken-of s rows n slots x more h in
    let filed : (r : Row) → Has (x.row ∷ []) r → is_filed r ≡ true = λ r at. elim at [ inl same ↦ subst (λ y. is_filed y ≡ true) same t.filed | inr no_more ↦ absurd no_more ] in
    elim (is_defining x.row) as (λ b. is_defining x.row ≡ b → cond b (with_slot rows slots x.row x.definition) (Some slots) ≡ Some more → AreShown slots (x.row ∷ []) more) [
      | true ↦ λ e g.
          let w = with_slot-is rows slots x.row x.definition more g in
          let read = subst (IsInBody x.row.body) w.read (subst (λ b. IsReadIf b x.row x.definition) e right) in
          let new : IsReadFrom (x.row ∷ []) (slot_of x.row w.definition) = record { from = x.row; there = inl refl; defining = e; read = read; named = w.may } in
          record {
            filed = filed;
            each = λ y at. elim (Has-append slots (slot_of x.row w.definition ∷ []) y (subst (λ xs. Has xs y) (sym w.brought) at)) [
              | inl old ↦ inl old
              | inr (inl same) ↦ inr (subst (IsReadFrom (x.row ∷ [])) same new)
              | inr (inr no_more) ↦ absurd no_more
            ];
          }
      | false ↦ λ e g. record { filed = filed; each = λ y at. inl (subst (λ xs. Has xs y) (sym (same_slots slots more g)) at) }
    ] refl t.rest

same_all : (a b : List Slot) → (let r : Result (List Slot) ℕ = Ok a in r) ≡ Ok b → a ≡ b
same_all a b h = cc

all-shown : (s : Setting) (rows : List Row) (n : ℕ) (slots : List Slot) (xs : List ReadRow) (all : List Slot) → AreReadRows xs → slots_from s rows n slots xs ≡ Ok all → AreShown slots (rows_of xs) all
all-shown s rows n slots [] all right h = record { filed = λ r at. absurd at; each = λ y at. inl (subst (λ ys. Has ys y) (sym (same_all slots all h)) at) }
all-shown s rows n slots (x ∷ xs) all right h =
    elim (slots_after s rows n slots x) as (λ o. slots_after s rows n slots x ≡ o → and_then (or_bad x.row.etag o) (λ more. slots_from s rows (n + 1) more xs) ≡ Ok all → AreShown slots (x.row ∷ rows_of xs) all) [
      | None ↦ λ e g. absurd cc
      | Some more ↦ λ e g.
          let one = one-shown s rows n slots x more right.0 e in
          let rest = all-shown s rows (n + 1) more xs all right.1 g in
          record {
            filed = λ r at. elim at [ inl same ↦ one.filed r (inl same) | inr old ↦ rest.filed r old ];
            each = λ y at. elim (rest.each y at) [
              | inl before ↦ elim (one.each y before) [
                | inl old ↦ inl old
                | inr new ↦ inr (record { from = new.from; there = first new.from new.there; defining = new.defining; read = new.read; named = new.named })
              ]
              | inr later ↦ inr (further x.row (rows_of xs) y later)
            ];
          }
    ] refl h
  where
    first : (r : Row) → Has (x.row ∷ []) r → Has (x.row ∷ rows_of xs) r
    first r (inl same) = inl same
    first r (inr no_more) = absurd no_more

-- the body of a definition by texts that is stored and read back
body-sound : (d : Definition) → IsSound (stored_body (row_body d)) → is_automatic d ≡ false → IsRequestBody (row_body d)
body-sound (Static query reduce words reduce_words) f is = static-stored query reduce words reduce_words f
body-sound (Auto collection fields) f is = absurd cc
body-sound (AutoReduce collection groups sums) f is = absurd cc

-- such a slot is right
from-right : (rows : List Row) (y : Slot) → ((r : Row) → Has rows r → BodyRises r.body) → ((r : Row) → Has rows r → IsBack r) → IsReadFrom rows y → IsRight y
from-right rows y rises back f =
    let d = y.version.definition in
    let its = toldin-is f.from.body d (rises f.from f.there) (body-told f.from.body d f.read) in
    let sound = (fine-written d f.from.body its (back f.from f.there).body).0 in
    let read = read-written d f.from.body its f.read in
    record { body = body-sound d sound; read = read; named = f.named; kept = stored-kept d sound read }

pub same_opened : (a b : Machine) → (let r : Result Machine ℕ = Ok a in r) ≡ Ok b → a ≡ b
same_opened a b h = cc

abbrev pub machine_of : Setting → List Row → List Slot → Machine
machine_of s rows slots = record { world = record { setting = s; store = store_of rows; slots = slots; notes = [] }; held = [] }

opened-slots : (s : Setting) (held : List KeptRow) (M : Machine) (xs : List ReadRow) → rows_in s.max_rows held ≡ Ok (rows_of xs) → AreReadRows xs
    → (r : Result (List Slot) ℕ) → slots_from s (rows_of xs) 0 [] xs ≡ r → opened_with s (rows_of xs) r ≡ Ok M → Again M.world
opened-slots s held M xs e right (Err etag) k g = absurd cc
opened-slots s held M xs e right (Ok slots) k g =
    let rows = rows_of xs in
    let back = rows-back s.max_rows held rows e in
    let stand = (rows_in-AreRowsOf s.max_rows held rows e).stand in
    let f = all-shown s (rows_of xs) 0 [] xs slots right k in
    subst (λ (N : Machine). Again N.world) (same_opened (machine_of s rows slots) M g) (record {
      all = λ r at. record { back = back r at; filed = f.filed r at };
      slots = λ y at. elim (f.each y at) [ inl none ↦ absurd none | inr from ↦ from-right rows y stand.rises back from ];
    })

opened-by : (s : Setting) (held : List KeptRow) (M : Machine) (r : Result (List Row) ℕ) → rows_in s.max_rows held ≡ r → IsOpenedBy s r (Ok M) → Again M.world
opened-by s held M (Err etag) e x = absurd cc
opened-by s held M (Ok rows) e x = opened-slots s held M x.read (e ∙ ap Ok (sym x.rows)) x.right (slots_from s (rows_of x.read) 0 [] x.read) refl (ap (λ all. opened s all x.read) x.rows ∙ x.opened)

pub opened-Again : (s : Setting) (held : List KeptRow) (M : Machine) → IsOpened s held (Ok M) → Again M.world
opened-Again s held M x = opened-by s held M (rows_in s.max_rows held) refl x
