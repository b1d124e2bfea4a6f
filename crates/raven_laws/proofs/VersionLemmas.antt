-- Rows of definitions of the first version open to the same slots as in the second.
use Rattle.std.proofs.Common.{◌≡◌, ℕ, pos, ◌+◌, List, [], ◌∷◌, ◌++◌, Bool, true, false, not, cond, ◌&&◌, ◌||◌, codes, nat_le, length, map, Option, Some, None, Result, Ok, Err, refl, ap, ◌∙◌}
use Rattle.std.specs.declared.cmp.Ordering.{Ordering}
use Rattle.std.specs.declared.cmp.Ordering.TheVariants.{Less, Equal, Greater}
use Rattle.std.specs.FinMap.{nat_cmp-IsAntisymmetric, slice_cmp-IsAntisymmetric}
use Rattle.std.specs.Ordering.{match_ordering}
use Rattle.std.specs.Str.{bytes_eq}
use Rattle.std.proofs.lemmas.Slice.Eq.{bytes_eq-Decides}
use Rattle.spec_data.specs.Data.{Data, num, object, Entries, no_entries, entry, entries_of, pairs_of}
use Rattle.spec_data.specs.Folding.{folded, key_cmp, same_key}
use Rattle.spec_data.specs.Members.{member}
use Rattle.spec_data.specs.Rising.{Pairs, put, without}
use Rattle.spec_data.specs.Rows.{Row, Body, doc, gone, is_document, key}
use Rattle.spec_data.proofs.MemberLemmas.{pairs_of-entries_of}
use Rattle.spec_store.specs.Commit.{Setting, stored_body}
use Rattle.spec_store.specs.Store.{row_at}
use Rattle.spec_store.proofs.StoreLemmas.{same_itself}
use Rattle.index_tree.specs.Definitions.{Definition, Static, Auto, AutoReduce}
use Rattle.spec_index.specs.World.{Slot, begins_with_replacement, first_body, index_id, replaced_name, row_body}
use Rattle.spec_server.specs.Opening.{ReadRow, and_then, body_form, dividing, first_form, form_by, is_defining, is_filed, is_live, may_be_named, name_in, or_bad, slot_of, slots_after, slots_from, with_slot, without_version}
use Rattle.raven_laws.specs.Versions.{upgraded, upgraded_body, upgraded_read, with_version}

-- WHAT THE BODY SAYS

pub entries-again : (ms : Entries) → entries_of (pairs_of ms) ≡ ms
entries-again no_entries = refl
entries-again (entry k d ms) = ap (entry k d) (entries-again ms)

-- a name that is put where it is not is found there, and may be taken out again
record IsPut (k : List ℕ) (v : Data) (ps : Pairs) : Type 0 where
  pub found : member k (entries_of (put k v ps)) ≡ Some v
  pub back : without k (put k v ps) ≡ ps

is-put : (k : List ℕ) (v : Data) (ps : Pairs) → member k (entries_of ps) ≡ None → IsPut k v ps
is-put k v [] none = record { found = ap (λ b. cond b (Some v) None) (same_itself k); back = ap (λ b. cond b [] ((k, v) ∷ [])) (same_itself k) }
is-put k v (m ∷ ps) none = by (is-put k v ps) (bytes_eq k m.0) refl none (key_cmp k m.0) refl
  where
    by : (member k (entries_of ps) ≡ None → IsPut k v ps) → (b : Bool) → bytes_eq k m.0 ≡ b → cond b (Some m.1) (member k (entries_of ps)) ≡ None
        → (o : Ordering) → key_cmp k m.0 ≡ o
        → IsPut k v (m ∷ ps)
    by rest true same none o e = absurd cc
    by rest false other none Less e = record {
      found = ap (λ r. member k (entries_of (match_ordering r ((k, v) ∷ m ∷ ps) ((k, v) ∷ ps) (m ∷ put k v ps)))) e ∙ ap (λ b. cond b (Some v) (member k (entries_of (m ∷ ps)))) (same_itself k);
      back = ap (λ r. without k (match_ordering r ((k, v) ∷ m ∷ ps) ((k, v) ∷ ps) (m ∷ put k v ps))) e ∙ ap (λ b. cond b (m ∷ ps) ((k, v) ∷ without k (m ∷ ps))) (same_itself k);
    }
    by rest false other none Equal e =
        absurd (let same : bytes_eq k m.0 ≡ true = (bytes_eq-Decides k m.0).1 (slice_cmp-IsAntisymmetric nat_cmp-IsAntisymmetric k m.0 e) in cc)
    by rest false other none Greater e = record {
      found =
          ap (λ r. member k (entries_of (match_ordering r ((k, v) ∷ m ∷ ps) ((k, v) ∷ ps) (m ∷ put k v ps)))) e
          ∙ ap (λ b. cond b (Some m.1) (member k (entries_of (put k v ps)))) other
          ∙ (rest none).found;
      back =
          ap (λ r. without k (match_ordering r ((k, v) ∷ m ∷ ps) ((k, v) ∷ ps) (m ∷ put k v ps))) e
          ∙ ap (λ b. cond b (put k v ps) (m ∷ without k (put k v ps))) other
          ∙ ap (λ l. m ∷ l) (rest none).back;
    }

-- with the member the body says what it said, and may divide
pub form-upgraded : (ms : Entries) → member (codes "Version") ms ≡ None → body_form (with_version (object ms)) ≡ dividing (first_form (object ms))
form-upgraded ms none = ap (λ o. form_by o (with_version (object ms))) second
  where
    it : IsPut (codes "Version") (num (pos 2)) (pairs_of ms)
    it = is-put (codes "Version") (num (pos 2)) (pairs_of ms) (ap (member (codes "Version")) (entries-again ms) ∙ none)

    second : without_version (entries_of (put (codes "Version") (num (pos 2)) (pairs_of ms))) (member (codes "Version") (entries_of (put (codes "Version") (num (pos 2)) (pairs_of ms)))) ≡ Some (object ms)
    second =
        ap (without_version (entries_of (put (codes "Version") (num (pos 2)) (pairs_of ms)))) (it.found)
        ∙ ap (λ l. Some (object (entries_of (without (codes "Version") l)))) (pairs_of-entries_of (put (codes "Version") (num (pos 2)) (pairs_of ms)))
        ∙ ap (λ l. Some (object (entries_of l))) it.back
        ∙ ap (λ l. Some (object l)) (entries-again ms)

-- the body of the second version is that of the first one with the member
pub with_version-first : (d : Definition) → with_version (stored_body (first_body d)) ≡ stored_body (row_body d)
with_version-first (Static map reduce map_text reduce_text) = refl
with_version-first (Auto collection fields) = refl
with_version-first (AutoReduce collection groups sums) = refl

-- SLOTS

abbrev is_doc : Body → Bool
is_doc x = elim x [ doc d ↦ true | gone ↦ false ]

doc-kept : (b : Bool) (x : Body) → is_doc (upgraded_body b x) ≡ is_doc x
doc-kept true (doc d) = refl
doc-kept true gone = refl
doc-kept false (doc d) = refl
doc-kept false gone = refl

document-kept : (r : Row) → is_document (upgraded r) ≡ is_document r
document-kept r = doc-kept (is_defining r) r.body

pub defining-kept : (r : Row) → is_defining (upgraded r) ≡ is_defining r
defining-kept r = ap (λ b. b && bytes_eq r.collection (codes "@indexes")) (document-kept r)

live-kept : (q : List ℕ) (rows : List Row) → is_live (row_at q (map upgraded rows)) ≡ is_live (row_at q rows)
live-kept q [] = refl
live-kept q (r ∷ rows) = elim (same_key q (key r)) as (λ b. is_live (cond b (Some (upgraded r)) (row_at q (map upgraded rows))) ≡ is_live (cond b (Some r) (row_at q rows))) [
  | true ↦ document-kept r
  | false ↦ live-kept q rows
]

with-kept : (all : List Row) (slots : List Slot) (r : Row) (d : Option Definition) → with_slot (map upgraded all) slots (upgraded r) d ≡ with_slot all slots r d
with-kept all slots r None = refl
with-kept all slots r (Some d) =
    ap (λ b. cond (may_be_named d (name_in r) && (not (begins_with_replacement (name_in r)) || b)) (Some (slots ++ slot_of r d ∷ [])) None)
    (live-kept (folded (index_id (replaced_name (name_in r)))) all)

after-kept : (s : Setting) (all : List Row) (count : ℕ) (slots : List Slot) (x : ReadRow) → slots_after s (map upgraded all) count slots (upgraded_read x) ≡ slots_after s all count slots x
after-kept s all count slots x =
    ap (λ b. cond ((nat_le s.max_rows count || (b && nat_le s.max_slots (length slots))) || not (is_filed x.row)) None
    (cond b (with_slot (map upgraded all) slots (upgraded x.row) x.definition) (Some slots))) (defining-kept x.row)
    ∙ ap (λ w. cond ((nat_le s.max_rows count || (is_defining x.row && nat_le s.max_slots (length slots))) || not (is_filed x.row)) None (cond (is_defining x.row) w (Some slots)))
    (with-kept all slots x.row x.definition)

pub slots-kept : (s : Setting) (all : List Row) (count : ℕ) (slots : List Slot) (xs : List ReadRow)
    → slots_from s (map upgraded all) count slots (map upgraded_read xs) ≡ slots_from s all count slots xs
slots-kept s all count slots [] = refl
slots-kept s all count slots (x ∷ xs) =
    ap (λ o. and_then (or_bad x.row.etag o) (λ more. slots_from s (map upgraded all) (count + 1) more (map upgraded_read xs))) (after-kept s all count slots x)
    ∙ by (λ more. slots-kept s all (count + 1) more xs) (or_bad x.row.etag (slots_after s all count slots x))
  where
    by : ((more : List Slot) → slots_from s (map upgraded all) (count + 1) more (map upgraded_read xs) ≡ slots_from s all (count + 1) more xs) → (r : Result (List Slot) ℕ)
        → and_then r (λ more. slots_from s (map upgraded all) (count + 1) more (map upgraded_read xs)) ≡ and_then r (λ more. slots_from s all (count + 1) more xs)
    by rest (Err etag) = refl
    by rest (Ok more) = rest more
