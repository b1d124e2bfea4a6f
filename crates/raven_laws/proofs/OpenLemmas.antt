-- What stored rows open is a sound world.
use Rattle.std.proofs.Common.{◌≡◌, ℕ, zero, suc, ◌+◌, ◌<◌, ◌≤◌, List, [], ◌∷◌, ◌++◌, Bool, true, false, cond, not, ◌&&◌, ◌||◌, ◌==◌, nat_eq, nat_lt, nat_le, is_none, length, take, drop, codes, map, Option, Some, None, option_map, Result, Ok, Err, refl, sym, ap, ◌∙◌, subst, arith, inl, inr, append_assoc, append-nil, pos, negsuc}
use Rattle.std.proofs.lemmas.Bool.{ltb-true, leb-true, leb-false, eqb-true}
use Rattle.std.proofs.lemmas.List.{length-append, take-append-drop}
use Rattle.std.proofs.lemmas.Slice.Eq.{bytes_eq-Decides}
use Rattle.std.specs.Cmp.Lexicographic.{nat_list_eq_equiv}
use Rattle.std.specs.declared.cmp.Ordering.TheVariants.{Less}
use Rattle.std.specs.Ordering.{match_ordering, ordering_reverse}
use Rattle.std.proofs.lemmas.Cmp.{nat_list_cmp_total}
use Rattle.std.specs.Option.{option_or}
use Rattle.std.specs.List.{list_any, starts_with}
use Rattle.std.specs.Str.{bytes_eq}
use Rattle.spec_data.specs.Data.{Data, null, flag, num, text, array, object, Items, Entries, no_items, item, items_of, no_entries, entry, entries_of, pairs_of}
use Rattle.spec_data.specs.Faults.{is_fit, max_id, replacement_of}
use Rattle.spec_data.specs.Folding.{folded, key_cmp, same_key}
use Rattle.spec_data.specs.Json.{JsonRefusal, reading}
use Rattle.spec_data.specs.Kept.{KeptRow, all_kept, body_text, kept}
use Rattle.spec_data.specs.Members.{Path, member}
use Rattle.spec_data.specs.Moments.{moments_end}
use Rattle.spec_data.specs.Rising.{Pairs, IsBelowAll, IsRising, put, without}
use Rattle.spec_data.proofs.MemberLemmas.{pairs_of-entries_of}
use Rattle.spec_data.specs.Rows.{Row, Body, doc, gone, key, is_document}
use Rattle.spec_data.specs.Written.{text_of}
use Rattle.spec_store.specs.Store.{row_at, last_of, AreRising, AreApart, IsStore, store_of}
use Rattle.index_tree.specs.Definitions.{Definition, Auto, AutoReduce, Texts}
use Rattle.index_tree.specs.Mapper.{count_name, sum_name}
use Rattle.spec_index.specs.Reduces.{has_quotient, is_quotient, key_member, sum_member}
use Rattle.spec_store.specs.Commit.{Setting, is_index_id, stored_body}
use Rattle.spec_index.specs.World.{Slot, new_version, index_id, first_body, row_body, path_list, text_list, text_or_null, is_automatic, is_reserved_name, begins_with_auto, begins_with_replacement}
use Rattle.spec_server.specs.Courses.{Machine}
use Rattle.spec_server.specs.Opening.{OpenedFrom, and_then_some, words_of, is_path, path_of, paths_of, are_rising, paths_read, is_empty_object, is_kind, text_in, auto_read, reduce_read, texts_read, form_of, form_by, first_form, dividing, is_two, without_version, reduce_form, body_form, BodyForm, NoForm, AutoForm, StaticForm, ReadRow, is_defining, name_in, may_be_named, is_filed, is_too_many, is_live, is_beside, slot_of, with_slot, slots_with, slots_after, or_bad, and_then, slots_from, opened_with, rows_of}
use Rattle.spec_store.specs.Kept.{max_body, max_etag, is_stored, document_of, document_in, body_in, is_etag, row_in, can_follow, row_if_it_follows, or_bad_row, rows_after, rows_in}
use Rattle.spec_server.specs.Sound as sound
use Rattle.spec_server.specs.Sound.{Has, Fits, NumbersRise, NamesApart, HaveTheirSlots, AreListed, IsMachine, Sound}
use Rattle.raven_laws.specs.Versions.{with_version}
use Rattle.raven_laws.specs.Opened.{AgreesWithForm, AgreesWithBody, HasOwnDefinition, HaveOwnDefinitions, OpenedFaithfully}
use Rattle.spec_store.proofs.StoreLemmas.{IsStore-of, same_row, both_true, either_false, same_itself, same_means, found_key, row_at-append, last_of-append}
use Rattle.raven_laws.proofs.KindLemmas.{named-given, named-kind}
use Rattle.raven_laws.proofs.ListedLemmas.{index_apart}
use Rattle.raven_laws.proofs.WorldLemmas.{reserved-other}
use Rattle.raven_laws.proofs.VersionLemmas.{entries-again, with_version-first}
use Rattle.raven_laws.proofs.SlotLemmas.{Has-append, Has-left, Has-right, find-Has, NumbersRise-push, Fits-fresh, same_slot}
use Rattle.raven_laws.proofs.MemberLemmas.{Rises, read_rises, they_are}

-- ONE ROW

same_document : (a b : Data) → Some a ≡ Some b → a ≡ b
same_document a b h = cc

same_body : (a b : Body) → Some a ≡ Some b → a ≡ b
same_body a b h = cc

-- the document is written as that text, and its members rise
record IsOf (words : List ℕ) (d : Data) : Type 0 where
  pub written : text_of d ≡ words
  pub rises : Rises d

document_of-IsOf : (words : List ℕ) (r : Result Data JsonRefusal) (d : Data) → reading words ≡ r → document_of words r ≡ Some d → IsOf words d
document_of-IsOf words (Err refusal) d e h = absurd cc
document_of-IsOf words (Ok v) d e h =
    elim (is_stored v && bytes_eq (text_of v) words) as (λ b. is_stored v && bytes_eq (text_of v) words ≡ b → cond b (Some v) None ≡ Some d → IsOf words d) [
      | true ↦ λ t g. subst (IsOf words) (same_document v d g) (record {
        written = (bytes_eq-Decides (text_of v) words).0 (both_true (is_stored v) (bytes_eq (text_of v) words) t).1;
        rises = read_rises words v e;
      })
      | false ↦ λ t g. absurd cc
    ] refl h

document_in-IsOf : (words : List ℕ) (d : Data) → document_in words ≡ Some d → IsOf words d
document_in-IsOf words d h = elim (nat_le (length words) max_body) as (λ b. cond b (document_of words (reading words)) None ≡ Some d → IsOf words d) [
  | true ↦ λ g. document_of-IsOf words (reading words) d refl g
  | false ↦ λ g. absurd cc
] h

abbrev pub BodyRises : Body → Type 0
BodyRises (doc d) = Rises d
BodyRises gone = Unit {0}

record IsBodyOf (words : Option (List ℕ)) (b : Body) : Type 0 where
  pub written : body_text b ≡ words
  pub rises : BodyRises b

body_in-IsBodyOf : (words : Option (List ℕ)) (b : Body) → body_in words ≡ Some b → IsBodyOf words b
body_in-IsBodyOf None b h = subst (IsBodyOf None) (same_body gone b h) (record { written = refl; rises = tt })
body_in-IsBodyOf (Some words) b h = elim (document_in words) as (λ o. document_in words ≡ o → option_map doc o ≡ Some b → IsBodyOf (Some words) b) [
  | None ↦ λ e g. absurd cc
  | Some d ↦ λ e g.
      let f = document_in-IsOf words d e in
      subst (IsBodyOf (Some words)) (same_body (doc d) b g) (record { written = ap Some f.written; rises = f.rises })
] refl h

-- the row that a stored row is read as
pub record IsRowOf (k : KeptRow) (r : Row) : Type 0 where
  pub kept : kept r ≡ k
  pub rises : BodyRises r.body
  pub etag : r.etag ≤ 9007199254740991

abbrev row_with : KeptRow → Body → Row
row_with k body = record { etag = k.etag; id = k.id; collection = k.collection; body = body; changed = k.changed }

row_with-IsRowOf : (k : KeptRow) (b : Body) → is_etag k.etag ≡ true → body_in k.body ≡ Some b → IsRowOf k (row_with k b)
row_with-IsRowOf k b e h =
    let f = body_in-IsBodyOf k.body b h in
    record {
      kept = ap (λ (words : Option (List ℕ)). (let x : KeptRow = record { etag = k.etag; id = k.id; collection = k.collection; body = words; changed = k.changed } in x)) f.written;
      rises = f.rises;
      etag = leb-true k.etag 9007199254740991 (both_true (nat_lt 0 k.etag) (nat_le k.etag max_etag) e).1;
    }

pub row_in-IsRowOf : (k : KeptRow) (r : Row) → row_in k ≡ Some r → IsRowOf k r
row_in-IsRowOf k r h = by (is_etag k.etag && is_fit max_id k.id && nat_lt 0 (length k.collection) && nat_lt k.changed moments_end) refl h
  where
    with : is_etag k.etag ≡ true → (o : Option Body) → body_in k.body ≡ o → option_map (row_with k) o ≡ Some r → IsRowOf k r
    with t None e g = absurd cc
    with t (Some b) e g = subst (IsRowOf k) (same_row (row_with k b) r g) (row_with-IsRowOf k b t e)

    by : (b : Bool) → is_etag k.etag && is_fit max_id k.id && nat_lt 0 (length k.collection) && nat_lt k.changed moments_end ≡ b
        → cond b (option_map (row_with k) (body_in k.body)) None ≡ Some r → IsRowOf k r
    by true t g = with (both_true (is_etag k.etag) (is_fit max_id k.id) (both_true (is_etag k.etag && is_fit max_id k.id) (nat_lt 0 (length k.collection)) (both_true (is_etag k.etag && is_fit max_id k.id && nat_lt 0 (length k.collection)) (nat_lt k.changed moments_end) t).0).0).0 (body_in k.body) refl g
    by false t g = absurd cc

-- ROWS, ONE AFTER ANOTHER

pub AreRising-push : (low : ℕ) (rows : List Row) (r : Row) → AreRising low rows → last_of low rows < r.etag → AreRising low (rows ++ r ∷ [])
AreRising-push low [] r up h = (h, tt)
AreRising-push low (x ∷ rows) r up h = (up.0, AreRising-push x.etag rows r up.1 h)

pub none_then : (q : List ℕ) (x : Row) (rows : List Row) → row_at q (x ∷ rows) ≡ None → (same_key q (key x) ≡ false) × (row_at q rows ≡ None)
none_then q x rows h = elim (same_key q (key x)) as (λ b. cond b (Some x) (row_at q rows) ≡ None → (b ≡ false) × (row_at q rows ≡ None)) [
  | true ↦ λ g. absurd cc
  | false ↦ λ g. (refl, g)
] h

none_pushed : (q : List ℕ) (rows : List Row) (r : Row) → row_at q rows ≡ None → same_key q (key r) ≡ false → row_at q (rows ++ r ∷ []) ≡ None
none_pushed q rows r none other =
    row_at-append q rows (r ∷ []) ∙ ap (λ o. option_or o (row_at q (r ∷ []))) none ∙ ap (λ b. cond b (Some r) None) other

pub AreApart-push : (rows : List Row) (r : Row) → AreApart rows → row_at (key r) rows ≡ None → AreApart (rows ++ r ∷ [])
AreApart-push [] r apart none = (refl, tt)
AreApart-push (x ∷ rows) r apart none =
    let f = none_then (key r) x rows none in
    (none_pushed (key x) rows r apart.0 (nat_list_eq_equiv.symm (key x) (key r) ∙ f.0), AreApart-push rows r apart.1 f.1)

-- the rows so far may be those of a store
pub record Stand (max : ℕ) (rows : List Row) : Type 0 where
  pub rising : AreRising 0 rows
  pub apart : AreApart rows
  pub count : length rows ≤ max
  pub etags : last_of 0 rows ≤ 9007199254740991
  pub rises : (r : Row) → Has rows r → BodyRises r.body

is-none : (o : Option Row) → is_none o ≡ true → o ≡ None
is-none None h = refl
is-none (Some r) h = absurd cc

last_of-push : (low : ℕ) (rows : List Row) (r : Row) → last_of low (rows ++ r ∷ []) ≡ r.etag
last_of-push low rows r = last_of-append low rows (r ∷ [])

Stand-push : (max : ℕ) (rows : List Row) (k : KeptRow) (r : Row) → Stand max rows → IsRowOf k r → can_follow max rows r ≡ true → Stand max (rows ++ r ∷ [])
Stand-push max rows k r s is may =
    let a = both_true (nat_lt (last_of 0 rows) r.etag && is_none (row_at (key r) rows)) (nat_lt (length rows) max) may in
    let b = both_true (nat_lt (last_of 0 rows) r.etag) (is_none (row_at (key r) rows)) a.0 in
    record {
      rising = AreRising-push 0 rows r s.rising (ltb-true (last_of 0 rows) r.etag b.0);
      apart = AreApart-push rows r s.apart (is-none (row_at (key r) rows) b.1);
      count = let l = length-append rows (r ∷ []) in let f = ltb-true (length rows) max a.1 in omega arith;
      etags = let l = last_of-push 0 rows r in let f = is.etag in omega arith;
      rises = λ x h. elim (Has-append rows (r ∷ []) x h) [
        | inl old ↦ s.rises x old
        | inr (inl e) ↦ subst (λ (y : Row). BodyRises y.body) e is.rises
        | inr (inr no_more) ↦ absurd no_more
      ];
    }

-- the rows that stored rows are read as
pub record AreRowsOf (max : ℕ) (held : List KeptRow) (rows : List Row) : Type 0 where
  pub kept : all_kept rows ≡ held
  pub stand : Stand max rows

all_kept-push : (rows : List Row) (r : Row) → all_kept (rows ++ r ∷ []) ≡ all_kept rows ++ kept r ∷ []
all_kept-push [] r = refl
all_kept-push (x ∷ rows) r = ap (λ ks. kept x ∷ ks) (all_kept-push rows r)

pub may_behind : (max : ℕ) (earlier : List Row) (o : Option Row) (r : Row) → row_if_it_follows max earlier o ≡ Some r → (o ≡ Some r) × (can_follow max earlier r ≡ true)
may_behind max earlier None r h = absurd cc
may_behind max earlier (Some x) r h = elim (can_follow max earlier x) as (λ b. can_follow max earlier x ≡ b → cond b (Some x) None ≡ Some r → (Some x ≡ Some r) × (can_follow max earlier r ≡ true)) [
  | true ↦ λ e g. (g, subst (λ y. can_follow max earlier y ≡ true) (same_row x r g) e)
  | false ↦ λ e g. absurd cc
] refl h

same_rows : (a b : List Row) → (let r : Result (List Row) ℕ = Ok a in r) ≡ Ok b → a ≡ b
same_rows a b h = cc

rows_behind-Stand : (max : ℕ) (earlier : List Row) (ks : List KeptRow) (rows : List Row) → Stand max earlier → rows_after max earlier ks ≡ Ok rows
    → (all_kept rows ≡ all_kept earlier ++ ks) × Stand max rows
rows_behind-Stand max earlier [] rows s h =
    let same = same_rows earlier rows h in (ap all_kept (sym same) ∙ sym (append-nil (all_kept earlier)), subst (Stand max) same s)
rows_behind-Stand max earlier (k ∷ ks) rows s h =
    elim (row_if_it_follows max earlier (row_in k)) as (λ o. row_if_it_follows max earlier (row_in k) ≡ o → or_bad_row k.etag o (λ r. rows_after max (earlier ++ r ∷ []) ks) ≡ Ok rows
    → (all_kept rows ≡ all_kept earlier ++ k ∷ ks) × Stand max rows) [
      | None ↦ λ e g. absurd cc
      | Some r ↦ λ e g.
          let f = may_behind max earlier (row_in k) r e in
          let is = row_in-IsRowOf k r f.0 in
          let rest = rows_behind-Stand max (earlier ++ r ∷ []) ks rows (Stand-push max earlier k r s is f.1) g in (
            rest.0 ∙ ap (λ xs. xs ++ ks) (all_kept-push earlier r) ∙ append_assoc (all_kept earlier) (kept r ∷ []) ks ∙ ap (λ x. all_kept earlier ++ x ∷ ks) is.kept,
            rest.1,
          )
    ] refl h

pub rows_in-AreRowsOf : (max : ℕ) (held : List KeptRow) (rows : List Row) → rows_in max held ≡ Ok rows → AreRowsOf max held rows
rows_in-AreRowsOf max held rows h =
    let f = rows_behind-Stand max [] held rows (record { rising = tt; apart = tt; count = omega arith; etags = omega arith; rises = λ r at. absurd at }) h in
    record { kept = f.0; stand = f.1 }

-- THE BODY OF A DEFINITION

same_definition : (a b : Definition) → Some a ≡ Some b → a ≡ b
same_definition a b h = cc

-- what was taken apart
after-some : {A B : Type 0} (o : Option A) (more : A → Option B) (b : B) → and_then_some o more ≡ Some b → (a : A) × (o ≡ Some a) × (more a ≡ Some b)
after-some None more b h = absurd cc
after-some (Some a) more b h = (a, refl, h)

mapped-some : {A B : Type 0} (f : A → B) (o : Option A) (b : B) → option_map f o ≡ Some b → (a : A) × (o ≡ Some a) × (f a ≡ b)
mapped-some f None b h = absurd cc
mapped-some f (Some a) b h = (a, refl, let same : f a ≡ b = cc in same)

if-some : {A : Type 0} (t : Bool) (a b : A) → cond t (Some a) None ≡ Some b → a ≡ b
if-some true a b h = cc
if-some false a b h = absurd cc

words_of-is : (ds : Items) (ts : List (List ℕ)) → words_of ds ≡ Some ts → ds ≡ items_of (map text ts)
words_of-is no_items [] h = refl
words_of-is no_items (t ∷ ts) h = absurd cc
words_of-is (item null more) ts h = absurd cc
words_of-is (item (flag b) more) ts h = absurd cc
words_of-is (item (num n) more) ts h = absurd cc
words_of-is (item (array ds) more) ts h = absurd cc
words_of-is (item (object ms) more) ts h = absurd cc
words_of-is (item (text t) more) ts h =
    let r = mapped-some (λ us. t ∷ us) (words_of more) ts h in
    ap (item (text t)) (words_of-is more r.0 r.1) ∙ ap (λ us. items_of (map text us)) r.2

path_of-is : (d : Data) (p : Path) → path_of d ≡ Some p → d ≡ text_list p
path_of-is null p h = absurd cc
path_of-is (flag b) p h = absurd cc
path_of-is (num n) p h = absurd cc
path_of-is (text t) p h = absurd cc
path_of-is (object ms) p h = absurd cc
path_of-is (array ds) p h =
    let r = after-some (words_of ds) (λ path. cond (is_path path) (Some path) None) p h in
    ap array (words_of-is ds r.0 r.1) ∙ ap text_list (if-some (is_path r.0) r.0 p r.2)

paths_of-is : (ds : Items) (ps : List Path) → paths_of ds ≡ Some ps → ds ≡ items_of (map text_list ps)
paths_of-is no_items [] h = refl
paths_of-is no_items (p ∷ ps) h = absurd cc
paths_of-is (item d more) ps h =
    let r = after-some (path_of d) (λ path. option_map (λ paths. path ∷ paths) (paths_of more)) ps h in
    let rest = mapped-some (λ paths. r.0 ∷ paths) (paths_of more) ps r.2 in
    let one = path_of-is d r.0 r.1 in
    let others = paths_of-is more rest.0 rest.1 in
    (λ i. item (one i) (others i)) ∙ ap (λ qs. items_of (map text_list qs)) rest.2

paths_read-is : (o : Option Data) (ps : List Path) → paths_read o ≡ Some ps → o ≡ Some (path_list ps)
paths_read-is None ps h = absurd cc
paths_read-is (Some null) ps h = absurd cc
paths_read-is (Some (flag b)) ps h = absurd cc
paths_read-is (Some (num n)) ps h = absurd cc
paths_read-is (Some (text t)) ps h = absurd cc
paths_read-is (Some (object ms)) ps h = absurd cc
paths_read-is (Some (array ds)) ps h =
    let r = after-some (paths_of ds) (λ paths. cond (are_rising paths) (Some paths) None) ps h in
    ap (λ xs. Some (array xs)) (paths_of-is ds r.0 r.1) ∙ ap (λ qs. Some (path_list qs)) (if-some (are_rising r.0) r.0 ps r.2)

text_in-is : (o : Option Data) (t : List ℕ) → text_in o ≡ Some t → o ≡ Some (text t)
text_in-is None t h = absurd cc
text_in-is (Some null) t h = absurd cc
text_in-is (Some (flag b)) t h = absurd cc
text_in-is (Some (num n)) t h = absurd cc
text_in-is (Some (array ds)) t h = absurd cc
text_in-is (Some (object ms)) t h = absurd cc
text_in-is (Some (text s)) t h = let same : s ≡ t = cc in ap (λ x. Some (text x)) same

kind-is : (kind : List ℕ) (o : Option Data) → is_kind kind o ≡ true → o ≡ Some (text kind)
kind-is kind None h = absurd cc
kind-is kind (Some null) h = absurd cc
kind-is kind (Some (flag b)) h = absurd cc
kind-is kind (Some (num n)) h = absurd cc
kind-is kind (Some (array ds)) h = absurd cc
kind-is kind (Some (object ms)) h = absurd cc
kind-is kind (Some (text t)) h = ap (λ x. Some (text x)) ((bytes_eq-Decides t kind).0 h)

empty-is : (o : Option Data) → is_empty_object o ≡ true → o ≡ Some (object no_entries)
empty-is None h = absurd cc
empty-is (Some null) h = absurd cc
empty-is (Some (flag b)) h = absurd cc
empty-is (Some (num n)) h = absurd cc
empty-is (Some (text t)) h = absurd cc
empty-is (Some (array ds)) h = absurd cc
empty-is (Some (object (entry n v ms))) h = absurd cc
empty-is (Some (object no_entries)) h = refl

-- the four members of the body of an automatic index's definition
record IsAuto (metadata collection fields kind : Option Data) (d : Definition) : Type 0 where
  pub name : List ℕ
  pub paths : List Path
  pub metadata_is : metadata ≡ Some (object no_entries)
  pub collection_is : collection ≡ Some (text name)
  pub fields_are : fields ≡ Some (path_list paths)
  pub kind_is : kind ≡ Some (text (codes "auto"))
  pub definition_is : Auto name paths ≡ d

auto_read-IsAuto : (m c fs k : Option Data) (d : Definition) → auto_read m c fs k ≡ Some d → IsAuto m c fs k d
auto_read-IsAuto m c fs k d h = elim (is_empty_object m && is_kind (codes "auto") k) as (λ b. is_empty_object m && is_kind (codes "auto") k ≡ b
    → cond b (and_then_some (text_in c) (λ n. option_map (Auto n) (paths_read fs))) None ≡ Some d → IsAuto m c fs k d) [
      | true ↦ λ e g.
          let both = both_true (is_empty_object m) (is_kind (codes "auto") k) e in
          let r = after-some (text_in c) (λ n. option_map (Auto n) (paths_read fs)) d g in
          let p = mapped-some (Auto r.0) (paths_read fs) d r.2 in
          record {
            name = r.0;
            paths = p.0;
            metadata_is = empty-is m both.0;
            collection_is = text_in-is c r.0 r.1;
            fields_are = paths_read-is fs p.0 p.1;
            kind_is = kind-is (codes "auto") k both.1;
            definition_is = p.2;
          }
      | false ↦ λ e g. absurd cc
    ] refl h

-- the five members of that of one with groups
record IsGrouped (metadata collection groups kind sums : Option Data) (d : Definition) : Type 0 where
  pub name : List ℕ
  pub paths : List Path
  pub totals : List Path
  pub metadata_is : metadata ≡ Some (object no_entries)
  pub collection_is : collection ≡ Some (text name)
  pub groups_are : groups ≡ Some (path_list paths)
  pub kind_is : kind ≡ Some (text (codes "auto-reduce"))
  pub sums_are : sums ≡ Some (path_list totals)
  pub definition_is : AutoReduce name paths totals ≡ d

reduce_read-IsGrouped : (m c gs k ss : Option Data) (d : Definition) → reduce_read m c gs k ss ≡ Some d → IsGrouped m c gs k ss d
reduce_read-IsGrouped m c gs k ss d h = elim (is_empty_object m && is_kind (codes "auto-reduce") k) as (λ b. is_empty_object m && is_kind (codes "auto-reduce") k ≡ b
    → cond b (and_then_some (text_in c) (λ n. and_then_some (paths_read gs) (λ g. option_map (AutoReduce n g) (paths_read ss)))) None ≡ Some d → IsGrouped m c gs k ss d) [
      | true ↦ λ e g.
          let both = both_true (is_empty_object m) (is_kind (codes "auto-reduce") k) e in
          let r = after-some (text_in c) (λ n. and_then_some (paths_read gs) (λ x. option_map (AutoReduce n x) (paths_read ss))) d g in
          let p = after-some (paths_read gs) (λ x. option_map (AutoReduce r.0 x) (paths_read ss)) d r.2 in
          let q = mapped-some (AutoReduce r.0 p.0) (paths_read ss) d p.2 in
          record {
            name = r.0;
            paths = p.0;
            totals = q.0;
            metadata_is = empty-is m both.0;
            collection_is = text_in-is c r.0 r.1;
            groups_are = paths_read-is gs p.0 p.1;
            kind_is = kind-is (codes "auto-reduce") k both.1;
            sums_are = paths_read-is ss q.0 q.1;
            definition_is = q.2;
          }
      | false ↦ λ e g. absurd cc
    ] refl h

-- the members of a definition's body, in order
abbrev four : List ℕ → List Path → Pairs
four c fs = (codes "@metadata", object no_entries) ∷ (codes "Collection", text c) ∷ (codes "Fields", path_list fs) ∷ (codes "Kind", text (codes "auto")) ∷ []

four-rise : (c : List ℕ) (fs : List Path) → IsRising (four c fs)
four-rise c fs = ((refl, (refl, (refl, tt))), ((refl, (refl, tt)), ((refl, tt), (tt, tt))))

abbrev five : List ℕ → List Path → List Path → Pairs
five c gs ss =
    (codes "@metadata", object no_entries)
    ∷ (codes "Collection", text c)
    ∷ (codes "Groups", path_list gs)
    ∷ (codes "Kind", text (codes "auto-reduce"))
    ∷ (codes "Sums", path_list ss)
    ∷ []

five-rise : (c : List ℕ) (gs ss : List Path) → IsRising (five c gs ss)
five-rise c gs ss = ((refl, (refl, (refl, (refl, tt)))), ((refl, (refl, (refl, tt))), ((refl, (refl, tt)), ((refl, tt), (tt, tt)))))

-- the four members of the body of a definition by texts
record IsStatic (metadata kind map reduce : Option Data) (texts : Texts) : Type 0 where
  pub metadata_is : metadata ≡ Some (object no_entries)
  pub kind_is : kind ≡ Some (text (codes "static"))
  pub map_is : map ≡ Some (text texts.0)
  pub reduce_is : reduce ≡ Some (text_or_null texts.1)

same_texts : (a b : Texts) → Some a ≡ Some b → a ≡ b
same_texts a b h = cc

by_texts : (k s : List ℕ) (words : Option (List ℕ)) (texts : Texts) → cond {A = Option Texts} (bytes_eq k (codes "static")) (Some (s, words)) None ≡ Some texts
    → IsStatic (Some (object no_entries)) (Some (text k)) (Some (text s)) (Some (text_or_null words)) texts
by_texts k s words texts h =
    elim (bytes_eq k (codes "static")) as (λ b. bytes_eq k (codes "static") ≡ b → cond {A = Option Texts} b (Some (s, words)) None ≡ Some texts
    → IsStatic (Some (object no_entries)) (Some (text k)) (Some (text s)) (Some (text_or_null words)) texts) [
      | true ↦ λ e g. record {
        metadata_is = refl;
        kind_is = ap (λ x. Some (text x)) ((bytes_eq-Decides k (codes "static")).0 e);
        map_is = ap (λ (t : Texts). Some (text t.0)) (same_texts (s, words) texts g);
        reduce_is = ap (λ (t : Texts). Some (text_or_null t.1)) (same_texts (s, words) texts g);
      }
      | false ↦ λ e g. absurd cc
    ] refl h

by_reduce : (k s : List ℕ) (r : Option Data) (texts : Texts) → texts_read (Some (object no_entries)) (Some (text k)) (Some (text s)) r ≡ Some texts
    → IsStatic (Some (object no_entries)) (Some (text k)) (Some (text s)) r texts
by_reduce k s None texts h = absurd cc
by_reduce k s (Some null) texts h = by_texts k s None texts h
by_reduce k s (Some (flag b)) texts h = absurd cc
by_reduce k s (Some (num n)) texts h = absurd cc
by_reduce k s (Some (text words)) texts h = by_texts k s (Some words) texts h
by_reduce k s (Some (array ds)) texts h = absurd cc
by_reduce k s (Some (object ms)) texts h = absurd cc

by_map : (k : List ℕ) (m r : Option Data) (texts : Texts) → texts_read (Some (object no_entries)) (Some (text k)) m r ≡ Some texts → IsStatic (Some (object no_entries)) (Some (text k)) m r texts
by_map k None r texts h = absurd cc
by_map k (Some null) r texts h = absurd cc
by_map k (Some (flag b)) r texts h = absurd cc
by_map k (Some (num n)) r texts h = absurd cc
by_map k (Some (array ds)) r texts h = absurd cc
by_map k (Some (object ms)) r texts h = absurd cc
by_map k (Some (text s)) r texts h = by_reduce k s r texts h

by_static : (k m r : Option Data) (texts : Texts) → texts_read (Some (object no_entries)) k m r ≡ Some texts → IsStatic (Some (object no_entries)) k m r texts
by_static None m r texts h = absurd cc
by_static (Some null) m r texts h = absurd cc
by_static (Some (flag b)) m r texts h = absurd cc
by_static (Some (num n)) m r texts h = absurd cc
by_static (Some (array ds)) m r texts h = absurd cc
by_static (Some (object ms)) m r texts h = absurd cc
by_static (Some (text k)) m r texts h = by_map k m r texts h

texts_read-IsStatic : (d k m r : Option Data) (texts : Texts) → texts_read d k m r ≡ Some texts → IsStatic d k m r texts
texts_read-IsStatic None k m r texts h = absurd cc
texts_read-IsStatic (Some null) k m r texts h = absurd cc
texts_read-IsStatic (Some (flag b)) k m r texts h = absurd cc
texts_read-IsStatic (Some (num n)) k m r texts h = absurd cc
texts_read-IsStatic (Some (text s)) k m r texts h = absurd cc
texts_read-IsStatic (Some (array ds)) k m r texts h = absurd cc
texts_read-IsStatic (Some (object (entry n v ms))) k m r texts h = absurd cc
texts_read-IsStatic (Some (object no_entries)) k m r texts h = by_static k m r texts h

-- the members of the body of a definition by texts, in order
abbrev four_of : Texts → Pairs
four_of texts = (codes "@metadata", object no_entries) ∷ (codes "Kind", text (codes "static")) ∷ (codes "Map", text texts.0) ∷ (codes "Reduce", text_or_null texts.1) ∷ []

four_of-rise : (texts : Texts) → IsRising (four_of texts)
four_of-rise texts = ((refl, (refl, (refl, tt))), ((refl, (refl, tt)), ((refl, tt), (tt, tt))))

-- what is said of a body that may divide is no more than what is said of one that may not
weaker : (f : BodyForm) (d : Definition) → AgreesWithForm f d → AgreesWithForm (dividing f) d
weaker NoForm d h = h
weaker (AutoForm told) d h = h
weaker (StaticForm may_divide texts) d h = record { agrees = h.agrees; undivided = λ e. absurd cc }

-- the body of a definition of the first version is the one that the server wrote for it
members-told : (ms : Entries) (d : Definition) → Rises (object ms) → length (pairs_of ms) ≡ 4
    → (auto : Option Definition) → auto_read (member (codes "@metadata") ms) (member (codes "Collection") ms) (member (codes "Fields") ms) (member (codes "Kind") ms) ≡ auto
    → (read : Option Texts) → texts_read (member (codes "@metadata") ms) (member (codes "Kind") ms) (member (codes "Map") ms) (member (codes "Reduce") ms) ≡ read
    → AgreesWithForm (dividing (form_of auto read)) d → object ms ≡ stored_body (first_body d)
members-told ms d up n (Some told) e read k h =
    let a = auto_read-IsAuto (member (codes "@metadata") ms) (member (codes "Collection") ms) (member (codes "Fields") ms) (member (codes "Kind") ms) told e in
    let they = they_are (four a.name a.paths) ms (four-rise a.name a.paths) up (a.metadata_is, (a.collection_is, (a.fields_are, (a.kind_is, tt)))) (omega arith) in
    ap object they ∙ ap (λ x. stored_body (first_body x)) (a.definition_is ∙ sym h)
members-told ms d up n None e (Some texts) k h =
    let a = texts_read-IsStatic (member (codes "@metadata") ms) (member (codes "Kind") ms) (member (codes "Map") ms) (member (codes "Reduce") ms) texts k in
    let they = they_are (four_of texts) ms (four_of-rise texts) up (a.metadata_is, (a.kind_is, (a.map_is, (a.reduce_is, tt)))) (omega arith) in
    ap object they ∙ ap (λ x. stored_body (first_body x)) (sym h.agrees.by_texts)
members-told ms d up n None e None k h = absurd h

-- the same of one with groups
five-told : (ms : Entries) (d : Definition) → Rises (object ms) → length (pairs_of ms) ≡ 5
    → (read : Option Definition) → reduce_read (member (codes "@metadata") ms) (member (codes "Collection") ms) (member (codes "Groups") ms) (member (codes "Kind") ms) (member (codes "Sums") ms) ≡ read
    → AgreesWithForm (dividing (reduce_form read)) d → object ms ≡ stored_body (first_body d)
five-told ms d up n None e h = absurd h
five-told ms d up n (Some told) e h =
    let a = reduce_read-IsGrouped (member (codes "@metadata") ms) (member (codes "Collection") ms) (member (codes "Groups") ms) (member (codes "Kind") ms) (member (codes "Sums") ms) told e in
    let they = they_are (five a.name a.paths a.totals) ms (five-rise a.name a.paths a.totals) up
    (a.metadata_is, (a.collection_is, (a.groups_are, (a.kind_is, (a.sums_are, tt))))) (omega arith) in
    ap object they ∙ ap (λ x. stored_body (first_body x)) (a.definition_is ∙ sym h)

first-told : (v : Data) (d : Definition) → Rises v → AgreesWithForm (dividing (first_form v)) d → v ≡ stored_body (first_body d)
first-told null d up h = absurd h
first-told (flag b) d up h = absurd h
first-told (num n) d up h = absurd h
first-told (text s) d up h = absurd h
first-told (array ds) d up h = absurd h
first-told (object ms) d up h =
    let auto = auto_read (member (codes "@metadata") ms) (member (codes "Collection") ms) (member (codes "Fields") ms) (member (codes "Kind") ms) in
    let read = texts_read (member (codes "@metadata") ms) (member (codes "Kind") ms) (member (codes "Map") ms) (member (codes "Reduce") ms) in
    let grouped = reduce_read (member (codes "@metadata") ms) (member (codes "Collection") ms) (member (codes "Groups") ms) (member (codes "Kind") ms) (member (codes "Sums") ms) in
    elim (length (pairs_of ms) == 4) as (λ b. length (pairs_of ms) == 4 ≡ b → AgreesWithForm (dividing (cond b (form_of auto read) (cond (length (pairs_of ms) == 5) (reduce_form grouped) NoForm))) d → object ms ≡ stored_body (first_body d)) [
      | true ↦ λ e g. members-told ms d up (eqb-true (length (pairs_of ms)) 4 e) auto refl read refl g
      | false ↦ λ e g. elim (length (pairs_of ms) == 5) as (λ b. length (pairs_of ms) == 5 ≡ b → AgreesWithForm (dividing (cond b (reduce_form grouped) NoForm)) d → object ms ≡ stored_body (first_body d)) [
        | true ↦ λ f k. five-told ms d up (eqb-true (length (pairs_of ms)) 5 f) grouped refl k
        | false ↦ λ f k. absurd k
      ] refl g
    ] refl h

-- in the first version there is no quotient

sums-undivided : (ps : List Path) → list_any (λ m. is_quotient m.value) (map (λ path. sum_member (sum_name path)) ps) ≡ false
sums-undivided [] = refl
sums-undivided (p ∷ ps) = sums-undivided ps

groups-undivided : (gs ps : List Path) → list_any (λ m. is_quotient m.value) (map key_member gs ++ sum_member count_name ∷ map (λ path. sum_member (sum_name path)) ps) ≡ false
groups-undivided [] ps = sums-undivided ps
groups-undivided (g ∷ gs) ps = groups-undivided gs ps

form-undivided : (m c fs gs k ss t r : Option Data) (d : Definition) → (auto : Option Definition) → auto_read m c fs k ≡ auto → (read : Option Texts) → texts_read m k t r ≡ read
    → AgreesWithForm (form_of auto read) d → has_quotient d ≡ false
form-undivided m c fs gs k ss t r d (Some told) e read f h = let a = auto_read-IsAuto m c fs k told e in ap has_quotient (h ∙ sym a.definition_is)
form-undivided m c fs gs k ss t r d None e (Some texts) f h = h.undivided refl
form-undivided m c fs gs k ss t r d None e None f h = absurd h

grouped-undivided : (m c gs k ss : Option Data) (d : Definition) → (read : Option Definition) → reduce_read m c gs k ss ≡ read → AgreesWithForm (reduce_form read) d → has_quotient d ≡ false
grouped-undivided m c gs k ss d None e h = absurd h
grouped-undivided m c gs k ss d (Some told) e h =
    let a = reduce_read-IsGrouped m c gs k ss told e in
    ap has_quotient (h ∙ sym a.definition_is) ∙ groups-undivided a.paths a.totals

first-undivided : (v : Data) (d : Definition) → AgreesWithForm (first_form v) d → has_quotient d ≡ false
first-undivided null d h = absurd h
first-undivided (flag b) d h = absurd h
first-undivided (num n) d h = absurd h
first-undivided (text s) d h = absurd h
first-undivided (array ds) d h = absurd h
first-undivided (object ms) d h =
    let at = λ (k : List ℕ). member k ms in
    elim (length (pairs_of ms) == 4) as (λ b. AgreesWithForm (cond b (form_of (auto_read (at (codes "@metadata")) (at (codes "Collection")) (at (codes "Fields")) (at (codes "Kind")))
    (texts_read (at (codes "@metadata")) (at (codes "Kind")) (at (codes "Map")) (at (codes "Reduce"))))
    (cond (length (pairs_of ms) == 5) (reduce_form (reduce_read (at (codes "@metadata")) (at (codes "Collection")) (at (codes "Groups")) (at (codes "Kind")) (at (codes "Sums")))) NoForm)) d → has_quotient d ≡ false) [
      | true ↦ λ g. form-undivided (at (codes "@metadata")) (at (codes "Collection")) (at (codes "Fields")) None (at (codes "Kind")) None (at (codes "Map")) (at (codes "Reduce")) d _ refl _ refl g
      | false ↦ λ g. elim (length (pairs_of ms) == 5) as (λ b.
          AgreesWithForm (cond b (reduce_form (reduce_read (at (codes "@metadata")) (at (codes "Collection")) (at (codes "Groups")) (at (codes "Kind")) (at (codes "Sums")))) NoForm) d → has_quotient d ≡ false) [
            | true ↦ λ k. grouped-undivided (at (codes "@metadata")) (at (codes "Collection")) (at (codes "Groups")) (at (codes "Kind")) (at (codes "Sums")) d _ refl k
            | false ↦ λ k. absurd k
          ] g
    ] h

-- a member that is taken out, and put back

below-found : (j k : List ℕ) (x : Data) (ps : Pairs) → IsBelowAll j ps → member k (entries_of ps) ≡ Some x → key_cmp j k ≡ Less
below-found j k x [] b h = absurd cc
below-found j k x (m ∷ ps) b h = by (below-found j k x ps b.1) (bytes_eq k m.0) refl h
  where
    by : (member k (entries_of ps) ≡ Some x → key_cmp j k ≡ Less) → (o : Bool) → bytes_eq k m.0 ≡ o → cond o (Some m.1) (member k (entries_of ps)) ≡ Some x → key_cmp j k ≡ Less
    by rest true e g = ap (key_cmp j) ((bytes_eq-Decides k m.0).0 e) ∙ b.0
    by rest false e g = rest g

below-without : (j k : List ℕ) (ps : Pairs) → IsBelowAll j ps → IsBelowAll j (without k ps)
below-without j k [] b = tt
below-without j k (m ∷ ps) b = elim (same_key k m.0) as (λ o. IsBelowAll j (cond o ps (m ∷ without k ps))) [ true ↦ b.1 | false ↦ (b.0, below-without j k ps b.1) ]

rising-without : (k : List ℕ) (ps : Pairs) → IsRising ps → IsRising (without k ps)
rising-without k [] up = tt
rising-without k (m ∷ ps) up = elim (same_key k m.0) as (λ o. IsRising (cond o ps (m ∷ without k ps))) [ true ↦ up.1 | false ↦ (below-without m.0 k ps up.0, rising-without k ps up.1) ]

put-below : (k : List ℕ) (x : Data) (ps : Pairs) → IsBelowAll k ps → put k x ps ≡ (k, x) ∷ ps
put-below k x [] b = refl
put-below k x (m ∷ ps) b = ap (λ o. match_ordering o ((k, x) ∷ m ∷ ps) ((k, x) ∷ ps) (m ∷ put k x ps)) b.0

put-back : (k : List ℕ) (x : Data) (ps : Pairs) → IsRising ps → member k (entries_of ps) ≡ Some x → put k x (without k ps) ≡ ps
put-back k x [] up h = absurd cc
put-back k x (m ∷ ps) up h = by (put-back k x ps up.1) (same_key k m.0) refl h
  where
    here : (l : List ℕ) (y : Data) → k ≡ l → y ≡ x → IsBelowAll l ps → put k x ps ≡ (l, y) ∷ ps
    here l y same is b = ap (λ q. put q x ps) same ∙ put-below l x ps b ∙ ap (λ z. (l, z) ∷ ps) (sym is)

    by : (member k (entries_of ps) ≡ Some x → put k x (without k ps) ≡ ps) → (o : Bool) → same_key k m.0 ≡ o → cond o (Some m.1) (member k (entries_of ps)) ≡ Some x
        → put k x (without k (m ∷ ps)) ≡ m ∷ ps
    by rest true e g = ap (λ o. put k x (cond o ps (m ∷ without k ps))) e ∙ here m.0 m.1 ((bytes_eq-Decides k m.0).0 e) (let is : m.1 ≡ x = cc in is) up.0
    by rest false e g =
        ap (λ o. put k x (cond o ps (m ∷ without k ps))) e
        ∙ ap (λ o. match_ordering o ((k, x) ∷ m ∷ without k ps) ((k, x) ∷ without k ps) (m ∷ put k x (without k ps)))
        (nat_list_cmp_total.antisymm k m.0 ∙ ap ordering_reverse (below-found m.0 k x ps up.0 g))
        ∙ ap (λ l. m ∷ l) (rest g)

two-is : (v : Data) → is_two v ≡ true → v ≡ num (pos 2)
two-is (num (pos n)) h = ap (λ m. num (pos m)) (eqb-true n 2 h)
two-is (num (negsuc n)) h = absurd cc
two-is null h = absurd cc
two-is (flag b) h = absurd cc
two-is (text s) h = absurd cc
two-is (array ds) h = absurd cc
two-is (object ms) h = absurd cc

second-told : (ms : Entries) (d : Definition) → Rises (object ms) → (v : Data) → member (codes "Version") ms ≡ Some v → is_two v ≡ true
    → AgreesWithForm (dividing (first_form (object (entries_of (without (codes "Version") (pairs_of ms)))))) d → object ms ≡ stored_body (row_body d)
second-told ms d up v found two h =
    let rest = entries_of (without (codes "Version") (pairs_of ms)) in
    let is = first-told (object rest) d (subst (λ (ps : Pairs). IsRising ps) (sym (pairs_of-entries_of (without (codes "Version") (pairs_of ms)))) (rising-without (codes "Version") (pairs_of ms) up)) h in
    ap object (sym (entries-again ms))
    ∙ ap (λ ps. object (entries_of ps)) (sym (put-back (codes "Version") v (pairs_of ms) up (ap (member (codes "Version")) (entries-again ms) ∙ found)))
    ∙ ap (λ x. object (entries_of (put (codes "Version") x (without (codes "Version") (pairs_of ms))))) (two-is v two)
    ∙ ap (λ ps. object (entries_of (put (codes "Version") (num (pos 2)) ps))) (sym (pairs_of-entries_of (without (codes "Version") (pairs_of ms))))
    ∙ ap with_version is
    ∙ with_version-first d

told-is : (v : Data) (d : Definition) → Rises v → AgreesWithForm (body_form v) d → sound.IsBodyOf d (doc v)
told-is null d up h = absurd h
told-is (flag b) d up h = absurd h
told-is (num n) d up h = absurd h
told-is (text s) d up h = absurd h
told-is (array ds) d up h = absurd h
told-is (object ms) d up h = by (member (codes "Version") ms) refl h
  where
    first : AgreesWithForm (first_form (object ms)) d → sound.IsBodyOf d (doc (object ms))
    first g = sound.first (ap doc (first-told (object ms) d up (weaker (first_form (object ms)) d g))) (first-undivided (object ms) d g)

    by : (o : Option Data) → member (codes "Version") ms ≡ o → AgreesWithForm (form_by (without_version ms o) (object ms)) d → sound.IsBodyOf d (doc (object ms))
    by None e g = first g
    by (Some v) e g =
        elim (is_two v) as (λ b. is_two v ≡ b → AgreesWithForm (form_by (cond b (Some (object (entries_of (without (codes "Version") (pairs_of ms))))) None) (object ms)) d → sound.IsBodyOf d (doc (object ms))) [
          | true ↦ λ two k. sound.second (ap doc (second-told ms d up v e two k))
          | false ↦ λ two k. first k
        ] refl g

pub toldin-is : (b : Body) (d : Definition) → BodyRises b → AgreesWithBody b d → sound.IsBodyOf d b
toldin-is (doc v) d up h = told-is v d up h
toldin-is gone d up h = absurd h

-- THE KEY OF A DEFINITION'S ROW

pub folded-drop : (n : ℕ) (xs : List ℕ) → folded (drop n xs) ≡ drop n (folded xs)
folded-drop zero xs = refl
folded-drop (suc n) [] = refl
folded-drop (suc n) (x ∷ xs) = folded-drop n xs

-- the id of a row of an index is that of its name, without regard to case
pub indexed : (id : List ℕ) → is_index_id id ≡ true → folded id ≡ folded (index_id (drop 7 id))
indexed id h =
    let front = (bytes_eq-Decides (codes "@index/") (take 7 (folded id))).0 h in
    sym (take-append-drop 7 (folded id)) ∙ ap (λ xs. xs ++ drop 7 (folded id)) (sym front) ∙ ap (λ xs. codes "@index/" ++ xs) (sym (folded-drop 7 id))

-- SLOTS, ONE AFTER ANOTHER

-- a client may give the name, and these rows have a live one of its index
pub record IsForOne (all : List Row) (name : List ℕ) : Type 0 where
  pub given : is_reserved_name name ≡ false
  pub live : is_live (row_at (folded (index_id name)) all) ≡ true

-- the slot is that of a row of a definition
pub record IsMade (all rows : List Row) (x : Slot) : Type 0 where
  pub from : Row
  pub there : Has rows from
  pub defining : is_defining from ≡ true
  pub indexed : is_index_id from.id ≡ true
  pub definition : Definition
  pub told : AgreesWithBody from.body definition
  pub kind : is_automatic definition ≡ begins_with_auto (name_in from)
  pub beside : begins_with_replacement (name_in from) ≡ true → IsForOne all (drop 14 (name_in from))
  pub made : slot_of from definition ≡ x

-- the slots of the rows so far
pub record AreMade (all : List Row) (max : ℕ) (rows : List Row) (slots : List Slot) : Type 0 where
  pub rising : NumbersRise 0 slots
  pub under : (x : Slot) → Has slots x → x.number ≤ last_of 0 rows
  pub each : (x : Slot) → Has slots x → IsMade all rows x
  pub filed : (r : Row) → Has rows r → is_filed r ≡ true
  pub only : (r : Row) → Has rows r → is_defining r ≡ true → (x : Slot) × Has slots x × (key r ≡ folded (index_id x.name))
  pub count : length slots ≤ max

IsMade-further : (all rows : List Row) (r : Row) (x : Slot) → IsMade all rows x → IsMade all (rows ++ r ∷ []) x
IsMade-further all rows r x m = record {
  from = m.from;
  there = Has-left rows (r ∷ []) m.from m.there;
  defining = m.defining;
  indexed = m.indexed;
  definition = m.definition;
  told = m.told;
  kind = m.kind;
  beside = m.beside;
  made = m.made;
}

filed-further : (rows : List Row) (r : Row) → ((x : Row) → Has rows x → is_filed x ≡ true) → is_filed r ≡ true → (x : Row) → Has (rows ++ r ∷ []) x → is_filed x ≡ true
filed-further rows r all is x h = elim (Has-append rows (r ∷ []) x h) [
  | inl old ↦ all x old
  | inr (inl e) ↦ subst (λ (y : Row). is_filed y ≡ true) e is
  | inr (inr no_more) ↦ absurd no_more
]

-- a row that is no definition leaves the slots as they are
plain-AreMade : (all : List Row) (max : ℕ) (rows : List Row) (slots : List Slot) (r : Row) → AreMade all max rows slots → last_of 0 rows < r.etag → is_filed r ≡ true → is_defining r ≡ false
    → AreMade all max (rows ++ r ∷ []) slots
plain-AreMade all max rows slots r a up filed plain = record {
  rising = a.rising;
  under = λ x h. let u = a.under x h in let l = last_of-push 0 rows r in omega arith;
  each = λ x h. IsMade-further all rows r x (a.each x h);
  filed = filed-further rows r a.filed filed;
  only = λ y h is. elim (Has-append rows (r ∷ []) y h) [
    | inl old ↦ a.only y old is
    | inr (inl e) ↦ absurd (let f = ap is_defining e in cc)
    | inr (inr no_more) ↦ absurd no_more
  ];
  count = a.count;
}

-- the row of a definition adds its slot
defining-AreMade : (all : List Row) (max : ℕ) (rows : List Row) (slots : List Slot) (r : Row) (d : Definition) → AreMade all max rows slots → last_of 0 rows < r.etag → length slots < max
    → is_filed r ≡ true → is_defining r ≡ true → is_index_id r.id ≡ true → AgreesWithBody r.body d → is_automatic d ≡ begins_with_auto (name_in r)
    → (begins_with_replacement (name_in r) ≡ true → IsForOne all (drop 14 (name_in r))) → AreMade all max (rows ++ r ∷ []) (slots ++ slot_of r d ∷ [])
defining-AreMade all max rows slots r d a up room right is filed means kind beside = record {
  filed = filed-further rows r a.filed right;
  rising = NumbersRise-push 0 slots (slot_of r d) a.rising (omega arith) (λ x h. let u = a.under x h in omega arith);
  under = λ x h. let l = last_of-push 0 rows r in elim (Has-append slots (slot_of r d ∷ []) x h) [
    | inl old ↦ let u = a.under x old in omega arith
    | inr (inl e) ↦ let f : r.etag ≡ x.number = ap (λ (y : Slot). y.number) e in omega arith
    | inr (inr no_more) ↦ absurd no_more
  ];
  each = λ x h. elim (Has-append slots (slot_of r d ∷ []) x h) [
    | inl old ↦ IsMade-further all rows r x (a.each x old)
    | inr (inl e) ↦ record { from = r; there = Has-right rows (r ∷ []) r (inl refl); defining = is; indexed = filed; definition = d; told = means; kind = kind; beside = beside; made = e }
    | inr (inr no_more) ↦ absurd no_more
  ];
  only = λ y h at. elim (Has-append rows (r ∷ []) y h) [
    | inl old ↦ let x = a.only y old at in (x.0, Has-left slots (slot_of r d ∷ []) x.0 x.1, x.2)
    | inr (inl e) ↦ (slot_of r d, Has-right slots (slot_of r d ∷ []) (slot_of r d) (inl refl), ap key (sym e) ∙ indexed r.id filed)
    | inr (inr no_more) ↦ absurd no_more
  ];
  count = let l = length-append slots (slot_of r d ∷ []) in omega arith;
}

same_slots : (a b : List Slot) → Some a ≡ Some b → a ≡ b
same_slots a b h = cc

-- what holds of a row that was taken
pub record IsTaken (s : Setting) (all : List Row) (slots : List Slot) (x : ReadRow) (more : List Slot) : Type 0 where
  pub room : is_defining x.row && nat_le s.max_slots (length slots) ≡ false
  pub filed : is_filed x.row ≡ true
  pub rest : slots_with all slots x ≡ Some more

pub not_false : (b : Bool) → not b ≡ false → b ≡ true
not_false true h = refl
not_false false h = absurd cc

pub taken-of : (s : Setting) (all : List Row) (n : ℕ) (slots : List Slot) (x : ReadRow) (more : List Slot) → slots_after s all n slots x ≡ Some more → IsTaken s all slots x more
taken-of s all n slots x more h = elim (is_too_many s n slots x.row || not (is_filed x.row)) as (λ b. is_too_many s n slots x.row || not (is_filed x.row) ≡ b
    → cond b None (slots_with all slots x) ≡ Some more → IsTaken s all slots x more) [
      | true ↦ λ e g. absurd cc
      | false ↦ λ e g.
          let f = either_false (is_too_many s n slots x.row) (not (is_filed x.row)) e in
          record {
            room = (either_false (nat_le s.max_rows n) (is_defining x.row && nat_le s.max_slots (length slots)) f.0).1;
            filed = not_false (is_filed x.row) f.1;
            rest = g;
          }
    ] refl h

filed-indexed : (r : Row) → is_filed r ≡ true → is_defining r ≡ true → is_index_id r.id ≡ true
filed-indexed r filed is =
    sym (ap (λ b. cond b (is_index_id r.id) (not (is_index_id r.id))) (both_true (is_document r) (bytes_eq r.collection (codes "@indexes")) is).1) ∙ filed

-- the row of a definition adds a slot, its definition may have the row's name, and what it is to replace has a row
pub record IsBrought (all : List Row) (slots : List Slot) (r : Row) (o : Option Definition) (more : List Slot) : Type 0 where
  pub definition : Definition
  pub read : o ≡ Some definition
  pub may : may_be_named definition (name_in r) ≡ true
  pub beside : is_beside all (name_in r) ≡ true
  pub brought : slots ++ slot_of r definition ∷ [] ≡ more

pub with_slot-is : (all : List Row) (slots : List Slot) (r : Row) (o : Option Definition) (more : List Slot) → with_slot all slots r o ≡ Some more → IsBrought all slots r o more
with_slot-is all slots r None more h = absurd cc
with_slot-is all slots r (Some d) more h = elim (may_be_named d (name_in r) && is_beside all (name_in r)) as (λ b. may_be_named d (name_in r) && is_beside all (name_in r) ≡ b
    → cond b (Some (slots ++ slot_of r d ∷ [])) None ≡ Some more → IsBrought all slots r (Some d) more) [
      | true ↦ λ e g. let both = both_true (may_be_named d (name_in r)) (is_beside all (name_in r)) e in record { definition = d; read = refl; may = both.0; beside = both.1; brought = same_slots _ more g }
      | false ↦ λ e g. absurd cc
    ] refl h

-- a replacement is for an index that has a row
beside-for : (all : List Row) (d : Definition) (name : List ℕ) → may_be_named d name ≡ true → is_beside all name ≡ true → begins_with_replacement name ≡ true → IsForOne all (drop 14 name)
beside-for all d name may beside is = record {
  given = named-given d name may is;
  live = sym (ap (λ b. not b || is_live (row_at (folded (index_id (cond b (drop 14 name) name))) all)) is) ∙ beside;
}

slots_after-AreMade : (s : Setting) (all : List Row) (n : ℕ) (rows : List Row) (slots : List Slot) (x : ReadRow) (more : List Slot) → AreMade all s.max_slots rows slots → last_of 0 rows < x.row.etag → HasOwnDefinition x
    → slots_after s all n slots x ≡ Some more → AreMade all s.max_slots (rows ++ x.row ∷ []) more
slots_after-AreMade s all n rows slots x more a up told h =
    let t = taken-of s all n slots x more h in
    elim (is_defining x.row) as (λ b. is_defining x.row ≡ b → cond b (with_slot all slots x.row x.definition) (Some slots) ≡ Some more → AreMade all s.max_slots (rows ++ x.row ∷ []) more) [
      | true ↦ λ e g.
          let w = with_slot-is all slots x.row x.definition more g in
          let free = sym (ap (λ b. b && nat_le s.max_slots (length slots)) e) ∙ t.room in
          subst (AreMade all s.max_slots (rows ++ x.row ∷ [])) w.brought
          (defining-AreMade all s.max_slots rows slots x.row w.definition a up (leb-false s.max_slots (length slots) free) t.filed e (filed-indexed x.row t.filed e) (told w.definition e w.read)
          (named-kind w.definition (name_in x.row) w.may) (beside-for all w.definition (name_in x.row) w.may w.beside))
      | false ↦ λ e g. subst (AreMade all s.max_slots (rows ++ x.row ∷ [])) (same_slots slots more g) (plain-AreMade all s.max_slots rows slots x.row a up t.filed e)
    ] refl t.rest

same_opened : (a b : List Slot) → (let r : Result (List Slot) ℕ = Ok a in r) ≡ Ok b → a ≡ b
same_opened a b h = cc

slots_from-AreMade : (s : Setting) (all : List Row) (n : ℕ) (earlier : List Row) (slots : List Slot) (xs : List ReadRow) (last : List Slot) → AreMade all s.max_slots earlier slots
    → AreRising (last_of 0 earlier) (rows_of xs) → HaveOwnDefinitions xs → slots_from s all n slots xs ≡ Ok last → AreMade all s.max_slots (earlier ++ rows_of xs) last
slots_from-AreMade s all n earlier slots [] last a up told h =
    subst (λ rows. AreMade all s.max_slots rows last) (sym (append-nil earlier)) (subst (AreMade all s.max_slots earlier) (same_opened slots last h) a)
slots_from-AreMade s all n earlier slots (x ∷ xs) last a up told h =
    elim (slots_after s all n slots x) as (λ o. slots_after s all n slots x ≡ o → and_then (or_bad x.row.etag o) (λ more. slots_from s all (n + 1) more xs) ≡ Ok last
    → AreMade all s.max_slots (earlier ++ x.row ∷ rows_of xs) last) [
      | None ↦ λ e g. absurd cc
      | Some more ↦ λ e g.
          subst (λ rows. AreMade all s.max_slots rows last) (append_assoc earlier (x.row ∷ []) (rows_of xs))
          (slots_from-AreMade s all (n + 1) (earlier ++ x.row ∷ []) more xs last (slots_after-AreMade s all n earlier slots x more a up.0 told.0 e)
          (subst (λ low. AreRising low (rows_of xs)) (sym (last_of-push 0 earlier x.row)) up.1) told.1 g)
    ] refl h

-- THE WORLD

-- a row of a store is found under its key
pub Has-found : (rows : List Row) (r : Row) → AreApart rows → Has rows r → row_at (key r) rows ≡ Some r
Has-found [] r apart h = absurd h
Has-found (x ∷ rows) r apart (inl e) =
    ap (λ b. cond b (Some x) (row_at (key r) rows)) (ap (λ (y : Row). same_key (key r) (key y)) e ∙ same_itself (key r)) ∙ ap Some e
Has-found (x ∷ rows) r apart (inr h) =
    elim (same_key (key r) (key x)) as (λ b. same_key (key r) (key x) ≡ b → cond b (Some x) (row_at (key r) rows) ≡ Some r) [
      | true ↦ λ e. absurd (let none = apart.0 in let there = Has-found rows r apart.1 h in let same = subst (λ k. row_at k rows ≡ Some r) (same_means (key r) (key x) e) there in cc)
      | false ↦ λ e. Has-found rows r apart.1 h
    ] refl

opened-apart : (all : List Row) (max : ℕ) (rows : List Row) (slots : List Slot) → AreApart rows → AreMade all max rows slots → NamesApart slots
opened-apart all max rows slots apart a s t h g e =
    let x = a.each s h in
    let y = a.each t g in
    let named : folded (index_id (drop 7 x.from.id)) ≡ folded (index_id (drop 7 y.from.id)) =
    ap (λ n. folded (codes "@index/") ++ n) (ap (λ (z : Slot). folded z.name) x.made ∙ e ∙ ap (λ (z : Slot). folded z.name) (sym y.made)) in
    let keyed : key x.from ≡ key y.from = indexed x.from.id x.indexed ∙ named ∙ sym (indexed y.from.id y.indexed) in
    let same : x.from ≡ y.from = same_row x.from y.from (sym (Has-found rows x.from apart x.there) ∙ ap (λ k. row_at k rows) keyed ∙ Has-found rows y.from apart y.there) in
    same_slot 0 slots s t a.rising h g (ap (λ (z : Slot). z.number) (sym x.made) ∙ ap (λ (r : Row). r.etag) same ∙ ap (λ (z : Slot). z.number) y.made)

opened-listed : (all : List Row) (max : ℕ) (rows : List Row) (slots : List Slot) → Stand max rows → (most : ℕ) → AreMade all most rows slots → AreListed (store_of rows) slots
opened-listed all max rows slots s most a = record {
  each = λ x h.
      let m = a.each x h in
      let shut = both_true (is_document m.from) (bytes_eq m.from.collection (codes "@indexes")) m.defining in
      record {
        row = m.from;
        found = ap (λ (z : Slot). row_at (folded (index_id z.name)) rows) (sym m.made) ∙ ap (λ k. row_at k rows) (sym (indexed m.from.id m.indexed)) ∙ Has-found rows m.from s.apart m.there;
        etag = ap (λ (z : Slot). z.row) m.made;
        collection = (bytes_eq-Decides m.from.collection (codes "@indexes")).0 shut.1;
        body = subst (λ (z : Slot). sound.IsBodyOf z.version.definition m.from.body) m.made (toldin-is m.from.body m.definition (s.rises m.from m.there) m.told);
      };
  only = λ q r h is c.
      let at = find-Has (λ x. same_key q (key x)) rows r h in
      let named = (bytes_eq-Decides r.collection (codes "@indexes")).1 c in
      let defining : is_defining r ≡ true = ap (λ b. b && bytes_eq r.collection (codes "@indexes")) is ∙ named in
      let x = a.only r at.0 defining in
      (x.0, x.1, found_key q rows r h ∙ x.2);
}

live-row : (o : Option Row) → is_live o ≡ true → (r : Row) × (o ≡ Some r) × (is_document r ≡ true)
live-row None h = absurd cc
live-row (Some r) h = (r, refl, h)

-- a row with the id of an index's is in `@indexes`
filed-collection : (r : Row) → is_filed r ≡ true → is_index_id r.id ≡ true → bytes_eq r.collection (codes "@indexes") ≡ true
filed-collection r filed is = elim (bytes_eq r.collection (codes "@indexes")) as (λ b. cond b (is_index_id r.id) (not (is_index_id r.id)) ≡ true → b ≡ true) [
  | true ↦ λ e. refl
  | false ↦ λ e. absurd (let f = ap not is in cc)
] filed

-- a name behind the prefix of replacements
pub behind : (name : List ℕ) → begins_with_replacement name ≡ true → folded name ≡ folded (replacement_of (drop 14 name))
behind name h =
    let front = (bytes_eq-Decides (codes "replacementof/") (take 14 (folded name))).0 h in
    sym (take-append-drop 14 (folded name)) ∙ ap (λ xs. xs ++ drop 14 (folded name)) (sym front) ∙ ap (λ xs. codes "replacementof/" ++ xs) (sym (folded-drop 14 name))

opened-beside : (max : ℕ) (rows : List Row) (slots : List Slot) → AreMade rows max rows slots → HaveTheirSlots slots
opened-beside max rows slots a x h begins =
    let m = a.each x h in
    let name = name_in m.from in
    let named : name ≡ x.name = ap (λ (z : Slot). z.name) m.made in
    let is = ap begins_with_replacement named ∙ begins in
    let one = m.beside is in
    let live = live-row (row_at (folded (index_id (drop 14 name))) rows) one.live in
    let r = live.0 in
    let at = find-Has (λ y. same_key (folded (index_id (drop 14 name))) (key y)) rows r live.1 in
    let keyed : folded (index_id (drop 14 name)) ≡ key r = found_key (folded (index_id (drop 14 name))) rows r live.1 in
    let filed : is_index_id r.id ≡ true = ap (λ q. starts_with nat_eq q (codes "@index/")) (sym keyed) in
    let kept = filed-collection r (a.filed r at.0) filed in
    let defining : is_defining r ≡ true = ap (λ b. b && bytes_eq r.collection (codes "@indexes")) live.2 ∙ kept in
    let t = a.only r at.0 defining in
    let same : folded (drop 14 name) ≡ folded t.0.name = index_apart (drop 14 name) t.0.name (keyed ∙ t.2) in
    record {
      slot = t.0;
      there = t.1;
      named = ap folded (sym named) ∙ behind name is ∙ ap (λ q. folded (codes "ReplacementOf/") ++ q) same;
      given = reserved-other (drop 14 name) t.0.name same one.given;
    }

-- the machine that rows open
abbrev machine_of : Setting → List Row → List Slot → Machine
machine_of s rows slots = record { world = record { setting = s; store = store_of rows; slots = slots; notes = [] }; held = [] }

world-Sound : (s : Setting) (rows : List Row) (slots : List Slot) → Stand s.max_rows rows → AreMade rows s.max_slots rows slots → Sound (machine_of s rows slots).world
world-Sound s rows slots f a =
    let o : IsStore (store_of rows) = IsStore-of rows f.rising f.apart in
    record {
      store = o;
      fits = λ x h. let m = a.each x h in subst (λ (z : Slot). Fits (store_of rows) z.version) m.made (Fits-fresh (store_of rows) m.definition o);
      numbers = a.under;
      rising = a.rising;
      apart = opened-apart rows s.max_slots rows slots f.apart a;
      beside = opened-beside s.max_slots rows slots a;
      kinds = λ x h. let m = a.each x h in subst (λ (z : Slot). is_automatic z.version.definition ≡ begins_with_auto z.name) m.made m.kind;
      listed = opened-listed rows s.max_rows rows slots f s.max_slots a;
      notes = λ n h. absurd h;
      limits = record { rows = f.count; slots = a.count; notes = omega arith; etags = f.etags };
    }

none-AreMade : (all : List Row) (max : ℕ) → AreMade all max [] []
none-AreMade all max = record { rising = tt; under = λ x h. absurd h; filed = λ r h. absurd h; each = λ x h. absurd h; only = λ r h. absurd h; count = omega arith }

same_machine_of : (a b : Machine) → (let r : Result Machine ℕ = Ok a in r) ≡ Ok b → a ≡ b
same_machine_of a b h = cc

-- slots that have recorded nothing yet
abbrev AreFresh : List Slot → Type 0
AreFresh slots = (x : Slot) → Has slots x → x.version ≡ new_version x.version.definition

one-fresh : (s : Setting) (all : List Row) (n : ℕ) (slots : List Slot) (x : ReadRow) (more : List Slot) → AreFresh slots → slots_after s all n slots x ≡ Some more → AreFresh more
one-fresh s all n slots x more f h =
    let t = taken-of s all n slots x more h in
    elim (is_defining x.row) as (λ b. cond b (with_slot all slots x.row x.definition) (Some slots) ≡ Some more → AreFresh more) [
      | true ↦ λ g.
          let w = with_slot-is all slots x.row x.definition more g in
          subst AreFresh w.brought (λ y at. elim (Has-append slots (slot_of x.row w.definition ∷ []) y at) [
            | inl old ↦ f y old
            | inr (inl e) ↦ subst (λ (z : Slot). z.version ≡ new_version z.version.definition) e refl
            | inr (inr no_more) ↦ absurd no_more
          ])
      | false ↦ λ g. subst AreFresh (same_slots slots more g) f
    ] t.rest

all-fresh : (s : Setting) (all : List Row) (n : ℕ) (slots : List Slot) (xs : List ReadRow) (last : List Slot) → AreFresh slots → slots_from s all n slots xs ≡ Ok last → AreFresh last
all-fresh s all n slots [] last f h = subst AreFresh (same_opened slots last h) f
all-fresh s all n slots (x ∷ xs) last f h =
    elim (slots_after s all n slots x) as (λ o. slots_after s all n slots x ≡ o → and_then (or_bad x.row.etag o) (λ more. slots_from s all (n + 1) more xs) ≡ Ok last → AreFresh last) [
      | None ↦ λ e g. absurd cc
      | Some more ↦ λ e g. all-fresh s all (n + 1) more xs last (one-fresh s all n slots x more f e) g
    ] refl h

-- what holds of the machine whatever was read of the rows
pub record HoldsRows (s : Setting) (held : List KeptRow) (M : Machine) : Type 0 where
  pub kept : all_kept M.world.store.rows ≡ held
  pub setting : M.world.setting ≡ s
  pub notes : M.world.notes ≡ []
  pub idle : M.held ≡ []
  pub slots : (x : Slot) → Has M.world.slots x → x.version ≡ new_version x.version.definition

holds-rows : (s : Setting) (held : List KeptRow) (M : Machine) (xs : List ReadRow) → AreRowsOf s.max_rows held (rows_of xs)
    → (r : Result (List Slot) ℕ) → slots_from s (rows_of xs) 0 [] xs ≡ r → opened_with s (rows_of xs) r ≡ Ok M → HoldsRows s held M
holds-rows s held M xs f (Err etag) k g = absurd cc
holds-rows s held M xs f (Ok slots) k g =
    subst (HoldsRows s held) (same_machine_of (machine_of s (rows_of xs) slots) M g)
    (record { kept = f.kept; setting = refl; notes = refl; idle = refl; slots = all-fresh s (rows_of xs) 0 [] xs slots (λ x at. absurd at) k })

pub opened_from-rows : (s : Setting) (held : List KeptRow) (M : Machine) → OpenedFrom s held M → HoldsRows s held M
opened_from-rows s held M from = holds-rows s held M from.read (rows_in-AreRowsOf s.max_rows held (rows_of from.read) from.rows) (slots_from s (rows_of from.read) 0 [] from.read) refl from.opens

opened-sound : (s : Setting) (held : List KeptRow) (M : Machine) (xs : List ReadRow) → AreRowsOf s.max_rows held (rows_of xs) → HaveOwnDefinitions xs
    → (r : Result (List Slot) ℕ) → slots_from s (rows_of xs) 0 [] xs ≡ r → opened_with s (rows_of xs) r ≡ Ok M → Sound M.world
opened-sound s held M xs f told (Err etag) k g = absurd cc
opened-sound s held M xs f told (Ok slots) k g =
    let stand = f.stand in
    let a = slots_from-AreMade s (rows_of xs) 0 [] [] xs slots (none-AreMade (rows_of xs) s.max_slots) stand.rising told k in
    subst (λ (N : Machine). Sound N.world) (same_machine_of (machine_of s (rows_of xs) slots) M g) (world-Sound s (rows_of xs) slots f.stand a)

pub opened_from-Sound : (s : Setting) (held : List KeptRow) (M : Machine) → OpenedFaithfully s held M → Sound M.world
opened_from-Sound s held M o =
    let from = o.opened in opened-sound s held M from.read (rows_in-AreRowsOf s.max_rows held (rows_of from.read) from.rows) o.told (slots_from s (rows_of from.read) 0 [] from.read) refl from.opens

pub opened_from-IsMachine : (s : Setting) (held : List KeptRow) (M : Machine) → OpenedFaithfully s held M → IsMachine M
opened_from-IsMachine s held M o =
    let idle = (opened_from-rows s held M o.opened).idle in
    record { world = opened_from-Sound s held M o; held = λ h has. absurd (subst (λ all. Has all h) idle has) }
