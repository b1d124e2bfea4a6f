-- The stored rows of a machine open it again.
use Rattle.std.proofs.Common.{◌≡◌, ℕ, ◌+◌, ◌<◌, ◌≤◌, List, [], ◌∷◌, ◌++◌, true, false, not, cond, ◌&&◌, ◌||◌, nat_eq, nat_le, length, codes, drop, filter, Option, Some, None, option_map, Ok, refl, sym, ap, ◌∙◌, subst, arith, inl, inr, append_assoc, append-nil}
use Rattle.std.proofs.lemmas.Bool.Decides.{nat_tests}
use Rattle.std.proofs.lemmas.List.{length-append}
use Rattle.std.proofs.lemmas.Slice.Eq.{bytes_eq-Decides}
use Rattle.std.specs.List.{cons_option, filter_map, starts_with}
use Rattle.std.specs.Str.{bytes_eq}
use Rattle.spec_data.specs.Folding.{folded, same_key}
use Rattle.spec_data.specs.Kept.{KeptRow, all_kept}
use Rattle.spec_data.specs.Rows.{Row, key, is_document}
use Rattle.spec_store.specs.Commit.{Setting}
use Rattle.spec_server.specs.Requests.{Event}
use Rattle.spec_server.specs.Courses.{Machine}
use Rattle.spec_server.specs.Machine.{run}
use Rattle.index_tree.specs.Definitions.{Definition}
use Rattle.spec_server.specs.Opening.{ReadRow, is_defining, name_in, may_be_named, is_beside, is_filed, is_live, is_too_many, slot_of, with_slot, slots_with, slots_after, or_bad, and_then, slots_from, opened_with, rows_of}
use Rattle.spec_server.specs.Sound.{Has, IsBodyOf, Sound}
use Rattle.spec_store.specs.Store.{row_at}
use Rattle.spec_index.specs.World.{Slot, begins_with_replacement, new_version, index_id}
use Rattle.spec_store.proofs.StoreLemmas.{both_true, found_key, same_row}
use Rattle.raven_laws.proofs.EntryLemmas.{into-filter_map}
use Rattle.raven_laws.proofs.AnswerLemmas.{Has-filter_map}
use Rattle.raven_laws.proofs.OpenedRuns.{go-IsMachine, go-LaterW}
use Rattle.raven_laws.proofs.ListedLemmas.{body-live, index_joined}
use Rattle.raven_laws.proofs.OpenLemmas.{Has-found, folded-drop, opened_from-rows, opened_from-IsMachine}
use Rattle.raven_laws.proofs.SlotLemmas.{Has-map, Has-mapped, find-Has}
use Rattle.index_lang.specs.Openings.{AreReadRows, IsInBody, IsOpened, IsOpenedBy, IsReadIf, IsReadRow}
use Rattle.raven_reading.proofs.Once.{body_once}
use Rattle.raven_reopening.specs.Form.{AreEvents, IsKept}
use Rattle.raven_reopening.specs.Reopened.{IsThereAgain, WasThere, OpensAgain}
use Rattle.raven_reopening.proofs.ReadLemmas.{AreBack, rows_in-kept}
use Rattle.raven_reopening.proofs.FitLemmas.{named-other}
use Rattle.raven_reopening.proofs.LastLemmas.{AllLast, name-under}
use Rattle.raven_reopening.proofs.CountLemmas.{definitions, few-definitions, one_more}
use Rattle.raven_reading.proofs.TextLemmas.{opened-told}
use Rattle.raven_reopening.proofs.AgainLemmas.{Again, events-clients, run-Again}
use Rattle.raven_reopening.proofs.OpenedLemmas.{machine_of, opened-Again}
use Rattle.raven_reopening.proofs.VersionLemmas.{read-stored}

-- WHAT IS READ OF THE ROWS

-- a definition was read of the row, and may have the row's name
record IsMeant (rows : List Row) (x : ReadRow) : Type 0 where
  pub definition : Definition
  pub read : x.definition ≡ Some definition
  pub named : may_be_named definition (name_in x.row) ≡ true
  pub beside : is_beside rows (name_in x.row) ≡ true

-- one of these rows that opens again as it is read
record Lasting (rows : List Row) (x : ReadRow) : Type 0 where
  pub filed : is_filed x.row ≡ true
  pub right : IsReadRow x
  pub means : is_defining x.row ≡ true → IsMeant rows x

-- a live row of a definition is that of an index
record IsIndexed (M : Machine) (r : Row) : Type 0 where
  pub slot : Slot
  pub there : Has M.world.slots slot
  pub named : folded (name_in r) ≡ folded slot.name
  pub etag : r.etag ≡ slot.row
  pub body : IsBodyOf slot.version.definition r.body

indexed-row : (M : Machine) (r : Row) → Sound M.world → Has M.world.store.rows r → is_defining r ≡ true → IsIndexed M r
indexed-row M r o at e =
    let is = both_true (is_document r) (bytes_eq r.collection (codes "@indexes")) e in
    let found = Has-found M.world.store.rows r o.store.apart at in
    let x = o.listed.only (key r) r found is.0 ((bytes_eq-Decides r.collection (codes "@indexes")).0 is.1) in
    let i = o.listed.each x.0 x.1 in
    let same : i.row ≡ r = same_row i.row r (sym i.found ∙ ap (λ k. row_at k M.world.store.rows) (sym x.2) ∙ found) in
    record { slot = x.0; there = x.1; named = name-under r x.0.name x.2; etag = ap (λ (y : Row). y.etag) (sym same) ∙ i.etag; body = subst (λ (y : Row). IsBodyOf x.0.version.definition y.body) same i.body }

-- a replacement has the row of its index beside it
indexed-beside : (M : Machine) (name : List ℕ) (s : Slot) → Sound M.world → Has M.world.slots s → folded name ≡ folded s.name → is_beside M.world.store.rows name ≡ true
indexed-beside M name s o h named = elim (begins_with_replacement name) as (λ b. begins_with_replacement name ≡ b
    → not b || is_live (row_at (folded (index_id (cond b (drop 14 name) name))) M.world.store.rows) ≡ true) [
      | false ↦ λ e. refl
      | true ↦ λ e.
          let b = o.beside s h (ap (λ q. starts_with nat_eq q (codes "replacementof/")) (sym named) ∙ e) in
          let i = o.listed.each b.slot b.there in
          let rest : folded (drop 14 name) ≡ folded b.slot.name = folded-drop 14 name ∙ ap (drop 14) (named ∙ b.named) in
          ap (λ q. is_live (row_at q M.world.store.rows)) (index_joined (drop 14 name) b.slot.name rest) ∙ ap is_live i.found ∙ body-live b.slot.version.definition i.row i.body
    ] refl

-- a row with what is read of it
record IsOneRead (rows : List Row) (r : Row) : Type 0 where
  pub read : ReadRow
  pub row : read.row ≡ r
  pub lasting : Lasting rows read

one-read : (M : Machine) (r : Row) → Sound M.world → Again M.world → Has M.world.store.rows r → IsOneRead M.world.store.rows r
one-read M r o a at = elim (is_defining r) as (λ b. is_defining r ≡ b → IsOneRead M.world.store.rows r) [
  | true ↦ λ e.
      let i = indexed-row M r o at e in
      let d = i.slot.version.definition in
      let right = a.slots i.slot i.there in
      record {
        read = record { row = r; definition = Some d };
        row = refl;
        lasting = record {
          filed = (a.all r at).filed;
          right = subst (λ b. IsReadIf b r (Some d)) (sym e) (read-stored d r.body i.body right.read);
          means = λ _. record { definition = d; read = refl; named = named-other d (name_in r) i.slot.name i.named right.named; beside = indexed-beside M (name_in r) i.slot o i.there i.named };
        };
      }
  | false ↦ λ e. record {
    read = record { row = r; definition = None };
    row = refl;
    lasting = record { filed = (a.all r at).filed; right = subst (λ b. IsReadIf b r None) (sym e) refl; means = λ is. absurd cc };
  }
] refl

abbrev AreLasting : List Row → List ReadRow → Type 0
AreLasting rows [] = Unit {0}
AreLasting rows (x ∷ xs) = Lasting rows x × AreLasting rows xs

record AreAllRead (rows : List Row) (all : List Row) : Type 0 where
  pub read : List ReadRow
  pub they : rows_of read ≡ all
  pub lasting : AreLasting rows read

all-read : (M : Machine) (rows : List Row) → Sound M.world → Again M.world → ((r : Row) → Has rows r → Has M.world.store.rows r) → AreAllRead M.world.store.rows rows
all-read M [] o a among = record { read = []; they = refl; lasting = tt }
all-read M (r ∷ rows) o a among =
    let one = one-read M r o a (among r (inl refl)) in
    let more = all-read M rows o a (λ x at. among x (inr at)) in
    record { read = one.read ∷ more.read; they = λ i. one.row i ∷ more.they i; lasting = (one.lasting, more.lasting) }

all-right : (rows : List Row) (xs : List ReadRow) → AreLasting rows xs → AreReadRows xs
all-right rows [] l = tt
all-right rows (x ∷ xs) l = (let one = l.0 in one.right, all-right rows xs l.1)

one-lasting : (rows : List Row) (xs : List ReadRow) (x : ReadRow) → AreLasting rows xs → Has xs x → Lasting rows x
one-lasting rows [] x l h = absurd h
one-lasting rows (y ∷ xs) x l (inl e) = subst (Lasting rows) e l.0
one-lasting rows (y ∷ xs) x l (inr h) = one-lasting rows xs x l.1 h

-- THE SLOTS OF THE ROWS

-- the index of a row, if it is the live row of a definition
abbrev slot_in : ReadRow → Option Slot
slot_in x = cond (is_defining x.row) (option_map (slot_of x.row) x.definition) None

abbrev slots_in : List ReadRow → List Slot
slots_in xs = filter_map slot_in xs

not_too_many : (s : Setting) (n : ℕ) (slots : List Slot) (r : Row) (rows : List Row) → n + length (r ∷ rows) ≤ s.max_rows → length slots + definitions (r ∷ rows) ≤ s.max_slots → is_too_many s n slots r ≡ false
not_too_many s n slots r rows room few =
    ap (λ b. b || (is_defining r && nat_le s.max_slots (length slots))) below ∙ elim (is_defining r) as (λ b. length slots + length (cond b (r ∷ filter is_defining rows) (filter is_defining rows)) ≤ s.max_slots → b && nat_le s.max_slots (length slots) ≡ false) [
      | true ↦ λ le. fewer le
      | false ↦ λ le. refl
    ] few
  where
    below : nat_le s.max_rows n ≡ false
    below = let le : n < s.max_rows = omega arith in grind (arith, nat_tests, le)

    fewer : length slots + length (r ∷ filter is_defining rows) ≤ s.max_slots → nat_le s.max_slots (length slots) ≡ false
    fewer le = let lt : length slots < s.max_slots = omega arith in grind (arith, nat_tests, lt)

slot-of : (all : List Row) (slots : List Slot) (x : ReadRow) → Lasting all x → slots_with all slots x ≡ Some (slots ++ cons_option (slot_in x) [])
slot-of all slots x l = elim (is_defining x.row) as (λ b. is_defining x.row ≡ b
    → cond b (with_slot all slots x.row x.definition) (Some slots) ≡ Some (slots ++ cons_option (cond b (option_map (slot_of x.row) x.definition) None) [])) [
      | true ↦ λ e.
          let m = l.means e in
          ap (with_slot all slots x.row) m.read
          ∙ ap (λ b. cond (b && is_beside all (name_in x.row)) (Some (slots ++ slot_of x.row m.definition ∷ [])) None) m.named
          ∙ ap (λ b. cond b (Some (slots ++ slot_of x.row m.definition ∷ [])) None) m.beside
          ∙ ap (λ o. Some (slots ++ cons_option (option_map (slot_of x.row) o) [])) (sym m.read)
      | false ↦ λ e. ap Some (sym (append-nil slots))
    ] refl

next-slots : (s : Setting) (all : List Row) (n : ℕ) (slots : List Slot) (x : ReadRow) (rows : List Row) → Lasting all x → n + length (x.row ∷ rows) ≤ s.max_rows → length slots + definitions (x.row ∷ rows) ≤ s.max_slots
    → slots_after s all n slots x ≡ Some (slots ++ cons_option (slot_in x) [])
next-slots s all n slots x rows l room few =
    ap (λ b. cond (b || not (is_filed x.row)) None (slots_with all slots x)) (not_too_many s n slots x.row rows room few)
    ∙ ap (λ b. cond (not b) None (slots_with all slots x)) l.filed
    ∙ slot-of all slots x l

-- as many slots as rows of definitions
slot-count : (all : List Row) (x : ReadRow) → Lasting all x → length (cons_option (slot_in x) []) ≡ length (cond (is_defining x.row) (x.row ∷ []) [])
slot-count all x l = elim (is_defining x.row) as (λ b. is_defining x.row ≡ b → length (cons_option (cond b (option_map (slot_of x.row) x.definition) None) []) ≡ length (cond b (x.row ∷ []) [])) [
  | true ↦ λ e. let m = l.means e in ap (λ o. length (cons_option (option_map (slot_of x.row) o) [])) m.read
  | false ↦ λ e. refl
] refl

one_then : (o : Option Slot) (slots : List Slot) → cons_option o [] ++ slots ≡ cons_option o slots
one_then None slots = refl
one_then (Some s) slots = refl

slots-again : (s : Setting) (all : List Row) (n : ℕ) (slots : List Slot) (xs : List ReadRow) → AreLasting all xs → n + length (rows_of xs) ≤ s.max_rows → length slots + definitions (rows_of xs) ≤ s.max_slots
    → slots_from s all n slots xs ≡ Ok (slots ++ slots_in xs)
slots-again s all n slots [] these room few = ap Ok (sym (append-nil slots))
slots-again s all n slots (x ∷ xs) these room few =
    let l = these.0 in
    let more = slots ++ cons_option (slot_in x) [] in
    let long = length-append slots (cons_option (slot_in x) []) in
    let count = slot-count all x l in
    let split = one_more x.row (rows_of xs) in
    ap (λ o. and_then (or_bad x.row.etag o) (λ y. slots_from s all (n + 1) y xs)) (next-slots s all n slots x (rows_of xs) l room few)
    ∙ slots-again s all (n + 1) more xs these.1 (omega arith) (omega arith)
    ∙ ap Ok (append_assoc slots (cons_option (slot_in x) []) (slots_in xs) ∙ ap (λ ys. slots ++ ys) (one_then (slot_in x) (slots_in xs)))

all-back : (rows : List Row) → AllLast rows → AreBack rows
all-back [] all = tt
all-back (r ∷ rows) all = ((all r (inl refl)).back, all-back rows (λ x at. all x (inr at)))

opens-again : (s : Setting) (M : Machine) (all : AreAllRead M.world.store.rows M.world.store.rows) → M.world.setting ≡ s → Sound M.world → Again M.world
    → IsOpened s (all_kept M.world.store.rows) (Ok (machine_of s M.world.store.rows (slots_in all.read)))
opens-again s M all same o a =
    let rows = M.world.store.rows in
    let room : length rows ≤ s.max_rows = subst (λ (x : Setting). length rows ≤ x.max_rows) same o.limits.rows in
    let few : definitions rows ≤ s.max_slots = let b = few-definitions M o in let c = subst (λ (x : Setting). length M.world.slots ≤ x.max_slots) same o.limits.slots in omega arith in
    let read_room : length (rows_of all.read) ≤ s.max_rows = subst (λ xs. length xs ≤ s.max_rows) (sym all.they) room in
    let read_few : definitions (rows_of all.read) ≤ s.max_slots = subst (λ xs. definitions xs ≤ s.max_slots) (sym all.they) few in
    subst (λ r. IsOpenedBy s r (Ok (machine_of s rows (slots_in all.read)))) (sym (rows_in-kept M.world.store s.max_rows o.store (all-back rows a.all) room)) (record {
      read = all.read;
      rows = all.they;
      right = all-right rows all.read all.lasting;
      opened = ap (opened_with s (rows_of all.read)) (slots-again s rows 0 [] all.read all.lasting (omega arith) (omega arith)) ∙ ap (λ xs. Ok (machine_of s xs (slots_in all.read))) all.they;
    })

-- THE INDEXES ARE THERE AGAIN

same_definition : (a b : Definition) → Some a ≡ Some b → a ≡ b
same_definition a b h = cc

-- what is read of the row of an index is its definition
own-definition : (M : Machine) (x : ReadRow) (s : Slot) (d : Definition) → Again M.world → Has M.world.slots s → IsBodyOf s.version.definition x.row.body → IsReadRow x → is_defining x.row ≡ true → x.definition ≡ Some d
    → d ≡ s.version.definition
own-definition M x s d a h body right is read =
    let mine : IsInBody x.row.body (Some d) = subst (IsInBody x.row.body) read (subst (λ b. IsReadIf b x.row x.definition) is right) in
    let its : IsInBody x.row.body (Some s.version.definition) = read-stored s.version.definition x.row.body body (a.slots s h).read in
    same_definition d s.version.definition (body_once x.row.body (Some d) (Some s.version.definition) mine its)

there-again : (M : Machine) (s : Slot) (all : AreAllRead M.world.store.rows M.world.store.rows) → Sound M.world → Again M.world → Has M.world.slots s → IsThereAgain (slots_in all.read) s
there-again M s all o a h =
    let i = o.listed.each s h in
    let r = i.row in
    let rows = M.world.store.rows in
    let at = (find-Has (λ x. same_key (folded (index_id s.name)) (key x)) rows r i.found).0 in
    let x = Has-map (λ (y : ReadRow). y.row) all.read r (subst (λ xs. Has xs r) (sym all.they) at) in
    by x.0 x.1 x.2
  where
    by : (x : ReadRow) → Has all.read x → x.row ≡ (o.listed.each s h).row → IsThereAgain (slots_in all.read) s
    by x at same =
        let i = o.listed.each s h in
        let live : is_document x.row ≡ true = ap is_document same ∙ body-live s.version.definition i.row i.body in
        let kept : x.row.collection ≡ codes "@indexes" = ap (λ (y : Row). y.collection) same ∙ i.collection in
        let defining : is_defining x.row ≡ true = ap (λ b. b && bytes_eq x.row.collection (codes "@indexes")) live ∙ (bytes_eq-Decides x.row.collection (codes "@indexes")).1 kept in
        let l = one-lasting M.world.store.rows all.read x all.lasting at in
        let m = l.means defining in
        let own = own-definition M x s m.definition a h (subst (λ (y : Row). IsBodyOf s.version.definition y.body) (sym same) i.body) l.right defining m.read in
        let slot : slot_in x ≡ Some (slot_of x.row m.definition) = ap (λ b. cond b (option_map (slot_of x.row) x.definition) None) defining ∙ ap (option_map (slot_of x.row)) m.read in
        record {
          slot = slot_of x.row m.definition;
          there = into-filter_map slot_in all.read x (slot_of x.row m.definition) at slot;
          named = name-under x.row s.name (ap key same ∙ sym (found_key (folded (index_id s.name)) M.world.store.rows i.row i.found));
          numbered = ap (λ (y : Row). y.etag) same ∙ i.etag;
          anew = ap new_version own;
        }

same_slot : (a b : Slot) → Some a ≡ Some b → a ≡ b
same_slot a b h = cc

came-from : (M : Machine) (s : Slot) (all : AreAllRead M.world.store.rows M.world.store.rows) → Sound M.world → Again M.world → Has (slots_in all.read) s → WasThere M.world.slots s
came-from M s all o a h = let x = Has-filter_map slot_in all.read s h in by x.0 x.1 x.2
  where
    by : (x : ReadRow) → Has all.read x → slot_in x ≡ Some s → WasThere M.world.slots s
    by x at e = elim (is_defining x.row) as (λ b. is_defining x.row ≡ b → cond b (option_map (slot_of x.row) x.definition) None ≡ Some s → WasThere M.world.slots s) [
      | false ↦ λ d g. absurd cc
      | true ↦ λ d g.
          let there = subst (λ xs. Has xs x.row) all.they (Has-mapped (λ (y : ReadRow). y.row) all.read x at) in
          let i = indexed-row M x.row o there d in
          let l = one-lasting M.world.store.rows all.read x all.lasting at in
          let m = l.means d in
          let own = own-definition M x i.slot m.definition a i.there i.body l.right d m.read in
          let made : slot_of x.row m.definition ≡ s = same_slot (slot_of x.row m.definition) s (sym (ap (option_map (slot_of x.row)) m.read) ∙ g) in
          record {
            slot = i.slot;
            there = i.there;
            named = ap (λ (y : Slot). folded y.name) (sym made) ∙ i.named;
            numbered = ap (λ (y : Slot). y.number) (sym made) ∙ i.etag;
            anew = ap (λ (y : Slot). y.version) (sym made) ∙ ap new_version own;
          }
    ] refl e

-- AFTER A RUN

again-opens : (s : Setting) (M : Machine) → M.world.setting ≡ s → Sound M.world → Again M.world → OpensAgain s M.world
again-opens s M same o a =
    let all = all-read M M.world.store.rows o a (λ r at. at) in
    record {
      machine = machine_of s M.world.store.rows (slots_in all.read);
      opens = opens-again s M all same o a;
      store = refl;
      setting = refl;
      notes = refl;
      indexes = λ x h. there-again M x all o a h;
      no_more = λ x h. came-from M x all o a h;
    }

pub run-opens : (s : Setting) (held : List KeptRow) (M : Machine) (es : List Event) → IsOpened s held (Ok M) → AreEvents es → OpensAgain s (run es M).world
run-opens s held M es h fits =
    let from = opened-told s held M h in
    let i = opened_from-IsMachine s held M from in
    let clients = events-clients es fits in
    again-opens s (run es M) ((go-LaterW M es i clients).setting ∙ (opened_from-rows s held M from.opened).setting) (go-IsMachine M es i clients).world
    (run-Again es M fits i (opened-Again s held M h))

-- each automatic index has paths that can be kept
pub run-kept : (s : Setting) (held : List KeptRow) (M : Machine) (es : List Event) → IsOpened s held (Ok M) → AreEvents es → (x : Slot) → Has (run es M).world.slots x → IsKept x.version.definition
run-kept s held M es h fits x at = ((run-Again es M fits (opened_from-IsMachine s held M (opened-told s held M h)) (opened-Again s held M h)).slots x at).kept
