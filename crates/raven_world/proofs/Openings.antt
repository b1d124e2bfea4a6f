-- How a world is opened by one row after another.
use Rattle.std.proofs.Common.{◌≡◌, ◌<◌, ◌≤◌, ◌+◌, ℕ, suc, List, [], ◌∷◌, ◌++◌, length, Bool, true, false, not, ◌&&◌, ◌||◌, Option, Some, None, Result, Ok, Err, drop, refl, sym, ap, ◌∙◌, subst, arith, codes, get_or, IfOk, IsUtf8}
use Rattle.std.proofs.lemmas.Grind.{common_steps}
use Rattle.std.specs.Prelude.{nat_eq, if◌then◌else◌}
use Rattle.std.specs.List.{starts_with}
use Rattle.std.specs.Str.{bytes_eq, IsCharBoundary}
use Rattle.std.proofs.lemmas.Str.{IsCharBoundary-after_ascii}
use Rattle.std.proofs.lemmas.List.{append_assoc, append-nil, drop_more, length-append, length-map, map-append}
use Rattle.std.proofs.lemmas.List.Elements.{All-cons, All-nil}
use Rattle.std.specs.Char.{to_ascii_lowercase}
use Rattle.spec_data.specs.Folding.{folded}
use Rattle.spec_data.specs.Rows.{Row, is_document}
use Rattle.spec_store.specs.Commit.{Setting, is_index_id}
use Rattle.spec_store.specs.Store.{AreRising, IsStore, Store, last_of, store_of}
use Rattle.spec_store.proofs.StoreLemmas.{both_true}
use Rattle.spec_server.specs.Courses.{Machine}
use Rattle.spec_server.specs.Machine.{machine_of}
use Rattle.index_tree.specs.Definitions.{Definition}
use Rattle.spec_server.specs.Opening.{ReadRow, and_then, is_beside, is_defining, is_filed, is_too_many, may_be_named, name_in, opened_with, or_bad, rows_of, slot_of, slots_after, slots_from, slots_with, with_slot}
use Rattle.spec_index.specs.World.{NumbersRise, Slot, begins_with_replacement, new_version}
use Rattle.index_lang.specs.Openings.{AreReadRows, EndsAt, IsReadRow, OpensAs}
use Rattle.side_by_side.specs.Naming.{RiseTo}
use Rattle.raven_world.specs.Opened.{HasRead}
use Rattle.raven_world.specs.Roomy.{NumbersUpTo}
use Rattle.raven_world.proofs.Names.{both, if_some, never_right}

-- THE NAME IN AN ID

slash_is_ascii : (b : ℕ) → nat_eq 47 (to_ascii_lowercase b) ≡ true → b < 128
slash_is_ascii b h = grind (arith, common_steps)

-- what begins with a text that ends in a slash has a character that ends there
ends_whole : (front id : List ℕ) → starts_with nat_eq (folded id) (front ++ 47 ∷ []) ≡ true → (length front < length id) × (get_or id (length front) 0 < 128)
ends_whole [] [] h = absurd cc
ends_whole [] (b ∷ bs) h = (omega arith, slash_is_ascii b (both_true (nat_eq 47 (to_ascii_lowercase b)) _ h).0)
ends_whole (x ∷ front) [] h = absurd cc
ends_whole (x ∷ front) (b ∷ bs) h = let more = ends_whole front bs (both_true (nat_eq x (to_ascii_lowercase b)) _ h).1 in (omega (arith, more.0), more.1)

pub index-boundary : (id : List ℕ) → is_index_id id ≡ true → IsUtf8 id → IsCharBoundary id 7
index-boundary id h u = let whole = ends_whole (codes "@index") id h in IsCharBoundary-after_ascii id 6 u whole.0 whole.1

pub replacement-boundary : (name : List ℕ) → begins_with_replacement name ≡ true → IsUtf8 name → IsCharBoundary name 14
replacement-boundary name h u = let whole = ends_whole (codes "replacementof") name h in IsCharBoundary-after_ascii name 13 u whole.0 whole.1

-- THE INDEX OF A ROW

abbrev named : Definition → List ℕ → Option (List ℕ)
named d name = if may_be_named d name then Some name else None

pub slot-alone : (all : List Row) (slots : List Slot) (r : Row) (d : Definition) (name got : List ℕ) → name ≡ name_in r → Some got ≡ named d name → is_beside all got ≡ false → None ≡ with_slot all slots r (Some d)
slot-alone all slots r d name got own h alone =
    let same : got ≡ name_in r = (if_some (may_be_named d name) name got h).1 ∙ own in
    ap (λ b. if b then Some (slots ++ slot_of r d ∷ []) else None)
    (sym (never_right (may_be_named d (name_in r)) (is_beside all (name_in r)) (ap (is_beside all) (sym same) ∙ alone)))

pub slot-some : (all : List Row) (slots : List Slot) (r : Row) (d : Definition) (name got : List ℕ) (slot : Slot) → name ≡ name_in r → Some got ≡ named d name → is_beside all got ≡ true
    → slot ≡ record { number = r.etag; name = got; version = new_version d; row = r.etag } → Some (slots ++ slot ∷ []) ≡ with_slot all slots r (Some d)
slot-some all slots r d name got slot own h beside made =
    let read = if_some (may_be_named d name) name got h in
    let same : got ≡ name_in r = read.1 ∙ own in
    ap (λ x. Some (slots ++ x ∷ [])) (made ∙ ap (λ n. let s : Slot = record { number = r.etag; name = n; version = new_version d; row = r.etag } in s) same)
    ∙ ap (λ b. if b then Some (slots ++ slot_of r d ∷ []) else None)
    (sym (both (may_be_named d (name_in r)) (is_beside all (name_in r)) (ap (may_be_named d) (sym own) ∙ read.0) (ap (is_beside all) (sym same) ∙ beside)))

-- ONE ROW

either : (a b : Bool) (x : Option (List Slot)) → a ≡ true → (let o : Option (List Slot) = None in o) ≡ (if a || b then None else x)
either true b x h = refl
either false b x h = absurd cc

or_other : (a b : Bool) (x : Option (List Slot)) → b ≡ true → (let o : Option (List Slot) = None in o) ≡ (if a || b then None else x)
or_other true b x h = refl
or_other false true x h = refl
or_other false false x h = absurd cc

neither : (a b : Bool) (x : Option (List Slot)) → a ≡ false → b ≡ false → x ≡ (if a || b then None else x)
neither true b x h g = absurd cc
neither false true x h g = absurd cc
neither false false x h g = refl

pub too-many : (s : Setting) (all : List Row) (count : ℕ) (slots : List Slot) (x : ReadRow) → is_too_many s count slots x.row ≡ true → None ≡ slots_after s all count slots x
too-many s all count slots x h = either (is_too_many s count slots x.row) (not (is_filed x.row)) (slots_with all slots x) h

pub unfiled : (s : Setting) (all : List Row) (count : ℕ) (slots : List Slot) (x : ReadRow) → is_filed x.row ≡ false → None ≡ slots_after s all count slots x
unfiled s all count slots x h = or_other (is_too_many s count slots x.row) (not (is_filed x.row)) (slots_with all slots x) (ap not h)

good : (s : Setting) (all : List Row) (count : ℕ) (slots : List Slot) (x : ReadRow) → is_too_many s count slots x.row ≡ false → is_filed x.row ≡ true → slots_with all slots x ≡ slots_after s all count slots x
good s all count slots x few filed = neither (is_too_many s count slots x.row) (not (is_filed x.row)) (slots_with all slots x) few (ap not filed)

pub plain : (s : Setting) (all : List Row) (count : ℕ) (slots : List Slot) (x : ReadRow) → is_too_many s count slots x.row ≡ false → is_filed x.row ≡ true → is_defining x.row ≡ false → Some slots ≡ slots_after s all count slots x
plain s all count slots x few filed h = ap (λ b. if b then with_slot all slots x.row x.definition else Some slots) (sym h) ∙ good s all count slots x few filed

pub defines : (s : Setting) (all : List Row) (count : ℕ) (slots : List Slot) (x : ReadRow) → is_too_many s count slots x.row ≡ false → is_filed x.row ≡ true → is_defining x.row ≡ true → with_slot all slots x.row x.definition ≡ slots_after s all count slots x
defines s all count slots x few filed h = ap (λ b. if b then with_slot all slots x.row x.definition else Some slots) (sym h) ∙ good s all count slots x few filed

pub filed-index : (r : Row) → is_filed r ≡ true → is_defining r ≡ true → is_index_id r.id ≡ true
filed-index r filed defining =
    let own : bytes_eq r.collection (codes "@indexes") ≡ true = (both_true (is_document r) _ defining).1 in
    sym (ap (λ b. if b then is_index_id r.id else not (is_index_id r.id)) own) ∙ filed

pub ruleset takes = (too-many, unfiled, plain, defines, filed-index)

-- ALL ROWS

-- one row more
one_more : (s : Setting) (all : List Row) (count : ℕ) (slots mid : List Slot) (xs : List ReadRow) (x : ReadRow) → slots_from s all count slots xs ≡ Ok mid
    → slots_from s all count slots (xs ++ x ∷ []) ≡ and_then (or_bad x.row.etag (slots_after s all (count + length xs) mid x)) (λ more. Ok more)
one_more s all count slots mid [] x h =
    let own : slots ≡ mid = cc in
    let none : count ≡ count + 0 = omega arith in
    λ i. and_then (or_bad x.row.etag (slots_after s all (none i) (own i) x)) (λ more. Ok more)
one_more s all count slots mid (y ∷ xs) x h = by (or_bad y.row.etag (slots_after s all count slots y)) h (λ more g. one_more s all (count + 1) more mid xs x g)
  where
    by : (one : Result (List Slot) ℕ) → and_then one (λ more. slots_from s all (count + 1) more xs) ≡ Ok mid
        → ((more : List Slot) → slots_from s all (count + 1) more xs ≡ Ok mid
        → slots_from s all (count + 1) more (xs ++ x ∷ []) ≡ and_then (or_bad x.row.etag (slots_after s all ((count + 1) + length xs) mid x)) (λ more. Ok more))
        → and_then one (λ more. slots_from s all (count + 1) more (xs ++ x ∷ [])) ≡ and_then (or_bad x.row.etag (slots_after s all (count + suc (length xs)) mid x)) (λ more. Ok more)
    by (Err etag) g on = absurd cc
    by (Ok more) g on =
        let place : (count + 1) + length xs ≡ count + suc (length xs) = omega arith in
        on more g ∙ ap (λ n. and_then (or_bad x.row.etag (slots_after s all n mid x)) (λ more. Ok more)) place

behind : (xs : List ReadRow) (x : ReadRow) (rows : List Row) (count : ℕ) → count < length rows → get_or rows count x.row ≡ x.row → rows_of xs ++ drop count rows ≡ rows → rows_of (xs ++ x ∷ []) ++ drop (count + 1) rows ≡ rows
behind xs x rows count lt is own =
    ap (λ ys. ys ++ drop (count + 1) rows) (map-append (λ (y : ReadRow). y.row) xs (x ∷ []))
    ∙ append_assoc (rows_of xs) (x.row ∷ []) (drop (count + 1) rows)
    ∙ ap (λ ys. rows_of xs ++ ys) (sym (drop_more rows count x.row lt ∙ ap (λ y. y ∷ drop (count + 1) rows) is))
    ∙ own

right_behind : (xs : List ReadRow) (x : ReadRow) → AreReadRows xs → IsReadRow x → AreReadRows (xs ++ x ∷ [])
right_behind [] x h g = (g, tt)
right_behind (y ∷ xs) x h g = (h.0, right_behind xs x h.1 g)

taken_here : (s : Setting) (all : List Row) (slots : List Slot) (xs : List ReadRow) (x : ReadRow) (count : ℕ) → length xs ≡ count → slots_from s all 0 [] xs ≡ Ok slots
    → slots_from s all 0 [] (xs ++ x ∷ []) ≡ and_then (or_bad x.row.etag (slots_after s all count slots x)) (λ more. Ok more)
taken_here s all slots xs x count own h =
    let place : 0 + length xs ≡ count = (let front : 0 + length xs ≡ length xs = omega arith in front ∙ own) in
    one_more s all 0 [] slots xs x h ∙ ap (λ n. and_then (or_bad x.row.etag (slots_after s all n slots x)) (λ more. Ok more)) place

pub none-read : (s : Setting) (rows : List Row) → HasRead s rows 0 []
none-read s rows = record { read = []; rows = refl; count = refl; right = tt; slots = refl }

pub one-read : (s : Setting) (rows : List Row) (count : ℕ) (slots new : List Slot) (x : ReadRow) → count < length rows → get_or rows count x.row ≡ x.row → IsReadRow x → Some new ≡ slots_after s rows count slots x
    → HasRead s rows count slots → HasRead s rows (count + 1) new
one-read s rows count slots new x lt is right taken h = record {
  read = h.read ++ x ∷ [];
  rows = behind h.read x rows count lt is h.rows;
  count = length-append h.read (x ∷ []) ∙ ap (λ n. n + 1) h.count;
  right = right_behind h.read x h.right right;
  slots = taken_here s rows slots h.read x count h.count h.slots ∙ ap (λ o. and_then (or_bad x.row.etag o) (λ more. Ok more)) (sym taken);
}

pub ends-here : (s : Setting) (rows : List Row) (count : ℕ) (slots : List Slot) (x : ReadRow) → count < length rows → get_or rows count x.row ≡ x.row → IsReadRow x → None ≡ slots_after s rows count slots x
    → HasRead s rows count slots → EndsAt s rows x.row.etag
ends-here s rows count slots x lt is right taken h = record {
  read = h.read ++ x ∷ [];
  unread = drop (count + 1) rows;
  rows = behind h.read x rows count lt is h.rows;
  right = right_behind h.read x h.right right;
  bad = ap (opened_with s (rows_of (h.read ++ x ∷ []))) (taken_here s rows slots h.read x count h.count h.slots ∙ ap (λ o. and_then (or_bad x.row.etag o) (λ more. Ok more)) (sym taken));
}

-- THE WORLD

none_left : (rows : List Row) → drop (length rows) rows ≡ []
none_left rows = grind (arith, common_steps)

pub opens : (s : Setting) (rows : List Row) (count : ℕ) (store : Store) (slots : List Slot) → count ≡ length rows → store ≡ store_of rows → HasRead s rows count slots
    → OpensAs s rows (machine_of (record { setting = s; store = store; slots = slots; notes = [] }))
opens s rows count store slots all is h =
    let whole : rows_of h.read ≡ rows = sym (append-nil (rows_of h.read)) ∙ ap (λ ys. rows_of h.read ++ ys) (sym (ap (λ n. drop n rows) all ∙ none_left rows)) ∙ h.rows in
    record {
      read = h.read;
      rows = whole;
      right = h.right;
      opened = ap (opened_with s (rows_of h.read)) h.slots
          ∙ (λ i. Ok (let m : Machine = machine_of (record { setting = s; store = store_of (whole i); slots = slots; notes = [] }) in m))
          ∙ ap (λ (S : Store). Ok (machine_of (record { setting = s; store = S; slots = slots; notes = [] }))) (sym is);
    }

pub ruleset opening = (none-read, one-read, ends-here, opens)

-- THE NUMBERS

-- the rows of a store rise
pub rows-rise : (S : Store) (rows : List Row) → S ≡ store_of rows → IsStore S → AreRising 0 rows
rows-rise S rows is h = subst (λ (T : Store). AreRising 0 T.rows) is h.rising

-- the slots of rows that rise, so far
rise-push : (low latest : ℕ) (slots : List Slot) (new : Slot) → RiseTo low latest slots → latest < new.number → RiseTo low new.number (slots ++ new ∷ [])
rise-push low latest [] new up lt = let a : low ≤ latest = up in (omega (arith, a, lt), let same : new.number ≤ new.number = omega arith in same)
rise-push low latest (s ∷ slots) new up lt = (up.0, rise-push s.number latest slots new up.1 lt)

rise-on : (low latest next : ℕ) (slots : List Slot) → RiseTo low latest slots → latest ≤ next → RiseTo low next slots
rise-on low latest next [] up le = let a : low ≤ latest = up in omega (arith, a, le)
rise-on low latest next (s ∷ slots) up le = (up.0, rise-on s.number latest next slots up.1 le)

rise-one : (all : List Row) (latest : ℕ) (slots more : List Slot) (r : Row) (d : Option Definition) (defines : Bool) → RiseTo 0 latest slots → latest < r.etag
    → (if defines then with_slot all slots r d else Some slots) ≡ Some more → RiseTo 0 r.etag more
rise-one all latest slots more r d false up lt h = let same : slots ≡ more = cc in subst (RiseTo 0 r.etag) same (rise-on 0 latest r.etag slots up (omega (arith, lt)))
rise-one all latest slots more r None true up lt h = absurd cc
rise-one all latest slots more r (Some d) true up lt h = by (may_be_named d (name_in r) && is_beside all (name_in r)) h
  where
    by : (b : Bool) → (if b then Some (slots ++ slot_of r d ∷ []) else None) ≡ Some more → RiseTo 0 r.etag more
    by true g = let same : slots ++ slot_of r d ∷ [] ≡ more = cc in subst (RiseTo 0 r.etag) same (rise-push 0 latest slots (slot_of r d) up lt)
    by false g = absurd cc

rise-after : (s : Setting) (all : List Row) (count latest : ℕ) (slots more : List Slot) (x : ReadRow) → RiseTo 0 latest slots → latest < x.row.etag → slots_after s all count slots x ≡ Some more → RiseTo 0 x.row.etag more
rise-after s all count latest slots more x up lt h = by (is_too_many s count slots x.row || not (is_filed x.row)) h
  where
    by : (b : Bool) → (if b then None else slots_with all slots x) ≡ Some more → RiseTo 0 x.row.etag more
    by true g = absurd cc
    by false g = rise-one all latest slots more x.row x.definition (is_defining x.row) up lt g

rise-all : (s : Setting) (all : List Row) (count latest : ℕ) (slots found : List Slot) (xs : List ReadRow) → RiseTo 0 latest slots → AreRising latest (rows_of xs) → slots_from s all count slots xs ≡ Ok found
    → RiseTo 0 (last_of latest (rows_of xs)) found
rise-all s all count latest slots found [] up rise h = let same : slots ≡ found = cc in subst (RiseTo 0 latest) same up
rise-all s all count latest slots found (x ∷ xs) up rise h = by (slots_after s all count slots x) refl h (λ more above g. rise-all s all (count + 1) x.row.etag more found xs above rise.1 g)
  where
    by : (o : Option (List Slot)) → slots_after s all count slots x ≡ o → and_then (or_bad x.row.etag o) (λ more. slots_from s all (count + 1) more xs) ≡ Ok found
        → ((more : List Slot) → RiseTo 0 x.row.etag more → slots_from s all (count + 1) more xs ≡ Ok found → RiseTo 0 (last_of x.row.etag (rows_of xs)) found)
        → RiseTo 0 (last_of x.row.etag (rows_of xs)) found
    by None e g on = absurd cc
    by (Some more) e g on = on more (rise-after s all count latest slots more x up rise.0 e) g

rises : (low latest : ℕ) (slots : List Slot) → RiseTo low latest slots → NumbersRise low slots
rises low latest [] up = tt
rises low latest (s ∷ slots) up = (up.0, rises s.number latest slots up.1)

up-to : (low latest : ℕ) (slots : List Slot) → RiseTo low latest slots → (low ≤ latest) × NumbersUpTo latest slots
up-to low latest [] up = (up, All-nil (λ (s : Slot). s.number ≤ latest))
up-to low latest (s ∷ slots) up =
    let more = up-to s.number latest slots up.1 in
    (let a = up.0 in let b = more.0 in omega (arith, a, b), All-cons (λ (s : Slot). s.number ≤ latest) s slots more.0 more.1)

-- no row is left when so many are read
pub all-read : (s : Setting) (rows : List Row) (count : ℕ) (slots : List Slot) → length rows ≤ count → HasRead s rows count slots → count ≡ length rows
all-read s rows count slots many h =
    let parts = ap length (sym h.rows) ∙ length-append (rows_of h.read) (drop count rows) in
    let as_many : length (rows_of h.read) ≡ count = length-map h.read (λ (x : ReadRow). x.row) ∙ h.count in
    omega (arith, parts, as_many, many)

-- all rows are read
pub all-rise : (s : Setting) (rows : List Row) (count : ℕ) (slots : List Slot) → count ≡ length rows → AreRising 0 rows → HasRead s rows count slots → RiseTo 0 (last_of 0 rows) slots
all-rise s rows count slots all rise h =
    let whole : rows_of h.read ≡ rows = sym (append-nil (rows_of h.read)) ∙ ap (λ ys. rows_of h.read ++ ys) (sym (ap (λ n. drop n rows) all ∙ none_left rows)) ∙ h.rows in
    subst (λ rs. RiseTo 0 (last_of 0 rs) slots) whole
    (rise-all s rows 0 0 [] slots h.read (let none : 0 ≤ 0 = omega arith in none) (subst (AreRising 0) (sym whole) rise) h.slots)

pub opened-rise : (s : Setting) (rows : List Row) (count : ℕ) (slots : List Slot) → count ≡ length rows → AreRising 0 rows → HasRead s rows count slots → NumbersRise 0 slots
opened-rise s rows count slots all rise h = rises 0 (last_of 0 rows) slots (all-rise s rows count slots all rise h)

pub opened-numbers : (s : Setting) (rows : List Row) (count : ℕ) (slots : List Slot) → count ≡ length rows → AreRising 0 rows → HasRead s rows count slots → NumbersUpTo (last_of 0 rows) slots
opened-numbers s rows count slots all rise h = (up-to 0 (last_of 0 rows) slots (all-rise s rows count slots all rise h)).1

-- what holds of a result holds of it in other words
pub if-ok : {T E : Type 0} (r : Result T E) (P Q : T → Type 0) → ((t : T) → P t → Q t) → IfOk r P → IfOk r Q
if-ok (Ok t) P Q f h = f t h
if-ok (Err e) P Q f h = tt
