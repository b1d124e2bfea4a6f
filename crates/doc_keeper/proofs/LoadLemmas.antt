-- Rows are loaded one page after another.
use Rattle.std.proofs.Common.{◌≡◌, ℕ, zero, suc, ◌<◌, ◌≤◌, ◌+◌, ◌-◌, ◌*◌, ◌^◌, List, [], ◌∷◌, ◌++◌, Bool, true, false, cond, is_some, Option, Some, None, option_map, IfSome, Result, Err, IsTrue, ◌↔◌, filter, length, take, drop, min, refl, sym, ap, ◌∙◌, subst, arith}
use Rattle.std.proofs.lemmas.Bool.{ltb-true, lt-ltb, le-ltb}
use Rattle.std.proofs.lemmas.List.{append_assoc, append-nil, length-append, length-take, take-append-drop}
use Rattle.spec_data.specs.Kept.{KeptRow, EtagsRise, is_past, last_kept}
use Rattle.spec_data.specs.Rows.{Row}
use Rattle.spec_store.specs.Kept.{row_in, rows_in}
use Rattle.spec_store.proofs.StoreLemmas.{both_true}
use Rattle.raven_ports.proofs.RisingLemmas.{IsPast, last_on, past_on, rises_on}
use Rattle.raven_ports.specs.Faults.{Rose}
use Rattle.raven_ports.specs.Plan.{Plan, calls_later, one_later}
use Rattle.doc_keeper.specs.Reading.{has_place, judged, or_stop, read_on, row_with_place}
use Rattle.doc_keeper.specs.Loading.{AreCalls, IsCause, IsLoaded, IsPage, IsPageFault}
use Rattle.doc_keeper.specs.declared.loading.LoadFault.{LoadFault}
use Rattle.doc_keeper.specs.declared.loading.LoadFault.TheVariants.{Failed, KeptBad, NoMemory}
use Rattle.doc_keeper.proofs.ReadLemmas.{bad_read, rows_in-judged}

-- PART AFTER PART

abbrev pub then_read : ℕ → List Row × Option ℕ → List KeptRow → List Row × Option ℕ
then_read max p ks = elim p.1 [ None ↦ read_on max p.0 ks | Some etag ↦ p ]

read_on-append : (max : ℕ) (earlier : List Row) (xs ys : List KeptRow) → read_on max earlier (xs ++ ys) ≡ then_read max (read_on max earlier xs) ys
read_on-append max earlier [] ys = refl
read_on-append max earlier (k ∷ xs) ys =
    elim (row_with_place max earlier (row_in k)) as (λ o. or_stop earlier k.etag o (λ r. read_on max (earlier ++ r ∷ []) (xs ++ ys)) ≡ then_read max (or_stop earlier k.etag o (λ r. read_on max (earlier ++ r ∷ []) xs)) ys) [
      | None ↦ refl
      | Some r ↦ read_on-append max (earlier ++ r ∷ []) xs ys
    ]

-- after what is good the rest is read
pub passed : (max : ℕ) (earlier more : List Row) (xs ys : List KeptRow) → read_on max earlier xs ≡ (more, None) → read_on max earlier (xs ++ ys) ≡ read_on max more ys
passed max earlier more xs ys is = read_on-append max earlier xs ys ∙ ap (λ p. then_read max p ys) is

-- what is bad among the first is so among all
pub stopped : (max : ℕ) (earlier more : List Row) (etag : ℕ) (xs ys : List KeptRow) → read_on max earlier xs ≡ (more, Some etag) → read_on max earlier (xs ++ ys) ≡ (more, Some etag)
stopped max earlier more etag xs ys is = read_on-append max earlier xs ys ∙ ap (λ p. then_read max p ys) is

-- HOW MANY ROWS

abbrev counted : List Row × Option ℕ → ℕ → Type 0
counted p n = p.1 ≡ None → length p.0 ≡ n

read_length : (max : ℕ) (earlier : List Row) (ks : List KeptRow) → counted (read_on max earlier ks) (length earlier + length ks)
read_length max earlier [] = λ none. omega arith
read_length max earlier (k ∷ ks) =
    elim (row_with_place max earlier (row_in k)) as (λ o. counted (or_stop earlier k.etag o (λ r. read_on max (earlier ++ r ∷ []) ks)) (length earlier + suc (length ks))) [
      | None ↦ λ none. absurd cc
      | Some r ↦ λ none. let e = read_length max (earlier ++ r ∷ []) ks none in omega (arith, length-append earlier (r ∷ []))
    ]

has_room : (max : ℕ) (earlier : List Row) (o : Option Row) (r : Row) → row_with_place max earlier o ≡ Some r → length earlier < max
has_room max earlier None r h = absurd cc
has_room max earlier (Some x) r h =
    elim (has_place max earlier x) as (λ b. has_place max earlier x ≡ b → cond b (Some x) None ≡ Some r → length earlier < max) [
      | true ↦ λ e is. ltb-true (length earlier) max (both_true _ _ e).1
      | false ↦ λ e is. absurd cc
    ] refl h

read_most : (max : ℕ) (earlier : List Row) (ks : List KeptRow) → length earlier ≤ max → length (read_on max earlier ks).0 ≤ max
read_most max earlier [] few = few
read_most max earlier (k ∷ ks) few =
    elim (row_with_place max earlier (row_in k)) as (λ o. row_with_place max earlier (row_in k) ≡ o → length (or_stop earlier k.etag o (λ r. read_on max (earlier ++ r ∷ []) ks)).0 ≤ max) [
      | None ↦ λ e. few
      | Some r ↦ λ e. let room = has_room max earlier (row_in k) r e in read_most max (earlier ++ r ∷ []) ks (omega (arith, length-append earlier (r ∷ [])))
    ] refl

-- ETAGS

is_past-true : (low : Option ℕ) (k : KeptRow) → IsPast low k.etag → is_past low k ≡ true
is_past-true None k h = refl
is_past-true (Some e) k h = lt-ltb e k.etag h

-- rows past one etag are past an earlier one
all_pass : (low : Option ℕ) (mid : ℕ) (ks : List KeptRow) → IsPast low mid → EtagsRise (Some mid) ks → filter (is_past low) ks ≡ ks
all_pass low mid [] a up = refl
all_pass low mid (k ∷ ks) a up =
    let here = past_on low mid k.etag a up.0 in
    ap (λ b. cond b (k ∷ filter (is_past low) ks) (filter (is_past low) ks)) (is_past-true low k here) ∙ ap (λ xs. k ∷ xs) (all_pass low k.etag ks here up.1)

pass : (low : Option ℕ) (ks : List KeptRow) → EtagsRise low ks → filter (is_past low) ks ≡ ks
pass low [] up = refl
pass low (k ∷ ks) up =
    ap (λ b. cond b (k ∷ filter (is_past low) ks) (filter (is_past low) ks)) (is_past-true low k up.0) ∙ ap (λ xs. k ∷ xs) (all_pass low k.etag ks up.0 up.1)

not_past : (e : ℕ) (k : KeptRow) (ks rest : List KeptRow) → k.etag ≤ e → EtagsRise (Some e) (ks ++ rest) → is_past (last_kept (Some e) ks) k ≡ false
not_past e k [] rest few up = le-ltb e k.etag few
not_past e k (x ∷ ks) rest few up = not_past x.etag k ks rest (let a : e < x.etag = up.0 in omega arith) up.1

-- the rows past the last of the first ones are the rest
rest_past : (low : Option ℕ) (given rest : List KeptRow) → EtagsRise low (given ++ rest) → filter (is_past (last_kept low given)) (given ++ rest) ≡ rest
rest_past low [] rest up = pass low rest up
rest_past low (k ∷ given) rest up =
    ap (λ b. cond b (k ∷ filter (is_past (last_kept (Some k.etag) given)) (given ++ rest)) (filter (is_past (last_kept (Some k.etag) given)) (given ++ rest))) (not_past k.etag k given rest (omega arith) up.1)
    ∙ rest_past (Some k.etag) given rest up.1

-- PAGES

-- all rows are those that were given and the rest, which begins with this page
pub record IsSplit (given page all : List KeptRow) : Type 0 where
  pub rest : List KeptRow
  pub split : all ≡ given ++ rest
  pub prefix : page ≡ take 1024 rest
  pub order : EtagsRise None all

-- and once the page is given too
after_page : (given page all : List KeptRow) (t : IsSplit given page all) → all ≡ (given ++ page) ++ drop 1024 t.rest
after_page given page all t =
    t.split ∙ ap (λ xs. given ++ xs) (sym (take-append-drop 1024 t.rest) ∙ ap (λ xs. xs ++ drop 1024 t.rest) (sym t.prefix)) ∙ sym (append_assoc given page (drop 1024 t.rest))

-- what was loaded so far, and the page that comes next
pub record SoFar (max : ℕ) (held : Option (List KeptRow)) (loaded : List Row) (after : Option ℕ) (page : List KeptRow) : Type 0 where
  pub given : List KeptRow
  pub rising : EtagsRise None given
  pub last : last_kept None given ≡ after
  pub read : read_on max [] given ≡ (loaded, None)
  pub next : EtagsRise after page
  pub known : IfSome held (IsSplit given page)

split_start : (held : Option (List KeptRow)) (page : List KeptRow) → IsPage held None page → IfSome held (IsSplit [] page)
split_start None page p = tt
split_start (Some all) page p = record { rest = all; split = refl; prefix = p.rows ∙ ap (take 1024) (rest_past None [] all p.order); order = p.order }

pub start : (max : ℕ) (held : Option (List KeptRow)) (loaded : List Row) (page : List KeptRow) → loaded ≡ [] → IsPage held None page → SoFar max held loaded None page
start max held loaded page none p = record { given = []; rising = tt; last = refl; read = ap (λ (rows : List Row). (rows, None)) (sym none); next = p.rising; known = split_start held page p }

split_next : (held : Option (List KeptRow)) (after : Option ℕ) (given page more : List KeptRow) → last_kept None (given ++ page) ≡ after → IfSome held (IsSplit given page) → IsPage held after more
    → IfSome held (IsSplit (given ++ page) more)
split_next None after given page more is known p = tt
split_next (Some all) after given page more is known p =
    let split = after_page given page all known in
    let past : filter (is_past after) all ≡ drop 1024 known.rest =
    ap (λ xs. filter (is_past after) xs) split ∙ ap (λ e. filter (is_past e) ((given ++ page) ++ drop 1024 known.rest)) (sym is)
    ∙ rest_past None (given ++ page) (drop 1024 known.rest) (subst (EtagsRise None) split p.order) in
    record { rest = drop 1024 known.rest; split = split; prefix = p.rows ∙ ap (take 1024) past; order = p.order }

pub go_on : (max : ℕ) (held : Option (List KeptRow)) (loaded further : List Row) (after now : Option ℕ) (page more : List KeptRow) → SoFar max held loaded after page
    → read_on max loaded page ≡ (further, None) → now ≡ last_kept after page → IsPage held now more → SoFar max held further now more
go_on max held loaded further after now page more s is at p =
    let ends : last_kept None (s.given ++ page) ≡ now = last_on None s.given page ∙ ap (λ e. last_kept e page) s.last ∙ sym at in
    record {
      given = s.given ++ page;
      rising = rises_on None s.given page s.rising (subst (λ e. EtagsRise e page) (sym s.last) s.next);
      last = ends;
      read = passed max [] loaded s.given page s.read ∙ is;
      next = p.rising;
      known = split_next held now s.given page more ends s.known p;
    }

no_rest : (rest : List KeptRow) → [] ≡ take 1024 rest → rest ≡ []
no_rest [] h = refl
no_rest (k ∷ rest) h = let e = ap length h in absurd (omega (arith, length-take 1024 (k ∷ rest)))

split_done : (held : Option (List KeptRow)) (given : List KeptRow) → IfSome held (IsSplit given []) → IfSome held (λ all. given ≡ all)
split_done None given known = tt
split_done (Some all) given known = sym (known.split ∙ ap (λ xs. given ++ xs) (no_rest known.rest known.prefix) ∙ append-nil given)

-- all was read, and the rows are those of what was read unless one of them is bad
pub finish : (max : ℕ) (held : Option (List KeptRow)) (loaded : List Row) (read : Result (List Row) ℕ) (after : Option ℕ) (page : List KeptRow) → SoFar max held loaded after page → page ≡ [] → judged loaded None ≡ read
    → IsLoaded max held read
finish max held loaded read after page s none is = record {
  given = s.given;
  rising = s.rising;
  all = split_done held s.given (subst (λ p. IfSome held (IsSplit s.given p)) none s.known);
  rows = rows_in-judged max s.given ∙ ap (λ p. judged p.0 p.1) s.read ∙ is;
}

pub end : (max : ℕ) (held : Option (List KeptRow)) (loaded : List Row) (after : Option ℕ) (page : List KeptRow) (f : LoadFault) → SoFar max held loaded after page → page ≡ [] → IsPageFault f (judged loaded None) → IsCause max held f
end max held loaded after page Failed s none h = tt
end max held loaded after page (KeptBad etag) s none h = finish max held loaded (Err etag) after page s none h
end max held loaded after page NoMemory s none h = tt

-- a bad row is that of all that the keeper has
bad_in : (max etag : ℕ) (held : Option (List KeptRow)) (given page : List KeptRow) → EtagsRise None (given ++ page) → ((more : List KeptRow) → rows_in max ((given ++ page) ++ more) ≡ Err etag) → IfSome held (IsSplit given page)
    → IsLoaded max held (Err etag)
bad_in max etag None given page up bad known = record { given = given ++ page; rising = up; all = tt; rows = ap (rows_in max) (sym (append-nil (given ++ page))) ∙ bad [] }
bad_in max etag (Some all) given page up bad known = record { given = all; rising = known.order; all = refl; rows = ap (rows_in max) (after_page given page all known) ∙ bad (drop 1024 known.rest) }

rise : (max : ℕ) (held : Option (List KeptRow)) (loaded : List Row) (after : Option ℕ) (page : List KeptRow) (s : SoFar max held loaded after page) → EtagsRise None (s.given ++ page)
rise max held loaded after page s = rises_on None s.given page s.rising (subst (λ e. EtagsRise e page) (sym s.last) s.next)

-- a row of this page is bad, or an earlier one
pub stop : (max bad : ℕ) (held : Option (List KeptRow)) (loaded further : List Row) (after : Option ℕ) (page : List KeptRow) (f : LoadFault) → SoFar max held loaded after page → read_on max loaded page ≡ (further, Some bad)
    → IsPageFault f (judged further (Some bad)) → IsCause max held f
stop max bad held loaded further after page Failed s is h = tt
stop max bad held loaded further after page (KeptBad etag) s is h =
    bad_in max etag held s.given page (rise max held loaded after page s)
    (λ more. rows_in-judged max ((s.given ++ page) ++ more) ∙ ap (λ p. judged p.0 p.1) (stopped max [] further bad (s.given ++ page) more (passed max [] loaded s.given page s.read ∙ is)) ∙ h) s.known
stop max bad held loaded further after page NoMemory s is h = tt

-- the keeper gives no more, and a row that it gave is bad
pub broken : (max : ℕ) (held : Option (List KeptRow)) (loaded further : List Row) (after : Option ℕ) (page : List KeptRow) (f : LoadFault) → SoFar max held loaded after page → read_on max loaded page ≡ (further, None)
    → IsPageFault f (judged further None) → IsCause max held f
broken max held loaded further after page Failed s is h = tt
broken max held loaded further after page (KeptBad etag) s is h =
    bad_in max etag held s.given page (rise max held loaded after page s)
    (λ more. rows_in-judged max ((s.given ++ page) ++ more) ∙ ap (λ p. judged p.0 p.1) (passed max [] further (s.given ++ page) more (passed max [] loaded s.given page s.read ∙ is)) ∙ bad_read max further more etag h) s.known
broken max held loaded further after page NoMemory s is h = tt

-- however it goes on
pub caused : (max : ℕ) (bad : Option ℕ) (held : Option (List KeptRow)) (loaded further : List Row) (after : Option ℕ) (page : List KeptRow) (f : LoadFault) → SoFar max held loaded after page → read_on max loaded page ≡ (further, bad)
    → IsPageFault f (judged further bad) → IsCause max held f
caused max None held loaded further after page f s is h = broken max held loaded further after page f s is h
caused max (Some bad) held loaded further after page f s is h = stop max bad held loaded further after page f s is h

pub not_some : (o : Option ℕ) → is_some o ≡ false → o ≡ None
not_some None h = refl
not_some (Some n) h = absurd cc

-- how many rows are read
pub few : (max : ℕ) (held : Option (List KeptRow)) (loaded : List Row) (after : Option ℕ) (page : List KeptRow) → SoFar max held loaded after page → length loaded ≤ max
few max held loaded after page s = subst (λ (p : List Row × Option ℕ). length p.0 ≤ max) s.read (read_most max [] s.given (omega arith))

pub read_few : (max : ℕ) (held : Option (List KeptRow)) (loaded further : List Row) (after : Option ℕ) (page : List KeptRow) (bad : Option ℕ) → SoFar max held loaded after page → read_on max loaded page ≡ (further, bad) → length further ≤ max
read_few max held loaded further after page bad s is = subst (λ (p : List Row × Option ℕ). length p.0 ≤ max) is (read_most max loaded page (few max held loaded after page s))

-- FAULTS

pub rose_since : (before between now : ℕ) → before ≤ between → Rose between now → Rose before now
rose_since before between now a b = let up : min (between + 1) (2 ^ 64 - 1) ≤ now = b in omega arith

pub other_error : {A B : Type 0} (x : Result A LoadFault) (y : Result B LoadFault) (a b : LoadFault) → x ≡ Err a → y ≡ Err a → y ≡ Err b → x ≡ Err b
other_error x y a b is at h = let same : a ≡ b = cc in is ∙ ap Err same

-- WHETHER A PAGE HAS ROWS

pub has_none : (b : Bool) (page : List KeptRow) → IsTrue b ↔ (page ≡ []) → b ≡ true → page ≡ []
has_none b page is h = is.0 h

pub has_rows : (b : Bool) (page : List KeptRow) → IsTrue b ↔ (page ≡ []) → b ≡ false → 1 ≤ length page
has_rows b [] is h = let e : b ≡ true = is.1 refl in absurd cc
has_rows b (k ∷ page) is h = omega arith

pub grows_by : (max : ℕ) (loaded further : List Row) (page : List KeptRow) → read_on max loaded page ≡ (further, None) → length further ≡ length loaded + length page
grows_by max loaded further page is = subst (λ p. counted p (length loaded + length page)) is (read_length max loaded page) refl

pub smaller : (max : ℕ) (loaded further : List Row) (page : List KeptRow) (b : Bool) → length further ≤ max → read_on max loaded page ≡ (further, None) → IsTrue b ↔ (page ≡ []) → b ≡ false
    → max - length further < max - length loaded
smaller max loaded further page b most is none h =
    let a = grows_by max loaded further page is in let c = has_rows b page none h in omega arith

-- CALLS

called_later : (n : ℕ) (plan : Option Plan) → option_map one_later (calls_later n plan) ≡ calls_later (suc n) plan
called_later zero plan = refl
called_later (suc n) plan = called_later n (option_map one_later plan)

-- the calls so far, of which all but the last gave as many rows as stand here; a page with rows comes only after full ones
pub record CallsSoFar (held : Option (List KeptRow)) (loaded : ℕ) (page : List KeptRow) (before after : Option Plan) : Type 0 where
  pub calls : ℕ
  pub after_them : after ≡ calls_later calls before
  pub few : IfSome held (λ all. 1024 * calls ≤ loaded + 2047)
  pub full : IfSome held (λ all. 1 ≤ length page → 1024 * calls ≤ loaded + 1024)

-- what is reported of what the keeper holds
if_held : (held : Option (List KeptRow)) (P Q : List KeptRow → Type 0) → ((all : List KeptRow) → P all → Q all) → IfSome held P → IfSome held Q
if_held None P Q f h = tt
if_held (Some all) P Q f h = f all h

if_always : (held : Option (List KeptRow)) (Q : List KeptRow → Type 0) → ((all : List KeptRow) → Q all) → IfSome held Q
if_always None Q f = tt
if_always (Some all) Q f = f all

if_both : (held : Option (List KeptRow)) (P Q : List KeptRow → Type 0) → IfSome held P → IfSome held Q → IfSome held (λ all. P all × Q all)
if_both None P Q p q = tt
if_both (Some all) P Q p q = (p, q)

-- as many rows were given as were loaded
given_count : (max : ℕ) (held : Option (List KeptRow)) (loaded : List Row) (after : Option ℕ) (page : List KeptRow) (s : SoFar max held loaded after page) → length loaded ≡ length s.given
given_count max held loaded after page s =
    let all : length loaded ≡ 0 + length s.given = subst (λ p. counted p (0 + length s.given)) s.read (read_length max [] s.given) refl in omega arith

split_count : (given page all : List KeptRow) (t : IsSplit given page all) → length all ≡ length given + length t.rest
split_count given page all t = ap length t.split ∙ length-append given t.rest

page_count : (given page all : List KeptRow) (t : IsSplit given page all) → length page ≡ min 1024 (length t.rest)
page_count given page all t = ap length t.prefix ∙ length-take 1024 t.rest

-- the rows so far and this page are no more than all
within_all : (given page all : List KeptRow) → IsSplit given page all → length given + length page ≤ length all
within_all given page all t = let a = split_count given page all t in let b = page_count given page all t in omega arith

-- a page after which another has rows is full
full_page : (given page next more all : List KeptRow) → IsSplit given page all → IsSplit next more all → length next ≡ length given + length page → 1 ≤ length more → length page ≡ 1024
full_page given page next more all t u grown some =
    let a = split_count given page all t in
    let b = page_count given page all t in
    let c = split_count next more all u in
    let d = page_count next more all u in
    omega arith

pub first_call : (held : Option (List KeptRow)) (before after : Option Plan) → after ≡ option_map one_later before → AreCalls held before after
first_call held before after e = record { calls = 1; after_them = e; few = if_always held _ (λ all. omega arith) }

pub calls_start : (held : Option (List KeptRow)) (loaded : List Row) (page : List KeptRow) (before after : Option Plan) → loaded ≡ [] → after ≡ option_map one_later before
    → CallsSoFar held (length loaded) page before after
calls_start held loaded page before after none e = record {
  calls = 1;
  after_them = e;
  few = if_always held _ (λ all. omega arith);
  full = if_always held _ (λ all some. omega arith);
}

pub calls_on : (max : ℕ) (held : Option (List KeptRow)) (loaded further : List Row) (after now : Option ℕ) (page more : List KeptRow) (p q r : Option Plan) → SoFar max held loaded after page
    → SoFar max held further now more → length further ≡ length loaded + length page → 1 ≤ length page → CallsSoFar held (length loaded) page p q → r ≡ option_map one_later q
    → CallsSoFar held (length further) more p r
calls_on max held loaded further after now page more p q r s t grown some c e = record {
  calls = suc c.calls;
  after_them = e ∙ ap (option_map one_later) c.after_them ∙ called_later c.calls p;
  few = if_held held _ _ (λ all full. let f = full some in omega arith) c.full;
  full = if_held held _ _
      (λ all h next.
      let a = given_count max held loaded after page s in
      let b = given_count max held further now more t in
      let whole = full_page s.given page t.given more all h.0.0 h.0.1 (omega arith) next in
      let f = h.1 some in
      omega arith)
      (if_both held _ _ (if_both held _ _ s.known t.known) c.full);
}

-- they were few
pub calls_done : (max : ℕ) (held : Option (List KeptRow)) (loaded : List Row) (after : Option ℕ) (page : List KeptRow) (p q : Option Plan) → SoFar max held loaded after page
    → CallsSoFar held (length loaded) page p q → AreCalls held p q
calls_done max held loaded after page p q s c = record {
  calls = c.calls;
  after_them = c.after_them;
  few = if_held held _ _
      (λ all h. let a = given_count max held loaded after page s in let b = within_all s.given page all h.0 in let f = h.1 in omega arith)
      (if_both held _ _ s.known c.few);
}

-- and so they are with one more, after a page with rows
pub last_call : (max : ℕ) (held : Option (List KeptRow)) (loaded : List Row) (after : Option ℕ) (page : List KeptRow) (p q r : Option Plan) → SoFar max held loaded after page
    → 1 ≤ length page → CallsSoFar held (length loaded) page p q → r ≡ option_map one_later q → AreCalls held p r
last_call max held loaded after page p q r s some c e = record {
  calls = suc c.calls;
  after_them = e ∙ ap (option_map one_later) c.after_them ∙ called_later c.calls p;
  few = if_held held _ _
      (λ all h. let a = given_count max held loaded after page s in let b = within_all s.given page all h.0 in let f = h.1 some in omega arith)
      (if_both held _ _ s.known c.full);
}
