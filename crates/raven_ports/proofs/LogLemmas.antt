-- What a log holds: the rows whose etags are not below the last of their ids.
use Rattle.std.proofs.Common.{◌≡◌, ℕ, zero, suc, ◌<◌, ◌≤◌, ◌+◌, ◌-◌, List, [], ◌∷◌, ◌++◌, Bool, true, false, not, cond, ◌||◌, Option, Some, None, nat_lt, leb, filter, take, drop, length, get_or, slice_index_or, refl, sym, ap, ◌∙◌, subst, arith}
use Rattle.std.specs.List.Sorted.{IsNonDecreasingBy, IsPartitionPoint}
use Rattle.std.specs.BTreeMap.{is_at}
use Rattle.std.proofs.lemmas.Bool.{lt-ltb}
use Rattle.std.proofs.lemmas.Bool.Decides.{nat_tests}
use Rattle.std.proofs.lemmas.List.{append-nil, drop_all, drop_more, drop-append-le, length-append, length-drop, take_all, take-append-drop, take-append-le}
use Rattle.std.proofs.lemmas.List.Elements.{filter-append}
use Rattle.std.proofs.lemmas.Map.Text.{is_eq-slice_cmp}
use Rattle.std.proofs.lemmas.Slice.Eq.{bytes_eq-Decides}
use Rattle.spec_data.specs.Folding.{folded, same_key}
use Rattle.spec_data.specs.Kept.{KeptRow, EtagsRise, is_past, last_kept, keep, keep_all, kept_key}
use Rattle.spec_store.specs.Cleaning.{cleared, is_old_mark}
use Rattle.raven_ports.specs.Logged.{IsLog, held_in, id_cmp, is_among, is_below, last_of_id}
use Rattle.raven_ports.proofs.KeptLemmas.{keep_all_rises, kept_apart, last_behind, last_keep, lower}
use Rattle.raven_ports.proofs.RisingLemmas.{rises_on}

-- NUMBERS AND TESTS

below : (x y : ℕ) → x < y → nat_lt x y ≡ true
below x y h = lt-ltb x y h

not_below : (x y : ℕ) → y ≤ x → nat_lt x y ≡ false
not_below x y h = grind (arith, nat_tests)

past_at : (x e : ℕ) → leb x e ≡ false → nat_lt e x ≡ true
past_at x e h = grind (arith, nat_tests)

not_past_at : (x e : ℕ) → leb x e ≡ true → nat_lt e x ≡ false
not_past_at x e h = grind (arith, nat_tests)

or_true : (b : Bool) → (b || true) ≡ true
or_true true = refl
or_true false = refl

or_false : (b : Bool) → (b || false) ≡ b
or_false true = refl
or_false false = refl

same_itself : (q : List ℕ) → same_key q q ≡ true
same_itself q = (bytes_eq-Decides q q).1 refl

-- ONE ROW

-- the last etag of the row's id is past the row's if one of the rows behind it has the id
below_last : (low : ℕ) (x : KeptRow) (found : Option ℕ) (ks : List KeptRow) → x.etag ≤ low → EtagsRise (Some low) ks
    → is_below (last_of_id found (kept_key x) ks) x ≡ (is_among ks x || is_below found x)
below_last low x found [] le up = refl
below_last low x found (k ∷ ks) le up =
    let past : low < k.etag = up.0 in
    below_last k.etag x (cond (same_key (kept_key k) (kept_key x)) (Some k.etag) found) ks (omega arith) up.1
    ∙ elim (same_key (kept_key k) (kept_key x)) as (λ b. (is_among ks x || is_below (cond b (Some k.etag) found) x) ≡ ((b || is_among ks x) || is_below found x)) [
      | true ↦ ap (λ b. is_among ks x || b) (below x.etag k.etag (omega arith)) ∙ or_true (is_among ks x)
      | false ↦ refl
    ]

behind : (e : ℕ) (xs ys : List KeptRow) → EtagsRise (Some e) (xs ++ ys) → EtagsRise (Some e) ys
behind e [] ys up = up
behind e (x ∷ xs) ys up = lower (Some e) x.etag ys up.0 (behind x.etag xs ys up.1)

front_rises : (low : Option ℕ) (xs ys : List KeptRow) → EtagsRise low (xs ++ ys) → EtagsRise low xs
front_rises low [] ys up = tt
front_rises low (x ∷ xs) ys up = (up.0, front_rises (Some x.etag) xs ys up.1)

rest_rises : (low : Option ℕ) (xs ys : List KeptRow) → EtagsRise low (xs ++ ys) → EtagsRise (last_kept low xs) ys
rest_rises low [] ys up = up
rest_rises low (x ∷ xs) ys up = rest_rises (Some x.etag) xs ys up.1

-- the rows behind the first ones
pub rest_is : (first : ℕ) (rows all : List KeptRow) → rows ≡ all → take (length rows - first) (drop first rows) ≡ drop first all
rest_is first rows all is = take_all (length rows - first) (drop first rows) (let e = length-drop first rows in omega arith) ∙ ap (drop first) is

-- the etag of one row more, under its id
pub noted : (rows : List KeptRow) (i : ℕ) (k : KeptRow) (before after : Option ℕ) (q id : List ℕ) (e : ℕ) → i < length rows → get_or rows i k ≡ k → id ≡ k.id → e ≡ k.etag
    → after ≡ cond (is_at (id_cmp id) q) (Some e) before → last_of_id before (folded q) (drop i rows) ≡ last_of_id None (folded q) rows
    → last_of_id after (folded q) (drop (i + 1) rows) ≡ last_of_id None (folded q) rows
noted rows i k before after q id e lt here id_is e_is is goes =
    ap (λ found. last_of_id found (folded q) (drop (i + 1) rows))
    (is ∙ ap (λ x. cond (is_at (id_cmp x) q) (Some e) before) id_is ∙ ap (λ x. cond (is_at (id_cmp k.id) q) (Some x) before) e_is
    ∙ ap (λ b. cond b (Some k.etag) before) (is_eq-slice_cmp (kept_key k) (folded q)))
    ∙ sym (ap (last_of_id before (folded q)) (drop_more rows i k lt ∙ ap (λ x. x ∷ drop (i + 1) rows) here))
    ∙ goes

-- THE ROWS THAT ARE LEFT

-- of the first rows: those of which no other row has the id
first_left : (low : Option ℕ) (given more : List KeptRow) → EtagsRise low (given ++ more)
    → filter (λ x. not (is_below (last_of_id None (kept_key x) more) x)) given ≡ filter (λ x. not (is_among more x)) given
first_left low [] more up = refl
first_left low (x ∷ given) more up =
    ap (λ b. cond (not b) (x ∷ filter (λ y. not (is_below (last_of_id None (kept_key y) more) y)) given) (filter (λ y. not (is_below (last_of_id None (kept_key y) more) y)) given))
    (below_last x.etag x None more (omega arith) (behind x.etag given more up.1) ∙ or_false (is_among more x))
    ∙ ap (λ l. cond (not (is_among more x)) (x ∷ l) l) (first_left (Some x.etag) given more up.1)

chosen : (b : Bool) (k : KeptRow) (l : List KeptRow) → cond b (k ∷ l) l ≡ cond b (k ∷ []) [] ++ l
chosen true k l = refl
chosen false k l = refl

-- of the others: those that no later one replaces
others_left : (found : List ℕ → Option ℕ) (low : Option ℕ) (ks : List KeptRow) → EtagsRise low ks
    → filter (λ x. not (is_below (last_of_id (found (kept_key x)) (kept_key x) ks) x)) ks ≡ keep_all [] ks
others_left found low [] up = refl
others_left found low (k ∷ ks) up =
    ap (λ b. cond (not b) (k ∷ filter left ks) (filter left ks)) here
    ∙ ap (λ l. cond (not (is_among ks k)) (k ∷ l) l) (others_left on (Some k.etag) ks up.1)
    ∙ chosen (not (is_among ks k)) k (keep_all [] ks)
    ∙ kept_apart (k ∷ []) [] ks
  where
    on : List ℕ → Option ℕ
    on q = cond (same_key (kept_key k) q) (Some k.etag) (found q)

    left : KeptRow → Bool
    left x = not (is_below (last_of_id (on (kept_key x)) (kept_key x) ks) x)

    here : is_below (last_of_id (on (kept_key k)) (kept_key k) ks) k ≡ is_among ks k
    here =
        below_last k.etag k (on (kept_key k)) ks (omega arith) up.1
        ∙ ap (λ b. is_among ks k || is_below (cond b (Some k.etag) (found (kept_key k))) k) (same_itself (kept_key k))
        ∙ ap (λ b. is_among ks k || b) (not_below k.etag k.etag (omega arith))
        ∙ or_false (is_among ks k)

all_left : (given more : List KeptRow) → EtagsRise None (given ++ more)
    → filter (λ x. not (is_below (last_of_id None (kept_key x) more) x)) (given ++ more) ≡ keep_all given more
all_left given more up =
    filter-append left given more
    ∙ ap (λ l. l ++ filter left more) (first_left None given more up)
    ∙ ap (λ l. filter (λ x. not (is_among more x)) given ++ l) (others_left (λ q. None) (last_kept None given) more (rest_rises None given more up))
    ∙ kept_apart given [] more
    ∙ ap (λ l. keep_all l more) (append-nil given)
  where
    left : KeptRow → Bool
    left x = not (is_below (last_of_id None (kept_key x) more) x)

same_left : (at : List ℕ → Option ℕ) (more rows : List KeptRow) → ((q : List ℕ) → at q ≡ last_of_id None (folded q) more)
    → filter (λ x. not (is_below (at x.id) x)) rows ≡ filter (λ x. not (is_below (last_of_id None (kept_key x) more) x)) rows
same_left at more [] same = refl
same_left at more (x ∷ rows) same =
    ap (λ e. cond (not (is_below e x)) (x ∷ filter (λ y. not (is_below (at y.id) y)) rows) (filter (λ y. not (is_below (at y.id) y)) rows)) (same x.id)
    ∙ ap (λ l. cond (not (is_below (last_of_id None (kept_key x) more) x)) (x ∷ l) l) (same_left at more rows same)

-- what is left is what the log holds
pub held_left : (first : ℕ) (rows left : List KeptRow) (at : List ℕ → Option ℕ) → IsLog first rows → ((q : List ℕ) → at q ≡ last_of_id None (folded q) (drop first rows))
    → left ≡ filter (λ x. not (is_below (at x.id) x)) rows → left ≡ held_in first rows
held_left first rows left at log same is =
    is ∙ same_left at (drop first rows) rows same
    ∙ ap (filter (λ x. not (is_below (last_of_id None (kept_key x) (drop first rows)) x))) (sym (take-append-drop first rows))
    ∙ all_left (take first rows) (drop first rows) (subst (EtagsRise None) (sym (take-append-drop first rows)) log.rising)

-- WHAT IT HOLDS

pub held_rises : (first : ℕ) (rows : List KeptRow) → IsLog first rows → EtagsRise None (held_in first rows)
held_rises first rows log =
    let up : EtagsRise None (take first rows ++ drop first rows) = subst (EtagsRise None) (sym (take-append-drop first rows)) log.rising in
    keep_all_rises (take first rows) (drop first rows) (front_rises None (take first rows) (drop first rows) up) (rest_rises None (take first rows) (drop first rows) up)

-- with as many first rows as there are it holds them all
pub all_held : (first : ℕ) (rows : List KeptRow) → first ≡ length rows → held_in first rows ≡ rows
all_held first rows is = ap (λ l. keep_all l (drop first rows)) (take_all first rows (omega arith)) ∙ ap (keep_all rows) (drop_all first rows (omega arith))

last_put : (given more : List KeptRow) → last_kept None (keep_all given more) ≡ last_kept None (given ++ more)
last_put given [] = ap (last_kept None) (sym (append-nil given))
last_put given (k ∷ ks) =
    last_put (keep k given) ks ∙ last_behind None (keep k given) ks ∙ ap (λ low. last_kept low ks) (last_keep None k given) ∙ sym (last_behind None given (k ∷ ks))

last_held : (first : ℕ) (rows : List KeptRow) → last_kept None (held_in first rows) ≡ last_kept None rows
last_held first rows = last_put (take first rows) (drop first rows) ∙ ap (last_kept None) (take-append-drop first rows)

put_on : (given more others : List KeptRow) → keep_all given (more ++ others) ≡ keep_all (keep_all given more) others
put_on given [] others = refl
put_on given (k ∷ ks) others = put_on (keep k given) ks others

-- further rows go in behind the others
pub added : (first : ℕ) (rows more new : List KeptRow) → IsLog first rows → EtagsRise (last_kept None (held_in first rows)) more → new ≡ rows ++ more
    → IsLog first new × (held_in first new ≡ keep_all (held_in first rows) more)
added first rows more new log past is = (
  subst (IsLog first) (sym is) (record {
    within = let le = log.within in omega (arith, length-append rows more);
    rising = rises_on None rows more log.rising (subst (λ low. EtagsRise low more) (last_held first rows) past);
  }),
  ap (held_in first) is
      ∙ ap (λ l. keep_all l (drop first (rows ++ more))) (take-append-le first rows more log.within)
      ∙ ap (keep_all (take first rows)) (drop-append-le first rows more log.within)
      ∙ put_on (take first rows) (drop first rows) more,
)

-- A SEARCH

rising_at : (low i : ℕ) (d : KeptRow) (rows : List KeptRow) → EtagsRise (Some low) rows → i < length rows → low < (slice_index_or rows i d).etag
rising_at low i d [] up lt = absurd (omega arith)
rising_at low zero d (x ∷ rows) up lt = up.0
rising_at low (suc i) d (x ∷ rows) up lt = let a = rising_at x.etag i d rows up.1 (omega arith) in let b : low < x.etag = up.0 in omega arith

pub nondecreasing : (low : Option ℕ) (rows : List KeptRow) → EtagsRise low rows → IsNonDecreasingBy (λ (k : KeptRow). k.etag) rows
nondecreasing low [] up i j d le lt = absurd (omega arith)
nondecreasing low (x ∷ rows) up zero zero d le lt = omega arith
nondecreasing low (x ∷ rows) up zero (suc j) d le lt = let a = rising_at x.etag j d rows up.1 (omega arith) in omega arith
nondecreasing low (x ∷ rows) up (suc i) zero d le lt = absurd (omega arith)
nondecreasing low (x ∷ rows) up (suc i) (suc j) d le lt = nondecreasing (Some x.etag) rows up.1 i j d (omega arith) (omega arith)

all_past : (e : ℕ) (rows : List KeptRow) → ((k : ℕ) (d : KeptRow) → k < length rows → leb (slice_index_or rows k d).etag e ≡ false) → filter (is_past (Some e)) rows ≡ rows
all_past e [] h = refl
all_past e (x ∷ rows) h =
    ap (λ b. cond b (x ∷ filter (is_past (Some e)) rows) (filter (is_past (Some e)) rows)) (past_at x.etag e (h zero x (omega arith)))
    ∙ ap (λ l. x ∷ l) (all_past e rows (λ k d lt. h (suc k) d (omega arith)))

pub past_none : (rows : List KeptRow) → filter (is_past None) rows ≡ rows
past_none [] = refl
past_none (x ∷ rows) = ap (λ l. x ∷ l) (past_none rows)

pub cut : (e first : ℕ) (rows : List KeptRow) → IsPartitionPoint (λ (k : KeptRow). leb k.etag e ≡ true) (λ (k : KeptRow). leb k.etag e ≡ false) rows first
    → drop first rows ≡ filter (is_past (Some e)) rows
cut e zero rows h = sym (all_past e rows (λ k d lt. h.1 k d (omega arith) lt))
cut e (suc first) [] h = refl
cut e (suc first) (x ∷ rows) h =
    cut e first rows (λ k d low high. h.0 (suc k) d (omega arith) (omega arith), λ k d low high. h.1 (suc k) d (omega arith) (omega arith))
    ∙ sym (ap (λ b. cond b (x ∷ filter (is_past (Some e)) rows) (filter (is_past (Some e)) rows)) (not_past_at x.etag e (h.0 zero x (omega arith) (omega arith))))

-- CLEANING

cleared_rises : (upto : ℕ) (low : Option ℕ) (rows : List KeptRow) → EtagsRise low rows → EtagsRise low (cleared upto rows)
cleared_rises upto low [] up = tt
cleared_rises upto low (x ∷ rows) up = elim (is_old_mark upto x) as (λ b. EtagsRise low (cond (not b) (x ∷ cleared upto rows) (cleared upto rows))) [
  | true ↦ lower low x.etag (cleared upto rows) up.0 (cleared_rises upto (Some x.etag) rows up.1)
  | false ↦ (up.0, cleared_rises upto (Some x.etag) rows up.1)
]

-- the rows that are left are a log
pub cleared_log : (first : ℕ) (left : List KeptRow) (upto : ℕ) (rows : List KeptRow) → first ≡ length left → left ≡ cleared upto rows → EtagsRise None rows → IsLog first left
cleared_log first left upto rows all is up = record { within = omega arith; rising = subst (EtagsRise None) (sym is) (cleared_rises upto None rows up) }
