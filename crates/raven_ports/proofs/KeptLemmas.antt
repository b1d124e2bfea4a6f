-- Etags still rise once rows are put in.
use Rattle.std.proofs.Common.{◌≡◌, ℕ, zero, suc, ◌<◌, List, [], ◌∷◌, ◌++◌, Bool, true, false, cond, not, ◌||◌, nat_lt, Option, Some, None, filter, take, refl, sym, ap, ◌∙◌, subst, arith}
use Rattle.std.proofs.lemmas.Bool.{ltb-true}
use Rattle.std.proofs.lemmas.List.{append_assoc}
use Rattle.std.proofs.lemmas.List.Elements.{filter-append}
use Rattle.spec_data.specs.Folding.{same_key}
use Rattle.spec_data.specs.Kept.{KeptRow, EtagsRise, is_past, kept_after, last_kept, keep, keep_all, kept_key}
use Rattle.raven_ports.specs.Logged.{is_among}
use Rattle.raven_ports.proofs.RisingLemmas.{IsPast, past_on}

pub lower : (low : Option ℕ) (mid : ℕ) (ks : List KeptRow) → IsPast low mid → EtagsRise (Some mid) ks → EtagsRise low ks
lower low mid [] a up = tt
lower low mid (k ∷ ks) a up = (past_on low mid k.etag a up.0, up.1)

last_rising : (low : ℕ) (e : ℕ) (ks : List KeptRow) → EtagsRise (Some low) ks → IsPast (last_kept (Some low) ks) e → low < e
last_rising low e [] up h = h
last_rising low e (k ∷ ks) up h = let a = last_rising k.etag e ks up.1 h in let b : low < k.etag = up.0 in omega arith

-- one row
pub keep_rises : (low : Option ℕ) (k : KeptRow) (held : List KeptRow) → EtagsRise low held → IsPast (last_kept low held) k.etag → EtagsRise low (keep k held)
keep_rises low k [] up h = (h, tt)
keep_rises low k (x ∷ held) up h =
    elim (same_key (kept_key k) (kept_key x)) as (λ b. EtagsRise low (cond (not b) (x ∷ filter (λ y. not (same_key (kept_key k) (kept_key y))) held) (filter (λ y. not (same_key (kept_key k) (kept_key y))) held) ++ k ∷ [])) [
      | true ↦ lower low x.etag (keep k held) up.0 (keep_rises (Some x.etag) k held up.1 h)
      | false ↦ (up.0, keep_rises (Some x.etag) k held up.1 h)
    ]

pub last_keep : (low : Option ℕ) (k : KeptRow) (held : List KeptRow) → last_kept low (keep k held) ≡ Some k.etag
last_keep low k [] = refl
last_keep low k (x ∷ held) =
    elim (same_key (kept_key k) (kept_key x)) as (λ b. last_kept low (cond (not b) (x ∷ filter (λ y. not (same_key (kept_key k) (kept_key y))) held) (filter (λ y. not (same_key (kept_key k) (kept_key y))) held) ++ k ∷ []) ≡ Some k.etag) [
      | true ↦ last_keep low k held
      | false ↦ last_keep (Some x.etag) k held
    ]

-- all of them
pub keep_all_rises : (held ks : List KeptRow) → EtagsRise None held → EtagsRise (last_kept None held) ks → EtagsRise None (keep_all held ks)
keep_all_rises held [] up next = up
keep_all_rises held (k ∷ ks) up next =
    keep_all_rises (keep k held) ks (keep_rises None k held up next.0) (subst (λ low. EtagsRise low ks) (sym (last_keep None k held)) next.1)

-- ROWS, AND BEHIND THEM OTHERS

pub last_behind : (low : Option ℕ) (xs ys : List KeptRow) → last_kept low (xs ++ ys) ≡ last_kept (last_kept low xs) ys
last_behind low [] ys = refl
last_behind low (x ∷ xs) ys = last_behind (Some x.etag) xs ys

abbrev beside : List KeptRow → KeptRow → Bool
beside ks x = not (is_among ks x)

beside_none : (rows : List KeptRow) → filter (beside []) rows ≡ rows
beside_none [] = refl
beside_none (x ∷ rows) = ap (λ l. x ∷ l) (beside_none rows)

beside_more : (k : KeptRow) (ks rows : List KeptRow) → filter (beside (k ∷ ks)) rows ≡ filter (beside ks) (filter (λ x. not (same_key (kept_key k) (kept_key x))) rows)
beside_more k ks [] = refl
beside_more k ks (x ∷ rows) =
    elim (same_key (kept_key k) (kept_key x)) as (λ b. cond (not (b || is_among ks x)) (x ∷ filter (beside (k ∷ ks)) rows) (filter (beside (k ∷ ks)) rows) ≡ filter (beside ks) (cond (not b) (x ∷ filter (λ y. not (same_key (kept_key k) (kept_key y))) rows) (filter (λ y. not (same_key (kept_key k) (kept_key y))) rows))) [
      | true ↦ beside_more k ks rows
      | false ↦ ap (λ l. cond (not (is_among ks x)) (x ∷ l) l) (beside_more k ks rows)
    ]

-- further rows take out those of their ids among the first, and go behind the others
pub kept_apart : (given committed ks : List KeptRow) → filter (λ x. not (is_among ks x)) given ++ keep_all committed ks ≡ keep_all (given ++ committed) ks
kept_apart given committed [] = ap (λ l. l ++ committed) (beside_none given)
kept_apart given committed (k ∷ ks) =
    ap (λ l. l ++ keep_all (keep k committed) ks) (beside_more k ks given)
    ∙ kept_apart (filter others given) (keep k committed) ks
    ∙ ap (λ l. keep_all l ks) (sym (append_assoc (filter others given) (filter others committed) (k ∷ [])) ∙ ap (λ l. l ++ k ∷ []) (sym (filter-append others given committed)))
  where
    others : KeptRow → Bool
    others x = not (same_key (kept_key k) (kept_key x))

-- WHAT IS LOADED

take_rises : (low : Option ℕ) (n : ℕ) (ks : List KeptRow) → EtagsRise low ks → EtagsRise low (take n ks)
take_rises low zero ks up = tt
take_rises low (suc n) [] up = tt
take_rises low (suc n) (k ∷ ks) up = (up.0, take_rises (Some k.etag) n ks up.1)

pub filter_rises : (p : KeptRow → Bool) (low : Option ℕ) (ks : List KeptRow) → EtagsRise low ks → EtagsRise low (filter p ks)
filter_rises p low [] up = tt
filter_rises p low (k ∷ ks) up =
    elim (p k) as (λ b. EtagsRise low (cond b (k ∷ filter p ks) (filter p ks))) [
      | true ↦ (up.0, filter_rises p (Some k.etag) ks up.1)
      | false ↦ lower low k.etag (filter p ks) up.0 (filter_rises p (Some k.etag) ks up.1)
    ]

past_rises : (e : ℕ) (low : Option ℕ) (ks : List KeptRow) → EtagsRise low ks → EtagsRise (Some e) (filter (is_past (Some e)) ks)
past_rises e low [] up = tt
past_rises e low (k ∷ ks) up =
    elim (nat_lt e k.etag) as (λ b. nat_lt e k.etag ≡ b → EtagsRise (Some e) (cond b (k ∷ filter (is_past (Some e)) ks) (filter (is_past (Some e)) ks))) [
      | true ↦ λ h. (ltb-true e k.etag h, filter_rises (is_past (Some e)) (Some k.etag) ks up.1)
      | false ↦ λ h. past_rises e (Some k.etag) ks up.1
    ] refl

all_past : (after : Option ℕ) (ks : List KeptRow) → EtagsRise None ks → EtagsRise after (filter (is_past after) ks)
all_past None ks up = filter_rises (is_past None) None ks up
all_past (Some e) ks up = past_rises e None ks up

pub loaded_rises : (after : Option ℕ) (max : ℕ) (held found : List KeptRow) → EtagsRise None held → found ≡ kept_after after max held → EtagsRise after found
loaded_rises after max held found up is = subst (EtagsRise after) (sym is) (take_rises after max (filter (is_past after) held) (all_past after held up))
