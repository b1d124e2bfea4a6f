-- A walk over entries in order, from each to the next.
use Rattle.std.proofs.Common.{◌≡◌, ℕ, zero, suc, ◌+◌, ◌-◌, ◌<◌, ◌≤◌, List, [], ◌∷◌, ◌++◌, length, take, drop, Bool, true, false, cond, Option, Some, None, IfSome, filter, find, map, Ordering, Less, Equal, Greater, refl, sym, ap, subst, ◌∙◌, append_assoc, arith}
use Rattle.std.specs.Ordering.{is_lt, ordering_reverse}
use Rattle.std.specs.Cmp.Lexicographic.{nat_list_cmp_total}
use Rattle.std.proofs.lemmas.Cmp.{tied_itself}
use Rattle.std.proofs.lemmas.List.{append-nil}
use Rattle.spec_data.specs.Folding.{folded, key_cmp}
use Rattle.index_tree.specs.Meaning.{Fields}
use Rattle.spec_query.specs.Plan.{Plan, meeting, page, up_to}
use Rattle.reference_track.specs.Sets.{AreInOrder, IsBelowAll, id_cmp}
use Rattle.rql_filter.specs.Entries.{EntryList, ids_of, is_past}
use Rattle.rql_eval.proofs.Paging.{plain_page}

abbrev Entry : Type 0
Entry = List ℕ × Fields

-- THE ENTRIES PAST AN ID

abbrev pub after : Option (List ℕ) → EntryList → EntryList
after q es = filter (λ e. is_past q e.0) es

pub after_none : (es : EntryList) → after None es ≡ es
after_none [] = refl
after_none (e ∷ es) = ap (λ (l : EntryList). e ∷ l) (after_none es)

less_of : (o : Ordering) → is_lt o ≡ true → o ≡ Less
less_of Less h = refl
less_of Equal h = absurd cc
less_of Greater h = absurd cc

past_next : (q : Option (List ℕ)) (x y : List ℕ) → is_past q x ≡ true → id_cmp x y ≡ Less → is_past q y ≡ true
past_next None x y h below = refl
past_next (Some q) x y h below = ap is_lt (nat_list_cmp_total.trans q (folded x) (folded y) (less_of (key_cmp q (folded x)) h) below)

-- all are past an id if one is that is below them all
past_all : (q : Option (List ℕ)) (x : List ℕ) (es : EntryList) → is_past q x ≡ true → IsBelowAll x (ids_of es) → after q es ≡ es
past_all q x [] h below = refl
past_all q x (e ∷ es) h below = ap (λ b. cond b (e ∷ after q es) (after q es)) (past_next q x e.0 h below.0) ∙ ap (λ (l : EntryList). e ∷ l) (past_all q x es h below.1)

past_these : (x : List ℕ) (es : EntryList) → IsBelowAll x (ids_of es) → after (Some (folded x)) es ≡ es
past_these x [] below = refl
past_these x (e ∷ es) below = ap (λ b. cond b (e ∷ after (Some (folded x)) es) (after (Some (folded x)) es)) (ap is_lt below.0) ∙ ap (λ (l : EntryList). e ∷ l) (past_these x es below.1)

past_itself : (x : Entry) (es : EntryList) → IsBelowAll x.0 (ids_of es) → after (Some (folded x.0)) (x ∷ es) ≡ es
past_itself x es below = ap (λ b. cond b (x ∷ after (Some (folded x.0)) es) (after (Some (folded x.0)) es)) (ap is_lt (tied_itself nat_list_cmp_total (folded x.0))) ∙ past_these x.0 es below

past_before : (x e : Entry) (es : EntryList) → id_cmp x.0 e.0 ≡ Less → after (Some (folded e.0)) (x ∷ es) ≡ after (Some (folded e.0)) es
past_before x e es below =
    ap (λ b. cond b (x ∷ after (Some (folded e.0)) es) (after (Some (folded e.0)) es)) (ap is_lt (nat_list_cmp_total.antisymm (folded e.0) (folded x.0) ∙ ap ordering_reverse below))

found_below : (p : Entry → Bool) (x : List ℕ) (es : EntryList) (e : Entry) → IsBelowAll x (ids_of es) → find p es ≡ Some e → id_cmp x e.0 ≡ Less
found_below p x [] e below h = absurd cc
found_below p x (y ∷ es) e below h =
    elim (p y) as (λ b. cond b (Some y) (find p es) ≡ Some e → id_cmp x e.0 ≡ Less) [
      | true ↦ λ is. let same : y ≡ e = cc in subst (λ (z : Entry). id_cmp x z.0 ≡ Less) same below.0
      | false ↦ λ is. found_below p x es e below.1 is
    ] h

-- the first that is past an id, and those that are past it
pub next_is : (q : Option (List ℕ)) (es : EntryList) (e : Entry) → AreInOrder (ids_of es) → find (λ e. is_past q e.0) es ≡ Some e → after q es ≡ e ∷ after (Some (folded e.0)) es
next_is q [] e up h = absurd cc
next_is q (x ∷ es) e up h =
    elim (is_past q x.0) as (λ b. is_past q x.0 ≡ b → cond b (Some x) (find (λ e. is_past q e.0) es) ≡ Some e → cond b (x ∷ after q es) (after q es) ≡ e ∷ after (Some (folded e.0)) (x ∷ es)) [
      | true ↦ λ past is.
          let same : x ≡ e = cc in
          subst (λ (z : Entry). x ∷ after q es ≡ z ∷ after (Some (folded z.0)) (x ∷ es)) same (ap (λ (l : EntryList). x ∷ l) (past_all q x.0 es past up.0 ∙ sym (past_itself x es up.0)))
      | false ↦ λ past is. next_is q es e up.1 is ∙ ap (λ (l : EntryList). e ∷ l) (sym (past_before x e es (found_below (λ e. is_past q e.0) x.0 es e up.0 is)))
    ] refl h

pub none_is : (q : Option (List ℕ)) (es : EntryList) → find (λ e. is_past q e.0) es ≡ None → after q es ≡ []
none_is q [] h = refl
none_is q (x ∷ es) h =
    elim (is_past q x.0) as (λ b. cond b (Some x) (find (λ e. is_past q e.0) es) ≡ None → cond b (x ∷ after q es) (after q es) ≡ []) [ true ↦ λ is. absurd cc | false ↦ λ is. none_is q es is ] h

-- THE PAGE

pub pushed : {A : Type 0} (f : A → Entry) (x : A) (xs ys : List A) → ys ≡ xs ++ x ∷ [] → map f ys ≡ map f xs ++ f x ∷ []
pushed {A = A} f x xs ys is = ap (map f) is ∙ each xs
  where
    each : (zs : List A) → map f (zs ++ x ∷ []) ≡ map f zs ++ f x ∷ []
    each [] = refl
    each (z ∷ zs) = ap (λ (l : EntryList). f z ∷ l) (each zs)

pub reads_left : (before now left most after : ℕ) → ¬ (left ≡ 0) → now + left ≤ before + most → after ≡ now + 1 → after + (left - 1) ≤ before + most
reads_left before now zero most after some h one = absurd (some refl)
reads_left before now (suc n) most after some h one = omega (arith, h, one)

pub skipped : (e : Entry) (more : EntryList) (skip : ℕ) → 0 < skip → drop skip (e ∷ more) ≡ drop (skip - 1) more
skipped e more zero h = absurd (omega arith)
skipped e more (suc n) h = let less : suc n - 1 ≡ n = omega arith in ap (λ k. drop k more) (sym less)

pub taken : (e : Entry) (more found : EntryList) (skip want : ℕ) → skip ≡ 0 → 0 < want → found ++ take want (drop skip (e ∷ more)) ≡ (found ++ e ∷ []) ++ take (want - 1) (drop skip more)
taken e more found skip want none some =
    ap (λ k. found ++ take want (drop k (e ∷ more))) none ∙ (ap (λ l. found ++ l) (first want some) ∙ (sym (append_assoc found (e ∷ []) (take (want - 1) more)) ∙ ap (λ k. (found ++ e ∷ []) ++ take (want - 1) (drop k more)) (sym none)))
  where
    first : (n : ℕ) → 0 < n → take n (e ∷ more) ≡ e ∷ take (n - 1) more
    first zero h = absurd (omega arith)
    first (suc n) h = let less : suc n - 1 ≡ n = omega arith in ap (λ k. e ∷ take k more) (sym less)

module _ (p : Entry → Bool) (es : EntryList) where
  -- what is found and what is still to come are the page
  abbrev pub IsPage : EntryList → EntryList → ℕ → ℕ → Option (List ℕ) → Type 0
  IsPage all found want skip last = all ≡ found ++ take want (drop skip (filter p (after last es)))

  pub page_starts : (want skip : ℕ) → IsPage (take want (drop skip (filter p es))) [] want skip None
  page_starts want skip = ap (λ l. take want (drop skip (filter p l))) (sym (after_none es))

  pub page_goes : (all found : EntryList) (want skip : ℕ) (last : Option (List ℕ)) (e : Entry) (met : Bool) → AreInOrder (ids_of es) → find (λ e. is_past last e.0) es ≡ Some e → met ≡ p e → IsPage all found want skip last
      → all ≡ found ++ take want (drop skip (cond met (e ∷ filter p (after (Some (folded e.0)) es)) (filter p (after (Some (folded e.0)) es))))
  page_goes all found want skip last e met up is are so =
      let rest = after (Some (folded e.0)) es in
      so ∙ (ap (λ l. found ++ take want (drop skip (filter p l))) (next_is last es e up is) ∙ ap (λ b. found ++ take want (drop skip (cond b (e ∷ filter p rest) (filter p rest)))) (sym are))

  pub page_ends : (all found : EntryList) (want skip : ℕ) (last : Option (List ℕ)) → find (λ e. is_past last e.0) es ≡ None → IsPage all found want skip last → found ≡ all
  page_ends all found want skip last none so = sym (so ∙ (ap (λ l. found ++ take want (drop skip (filter p l))) (none_is last es none) ∙ (ap (λ l. found ++ l) (nothing want skip) ∙ append-nil found)))
    where
      nothing : (m n : ℕ) → take m (drop n (let none : EntryList = [] in none)) ≡ []
      nothing zero zero = refl
      nothing zero (suc n) = refl
      nothing (suc m) zero = refl
      nothing (suc m) (suc n) = refl

  pub page_full : (all found : EntryList) (want skip : ℕ) (last : Option (List ℕ)) → want ≡ 0 → IsPage all found want skip last → found ≡ all
  page_full all found want skip last full so = sym (so ∙ (ap (λ n. found ++ take n (drop skip (filter p (after last es)))) full ∙ append-nil found))

-- ITS LENGTH

module _ (q : Plan) where
  take-length : {X : Type 0} (n : ℕ) (xs : List X) → take (length (take n xs)) xs ≡ take n xs
  take-length zero xs = refl
  take-length (suc n) [] = refl
  take-length (suc n) (x ∷ xs) = ap (λ l. x ∷ l) (take-length n xs)

  take-whole : {X : Type 0} (xs : List X) → take (length xs) xs ≡ xs
  take-whole [] = refl
  take-whole (x ∷ xs) = ap (λ l. x ∷ l) (take-whole xs)

  take-up_to : {X : Type 0} (size : Option ℕ) (xs : List X) → take (length (up_to size xs)) xs ≡ up_to size xs
  take-up_to None xs = take-whole xs
  take-up_to (Some n) xs = take-length n xs

  -- as many as the page has, from its start on, are the page
  pub page_of_length : (entries : EntryList) (size : ℕ) → q.order ≡ [] → length (up_to q.size (drop q.start (meeting q entries))) ≡ size → take size (drop q.start (meeting q entries)) ≡ page q entries
  page_of_length entries size plain is =
      ap (λ n. take n (drop q.start (meeting q entries))) (sym is) ∙ (take-up_to q.size (drop q.start (meeting q entries)) ∙ sym (plain_page q entries plain))

pub if_some : {A : Type 0} (P Q : A → Type 0) (o : Option A) → ((x : A) → P x → Q x) → IfSome o P → IfSome o Q
if_some P Q None f h = h
if_some P Q (Some x) f h = f x h
