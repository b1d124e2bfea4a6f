-- Rows in order of their ids, and in order of their collections.
use Rattle.std.proofs.Common.{◌≡◌, ℕ, zero, suc, ◌<◌, ◌≤◌, ◌+◌, List, [], ◌∷◌, ◌++◌, Bool, true, false, cond, not, ◌&&◌, ◌↔◌, ◌⊎◌, inl, inr, Option, Some, None, All, IsPermutation, filter, length, take, drop, get_or, unwrap_or, slice_get, append_assoc, append-nil, take-append-drop, refl, sym, ap, ◌∙◌, subst, arith}
use Rattle.std.specs.declared.cmp.Ordering.{Ordering}
use Rattle.std.specs.declared.cmp.Ordering.TheVariants.{Less, Equal, Greater}
use Rattle.std.specs.Str.{bytes_eq}
use Rattle.std.specs.Cmp.Lexicographic.{nat_list_cmp_total, nat_list_eq_equiv}
use Rattle.std.specs.List.Sorted.{IsSortedBy, IsStableBy, ties}
use Rattle.std.specs.Map.{lookup}
use Rattle.std.specs.BTreeMap.{is_at, insert_entry}
use Rattle.std.specs.Ordering.{is_eq, is_lt, ordering_reverse}
use Rattle.std.proofs.lemmas.Cmp.{tied_itself}
use Rattle.std.proofs.lemmas.List.{drop_more, length-drop, length-take, take_more}
use Rattle.std.proofs.lemmas.List.Elements.{All-cons, All-head, All-tail, filter-append, filter_agree}
use Rattle.std.proofs.lemmas.List.Sorted.{All-permutation, ranks_by, sorted_far}
use Rattle.std.proofs.lemmas.Map.Text.{is_eq-slice_cmp}
use Rattle.std.proofs.lemmas.Slice.Eq.{bytes_eq-Decides}
use Rattle.spec_data.specs.Folding.{folded, key_cmp, same_key}
use Rattle.spec_data.specs.Rows.{Row, gone, key}
use Rattle.spec_store.specs.Store.{AreApart, row_at}
use Rattle.doc_store.specs.Bounds.{AreRows}
use Rattle.spec_store.proofs.KeyedLemmas.{key_ties}
use Rattle.spec_store.proofs.StoreLemmas.{AreApart-filter, AreRising-filter}
use Rattle.paged_map.specs.Pairs.{AllAnswer, IsRising}
use Rattle.paged_map.proofs.Laws.{lookup-insert_entry}
use Rattle.paged_map.proofs.Rising.{less_after_at}
use Rattle.doc_store.specs.Maps.{AreByCollection, AreFiled, NoneBelow, by_id, id_cmp, is_of, rows_of}
use Rattle.doc_store.proofs.MapLemmas.{id_total}

-- BY ID

-- the order of pairs, as the sort tests it
abbrev pub id_below : List ℕ × Row → List ℕ × Row → Bool
id_below a b = is_lt (id_cmp a.0 b.0)

-- the clauses of a sort speak of pairs, and of a pair only its id counts
none : Row
none = record { etag = 0; id = []; collection = []; body = gone; changed = 0 }

-- the pairs of an id
abbrev at : List ℕ → List (List ℕ × Row) → List (List ℕ × Row)
at q es = filter (ties id_below (q, none)) es

neither_less : (a b : Ordering) → b ≡ ordering_reverse a → not (is_lt a) && not (is_lt b) ≡ is_eq a
neither_less a b turned =
    ap (λ o. not (is_lt a) && not (is_lt o)) turned ∙ elim a as (λ o. not (is_lt o) && not (is_lt (ordering_reverse o)) ≡ is_eq o) [ Less ↦ refl | Equal ↦ refl | Greater ↦ refl ]

ties_is : (q k : List ℕ) → not (is_lt (id_cmp q k)) && not (is_lt (id_cmp k q)) ≡ is_eq (id_cmp q k)
ties_is q k = neither_less (id_cmp q k) (id_cmp k q) (id_total.antisymm k q)

abbrev value_first : List (List ℕ × Row) → Option Row
value_first [] = None
value_first (e ∷ es) = Some e.1

-- a look-up finds the first of them
lookup_first : (q : List ℕ) (es : List (List ℕ × Row)) → lookup (is_at (id_cmp q)) es ≡ value_first (at q es)
lookup_first q [] = refl
lookup_first q (e ∷ es) =
    elim (is_eq (id_cmp q e.0)) as (λ b. cond b (Some e.1) (lookup (is_at (id_cmp q)) es) ≡ value_first (cond b (e ∷ at q es) (at q es))) [ true ↦ refl | false ↦ lookup_first q es ]
    ∙ sym (ap (λ b. value_first (cond b (e ∷ at q es) (at q es))) (ties_is q e.0))

lookup-by_id : (q : List ℕ) (rows : List Row) → lookup (is_at (id_cmp q)) (by_id rows) ≡ row_at (folded q) rows
lookup-by_id q [] = refl
lookup-by_id q (r ∷ rows) =
    ap (λ b. cond b (Some r) (lookup (is_at (id_cmp q)) (by_id rows))) (is_eq-slice_cmp (folded q) (folded r.id)) ∙ ap (cond (same_key (folded q) (key r)) (Some r)) (lookup-by_id q rows)

pub sorted_found : (rows : List Row) (pairs : List (List ℕ × Row)) → IsStableBy id_below (by_id rows) pairs → (q : List ℕ) → lookup (is_at (id_cmp q)) pairs ≡ row_at (folded q) rows
sorted_found rows pairs stable q = lookup_first q pairs ∙ ap value_first (stable (q, none)) ∙ sym (lookup_first q (by_id rows)) ∙ lookup-by_id q rows

-- under its own id
abbrev is_filed : List ℕ × Row → Type 0
is_filed e = folded e.0 ≡ key e.1

all_filed : (rows : List Row) → All is_filed (by_id rows)
all_filed [] = λ k d lt. absurd (omega arith)
all_filed (r ∷ rows) = All-cons is_filed (r.id, r) (by_id rows) refl (all_filed rows)

filed_all : (es : List (List ℕ × Row)) → All is_filed es → AreFiled es
filed_all [] all = tt
filed_all (e ∷ es) all = (All-head is_filed e es all, filed_all es (All-tail is_filed e es all))

pub sorted_filed : (rows : List Row) (pairs : List (List ℕ × Row)) → IsPermutation (by_id rows) pairs → AreFiled pairs
sorted_filed rows pairs same = filed_all pairs (All-permutation is_filed (by_id rows) pairs same (all_filed rows))

-- ONE ROW FOR EACH ID

-- in a list that rises
none_after : (q : List ℕ) (es : List (List ℕ × Row)) → AllAnswer id_cmp q Less es → at q es ≡ []
none_after q [] all = refl
none_after q (e ∷ es) all = ap (λ b. cond b (e ∷ at q es) (at q es)) (ties_is q e.0 ∙ ap is_eq all.0) ∙ none_after q es all.1

rising_one : (q : List ℕ) (es : List (List ℕ × Row)) → IsRising id_cmp es → length (at q es) ≤ 1
rising_one q [] up = omega arith
rising_one q (e ∷ es) up =
    subst (λ b. length (cond b (e ∷ at q es) (at q es)) ≤ 1) (sym (ties_is q e.0))
    (elim (is_eq (id_cmp q e.0)) as (λ b. is_eq (id_cmp q e.0) ≡ b → length (cond b (e ∷ at q es) (at q es)) ≤ 1) [
      | true ↦ λ t. let none_more = ap length (none_after q es (less_after_at id_cmp id_total q e.0 es (tie (id_cmp q e.0) t) up.0)) in omega arith
      | false ↦ λ t. rising_one q es up.1
    ] refl)
  where
    tie : (o : Ordering) → is_eq o ≡ true → o ≡ Equal
    tie Less h = absurd cc
    tie Equal h = refl
    tie Greater h = absurd cc

-- of a list whose first passes, and which has one that passes, the rest has none
no_more : (e : List ℕ × Row) (rest : List (List ℕ × Row)) → length (e ∷ rest) ≤ 1 → rest ≡ []
no_more e [] le = refl
no_more e (d ∷ rest) le = absurd (omega arith)

no_value : (es : List (List ℕ × Row)) → value_first es ≡ None → es ≡ []
no_value [] h = refl
no_value (e ∷ es) h = absurd cc

own : (r : Row) (es : List (List ℕ × Row)) → at r.id ((r.id, r) ∷ es) ≡ (r.id, r) ∷ at r.id es
own r es = ap (λ b. cond b ((r.id, r) ∷ at r.id es) (at r.id es)) (ties_is r.id r.id ∙ ap is_eq (tied_itself id_total r.id))

fewer : (q : List ℕ) (e : List ℕ × Row) (es : List (List ℕ × Row)) → length (at q (e ∷ es)) ≤ 1 → length (at q es) ≤ 1
fewer q e es = elim (ties id_below (q, none) e) as (λ b. length (cond b (e ∷ at q es) (at q es)) ≤ 1 → length (at q es) ≤ 1) [ true ↦ λ le. omega arith | false ↦ λ le. le ]

-- in rows that are apart
one_apart : (rows : List Row) → ((q : List ℕ) → length (at q (by_id rows)) ≤ 1) → AreApart rows
one_apart [] one = tt
one_apart (r ∷ rows) one = (
  sym (lookup-by_id r.id rows) ∙ lookup_first r.id (by_id rows) ∙ ap value_first (no_more (r.id, r) (at r.id (by_id rows)) (subst (λ es. length es ≤ 1) (own r (by_id rows)) (one r.id))),
  one_apart rows (λ q. fewer q (r.id, r) (by_id rows) (one q)),
)

apart_one : (rows : List Row) → AreApart rows → (q : List ℕ) → length (at q (by_id rows)) ≤ 1
apart_one [] apart q = omega arith
apart_one (r ∷ rows) apart q =
    subst (λ b. length (cond b ((r.id, r) ∷ at q (by_id rows)) (at q (by_id rows))) ≤ 1) (sym (ties_is q r.id))
    (elim (id_cmp q r.id) as (λ o. id_cmp q r.id ≡ o → length (cond (is_eq o) ((r.id, r) ∷ at q (by_id rows)) (at q (by_id rows))) ≤ 1) [
      | Less ↦ λ t. apart_one rows apart.1 q
      | Equal ↦ λ t.
          let absent : row_at (folded q) rows ≡ None = ap (λ k. row_at k rows) (key_ties (folded q) (folded r.id) t) ∙ apart.0 in
          let none_other = ap length (no_value (at q (by_id rows)) (sym (lookup_first q (by_id rows)) ∙ lookup-by_id q rows ∙ absent)) in omega arith
      | Greater ↦ λ t. apart_one rows apart.1 q
    ] refl)

-- in a list that is sorted
less_is : (o : Ordering) → is_lt (ordering_reverse o) ≡ false → is_eq o ≡ false → o ≡ Less
less_is Less h g = refl
less_is Equal h g = absurd cc
less_is Greater h g = absurd cc

below_all : (q : List ℕ) (es : List (List ℕ × Row)) → ((j : ℕ) (d : List ℕ × Row) → j < length es → is_lt (id_cmp (get_or es j d).0 q) ≡ false) → at q es ≡ [] → AllAnswer id_cmp q Less es
below_all q [] sorted alone = tt
below_all q (e ∷ es) sorted alone =
    elim (is_eq (id_cmp q e.0)) as (λ b. is_eq (id_cmp q e.0) ≡ b → cond b (e ∷ at q es) (at q es) ≡ [] → AllAnswer id_cmp q Less (e ∷ es)) [
      | true ↦ λ t is. absurd cc
      | false ↦ λ t is. (less_is (id_cmp q e.0) (sym (ap is_lt (id_total.antisymm e.0 q)) ∙ sorted 0 e (omega arith)) t, below_all q es (λ j d lt. sorted (suc j) d (omega arith)) is)
    ] refl (sym (ap (λ b. cond b (e ∷ at q es) (at q es)) (ties_is q e.0)) ∙ alone)

one_rising : (es : List (List ℕ × Row)) → ((i j : ℕ) (d : List ℕ × Row) → i ≤ j → j < length es → id_below (get_or es j d) (get_or es i d) ≡ false) → ((q : List ℕ) → length (at q es) ≤ 1) → IsRising id_cmp es
one_rising [] sorted one = tt
one_rising (e ∷ es) sorted one = (
  below_all e.0 es (λ j d lt. sorted 0 (suc j) d (omega arith) (omega arith)) (no_more e (at e.0 es) (subst (λ (xs : List (List ℕ × Row)). length xs ≤ 1) own_first (one e.0))),
  one_rising es (λ i j d le lt. sorted (suc i) (suc j) d (omega arith) (omega arith)) (λ q. fewer q e es (one q)),
)
  where
    own_first : at e.0 (e ∷ es) ≡ e ∷ at e.0 es
    own_first = ap (λ b. cond b (e ∷ at e.0 es) (at e.0 es)) (ties_is e.0 e.0 ∙ ap is_eq (tied_itself id_total e.0))

-- the sorted pairs rise exactly if no two rows have one id
pub sorted_apart : (rows : List Row) (pairs : List (List ℕ × Row)) → IsSortedBy id_below pairs → IsStableBy id_below (by_id rows) pairs → IsRising id_cmp pairs ↔ AreApart rows
sorted_apart rows pairs sorted stable = (
  λ up. one_apart rows (λ q. subst (λ es. length es ≤ 1) (stable (q, none)) (rising_one q pairs up)),
  λ apart. one_rising pairs (sorted_far id_below (ranks_by id_total (λ e. e.0)) pairs sorted) (λ q. subst (λ es. length es ≤ 1) (sym (stable (q, none))) (apart_one rows apart q)),
)

-- BY COLLECTION

abbrev pub collection_below : Row → Row → Bool
collection_below a b = is_lt (key_cmp a.collection b.collection)

abbrev of : List ℕ → Row
of c = record { etag = 0; id = []; collection = c; body = gone; changed = 0 }

ties_of : (c : List ℕ) (r : Row) → ties collection_below (of c) r ≡ is_of c r
ties_of c r =
    neither_less (key_cmp c r.collection) (key_cmp r.collection c) (nat_list_cmp_total.antisymm r.collection c)
    ∙ is_eq-slice_cmp c r.collection ∙ nat_list_eq_equiv.symm c r.collection

pub sorted_same : (rows sorted : List Row) → IsStableBy collection_below rows sorted → (c : List ℕ) → filter (is_of c) sorted ≡ filter (is_of c) rows
sorted_same rows sorted stable c =
    filter_agree (is_of c) (ties collection_below (of c)) (λ r. sym (ties_of c r)) sorted ∙ stable (of c) ∙ filter_agree (ties collection_below (of c)) (is_of c) (ties_of c) rows

none_below : (c : List ℕ) (rows : List Row) → ((j : ℕ) (d : Row) → j < length rows → is_lt (key_cmp (get_or rows j d).collection c) ≡ false) → NoneBelow c rows
none_below c [] sorted = tt
none_below c (r ∷ rows) sorted = (sorted 0 r (omega arith), none_below c rows (λ j d lt. sorted (suc j) d (omega arith)))

in_order : (rows : List Row) → ((i j : ℕ) (d : Row) → i ≤ j → j < length rows → collection_below (get_or rows j d) (get_or rows i d) ≡ false) → AreByCollection rows
in_order [] sorted = tt
in_order (r ∷ rows) sorted = (none_below r.collection rows (λ j d lt. sorted 0 (suc j) d (omega arith) (omega arith)), in_order rows (λ i j d le lt. sorted (suc i) (suc j) d (omega arith) (omega arith)))

pub sorted_in_order : (rows : List Row) → IsSortedBy collection_below rows → AreByCollection rows
sorted_in_order rows sorted = in_order rows (sorted_far collection_below (ranks_by nat_list_cmp_total (λ r. r.collection)) rows sorted)

-- THE FIRST GROUP

-- what is of a collection is of no other
none_other : (c d : List ℕ) (rows : List Row) → bytes_eq d c ≡ false → filter (is_of c) (filter (is_of d) rows) ≡ []
none_other c d [] differ = refl
none_other c d (r ∷ rows) differ =
    elim (is_of d r) as (λ b. is_of d r ≡ b → filter (is_of c) (cond b (r ∷ filter (is_of d) rows) (filter (is_of d) rows)) ≡ []) [
      | true ↦ λ t. ap (λ k. cond (bytes_eq k c) (r ∷ filter (is_of c) (filter (is_of d) rows)) (filter (is_of c) (filter (is_of d) rows))) ((bytes_eq-Decides r.collection d).0 t)
          ∙ ap (λ b. cond b (r ∷ filter (is_of c) (filter (is_of d) rows)) (filter (is_of c) (filter (is_of d) rows))) differ ∙ none_other c d rows differ
      | false ↦ λ t. none_other c d rows differ
    ] refl

none_above : (c k : List ℕ) (rows : List Row) → key_cmp c k ≡ Less → NoneBelow k rows → filter (is_of c) rows ≡ []
none_above c k [] less above = refl
none_above c k (r ∷ rows) less above =
    elim (is_of c r) as (λ b. is_of c r ≡ b → cond b (r ∷ filter (is_of c) rows) (filter (is_of c) rows) ≡ []) [
      | true ↦ λ t. let two : true ≡ false = sym (ap is_lt (ap (λ x. key_cmp x k) ((bytes_eq-Decides r.collection c).0 t) ∙ less)) ∙ above.0 in absurd cc
      | false ↦ λ t. none_above c k rows less above.1
    ] refl

none_below-drop : (c : List ℕ) (n : ℕ) (rows : List Row) → NoneBelow c rows → NoneBelow c (drop n rows)
none_below-drop c zero rows h = h
none_below-drop c (suc n) [] h = tt
none_below-drop c (suc n) (r ∷ rows) h = none_below-drop c n rows h.1

pub in_order-drop : (n : ℕ) (rows : List Row) → AreByCollection rows → AreByCollection (drop n rows)
in_order-drop zero rows h = h
in_order-drop (suc n) [] h = tt
in_order-drop (suc n) (r ∷ rows) h = in_order-drop n rows h.1

-- the first of another collection is above this one, and so are those after it
first_other : (c : List ℕ) (r : Row) (rows : List Row) → AreByCollection (r ∷ rows) → NoneBelow c (r ∷ rows) → is_of c r ≡ false → filter (is_of c) (r ∷ rows) ≡ []
first_other c r rows ordered first other =
    ap (λ b. cond b (r ∷ filter (is_of c) rows) (filter (is_of c) rows)) other
    ∙ none_above c r.collection rows (less_is (key_cmp c r.collection) (sym (ap is_lt (nat_list_cmp_total.antisymm r.collection c)) ∙ first.0) (is_eq-slice_cmp c r.collection ∙ nat_list_eq_equiv.symm c r.collection ∙ other)) ordered.0

pub group_on : (c : List ℕ) (rows : List Row) (i : ℕ) (r : Row) → i < length rows → get_or rows i r ≡ r → is_of c r ≡ true → filter (is_of c) rows ≡ take i rows ++ filter (is_of c) (drop i rows)
    → filter (is_of c) rows ≡ take (i + 1) rows ++ filter (is_of c) (drop (i + 1) rows)
group_on c rows i r lt is one was =
    was ∙ ap (λ xs. take i rows ++ filter (is_of c) xs) (drop_more rows i r lt ∙ ap (λ x. x ∷ drop (i + 1) rows) is)
    ∙ ap (λ b. take i rows ++ cond b (r ∷ filter (is_of c) (drop (i + 1) rows)) (filter (is_of c) (drop (i + 1) rows))) one
    ∙ sym (append_assoc (take i rows) (r ∷ []) (filter (is_of c) (drop (i + 1) rows)))
    ∙ ap (λ xs. xs ++ filter (is_of c) (drop (i + 1) rows)) (sym (take_more rows i r lt ∙ ap (λ x. take i rows ++ x ∷ []) is))

pub group_ends : (c : List ℕ) (rows : List Row) (i : ℕ) (r : Row) → AreByCollection rows → NoneBelow c rows → i < length rows → get_or rows i r ≡ r → is_of c r ≡ false → filter (is_of c) (drop i rows) ≡ []
group_ends c rows i r ordered first lt is other =
    let rest : drop i rows ≡ r ∷ drop (i + 1) rows = drop_more rows i r lt ∙ ap (λ x. x ∷ drop (i + 1) rows) is in
    ap (filter (is_of c)) rest ∙ first_other c r (drop (i + 1) rows) (subst AreByCollection rest (in_order-drop i rows ordered)) (subst (NoneBelow c) rest (none_below-drop c i rows first)) other

pub group_is : (c : List ℕ) (rows : List Row) (i : ℕ) → filter (is_of c) (drop i rows) ≡ [] → filter (is_of c) rows ≡ take i rows ++ filter (is_of c) (drop i rows) → take i rows ≡ filter (is_of c) rows
group_is c rows i none was = sym (was ∙ ap (λ xs. take i rows ++ xs) none ∙ append-nil (take i rows))

-- GROUP AFTER GROUP

-- the rows of a collection are in the map, or they are all left
abbrev pub IsPlaced : List (List ℕ × List Row) → List Row → List Row → List ℕ → Type 0
IsPlaced collections rows rest c = ((rows_of collections c ≡ filter (is_of c) rows) × (filter (is_of c) rest ≡ [])) ⊎ ((rows_of collections c ≡ []) × (filter (is_of c) rest ≡ filter (is_of c) rows))

pub first_below : (r : Row) (rest : List Row) → slice_get rest 0 ≡ Some r → AreByCollection rest → NoneBelow r.collection rest
first_below r [] at ordered = absurd cc
first_below r (x ∷ rest) at ordered = let same : x ≡ r = cc in subst (λ (y : Row). NoneBelow y.collection (x ∷ rest)) same (ap is_lt (tied_itself nat_list_cmp_total x.collection), ordered.0)

-- the rows of a collection are a store's
pub group_sound : (collections : List (List ℕ × List Row)) (rows rest group : List Row) (c : List ℕ) → AreRows rows → IsPlaced collections rows rest c → group ≡ filter (is_of c) rest
    → AreRows group
group_sound collections rows rest group c s (inl placed) is = subst (λ (xs : List Row). AreRows xs) (sym (is ∙ placed.1)) (record { rising = tt; apart = tt })
group_sound collections rows rest group c s (inr left) is =
    subst (λ (xs : List Row). AreRows xs) (sym (is ∙ left.1)) (record { rising = AreRising-filter 0 (is_of c) rows s.rising; apart = AreApart-filter (is_of c) rows s.apart })

own_some : (r : Row) (rest : List Row) → slice_get rest 0 ≡ Some r → 1 ≤ length (filter (is_of r.collection) rest)
own_some r [] at = absurd cc
own_some r (x ∷ rest) at =
    let same : x ≡ r = cc in
    subst (λ b. 1 ≤ length (cond b (x ∷ filter (is_of r.collection) rest) (filter (is_of r.collection) rest))) (sym ((bytes_eq-Decides x.collection r.collection).1 (ap (λ (y : Row). y.collection) same))) (omega arith)

-- the group of the first row has rows
pub fewer_left : (r : Row) (rest : List Row) (n : ℕ) → slice_get rest 0 ≡ Some r → n ≤ length rest → take n rest ≡ filter (is_of r.collection) rest → length (drop n rest) < length rest
fewer_left r rest n at le is = let some = own_some r rest at in let long = ap length is in omega (arith, length-take n rest, length-drop n rest)

pub placed_on : (collections next : List (List ℕ × List Row)) (rows rest : List Row) (r : Row) (n : ℕ) (name : List ℕ) (group : List Row) → slice_get rest 0 ≡ Some r → name ≡ r.collection → group ≡ take n rest
    → take n rest ≡ filter (is_of r.collection) rest → filter (is_of r.collection) (drop n rest) ≡ [] → next ≡ insert_entry key_cmp collections name group
    → ((c : List ℕ) → IsPlaced collections rows rest c) → (c : List ℕ) → IsPlaced next rows (drop n rest) c
placed_on collections next rows rest r n name group at named is first others made was c =
    elim (is_of c r) as (λ b. is_of c r ≡ b → IsPlaced next rows (drop n rest) c) [
      | true ↦ λ t. subst (IsPlaced next rows (drop n rest)) ((bytes_eq-Decides r.collection c).0 t) (here (was r.collection))
      | false ↦ λ t. there t (was c)
    ] refl
  where
    read : (b : Bool) (o : Option (List Row)) → unwrap_or (cond b (Some group) o) [] ≡ cond b group (unwrap_or o [])
    read true o = refl
    read false o = refl

    now : (k : List ℕ) → rows_of next k ≡ cond (is_of k r) group (rows_of collections k)
    now k =
        ap (λ es. rows_of es k) made ∙ ap (λ o. unwrap_or o []) (lookup-insert_entry key_cmp nat_list_cmp_total k name group collections) ∙ read (is_eq (key_cmp k name)) (lookup (is_at (key_cmp k)) collections)
        ∙ ap (λ b. cond b group (rows_of collections k)) (is_eq-slice_cmp k name ∙ nat_list_eq_equiv.symm k name ∙ ap (λ x. bytes_eq x k) named)

    here : IsPlaced collections rows rest r.collection → IsPlaced next rows (drop n rest) r.collection
    here (inl placed) = absurd (let some = own_some r rest at in let none_left = ap length placed.1 in omega arith)
    here (inr left) =
        inl (now r.collection ∙ ap (λ b. cond b group (rows_of collections r.collection)) ((bytes_eq-Decides r.collection r.collection).1 refl) ∙ is ∙ first ∙ left.1, others)

    same : is_of c r ≡ false → filter (is_of c) (drop n rest) ≡ filter (is_of c) rest
    same t =
        sym (ap (filter (is_of c)) (sym (take-append-drop n rest)) ∙ filter-append (is_of c) (take n rest) (drop n rest)
        ∙ ap (λ xs. filter (is_of c) xs ++ filter (is_of c) (drop n rest)) first
        ∙ ap (λ xs. xs ++ filter (is_of c) (drop n rest)) (none_other c r.collection rest t))

    there : is_of c r ≡ false → IsPlaced collections rows rest c → IsPlaced next rows (drop n rest) c
    there t (inl placed) = inl (now c ∙ ap (λ b. cond b group (rows_of collections c)) t ∙ placed.0, same t ∙ placed.1)
    there t (inr left) = inr (now c ∙ ap (λ b. cond b group (rows_of collections c)) t ∙ left.0, same t ∙ left.1)

pub all_placed : (collections : List (List ℕ × List Row)) (rows : List Row) (c : List ℕ) → IsPlaced collections rows [] c → rows_of collections c ≡ filter (is_of c) rows
all_placed collections rows c (inl placed) = placed.0
all_placed collections rows c (inr left) = left.0 ∙ left.1
