-- The rows of a reduce can be reduced once more, together with other rows.
use Rattle.std.proofs.Common.{◌≡◌, ℕ, length, List, [], ◌∷◌, ◌++◌, Bool, true, false, not, cond, ◌&&◌, ◌||◌, filter, map, flat_map, unwrap_or, T, Option, Some, None, refl, sym, ap, ◌∙◌, subst, ◌⊎◌, inl, inr}
use Rattle.std.proofs.lemmas.Slice.Eq.{bytes_eq-Decides}
use Rattle.std.specs.declared.cmp.Ordering.{Ordering}
use Rattle.std.specs.declared.cmp.Ordering.TheVariants.{Less, Equal, Greater}
use Rattle.std.specs.Cmp.{IsTotalOrder}
use Rattle.std.specs.FinMap.{FinMap, IsAntisymmetric, empty, entries, entries-insert, entries_sorted, find as entry_at, from_entries, get, get-entries, is_sorted, len-empty, len-entries, same_map, values}
use Rattle.std.specs.FinMap.Entries.{below_all, by_order, put as put_entry}
use Rattle.std.specs.List.{list_all, list_any, zip}
use Rattle.std.specs.Ordering.{is_eq, is_lt}
use Rattle.std.specs.Str.{bytes_eq}
use Rattle.spec_data.specs.Rising.{put}
use Rattle.spec_data.specs.Scalars.{Scalar, nothing}
use Rattle.index_tree.specs.Meaning.{Fields, field_named}
use Rattle.index_tree.specs.declared.reduce_query.FoldKind.{FoldKind}
use Rattle.index_tree.specs.declared.reduce_query.FoldKind.TheVariants as kind
use Rattle.index_tree.specs.declared.reduce_query.FoldMember.{FoldMember}
use Rattle.index_tree.specs.declared.reduce_query.FoldValue.{FoldValue}
use Rattle.index_tree.specs.declared.reduce_query.FoldValue.TheVariants as value
use Rattle.index_tree.specs.declared.reduce_query.ReduceQuery.{ReduceQuery}
use Rattle.spec_index.specs.Again.{are_apart, gives_key, gives_part, is_sum_of, is_summed, keeps_name, reduces_again}
use Rattle.spec_index.specs.Folds.{addend, as_one, both, quotient_of, sum_of}
use Rattle.spec_index.specs.Rows.{IsReordered, Key, column, group, key_of, key_order, member_value, reduced, row_of, row_with, rows_of, value_at}
use Rattle.spec_index.proofs.Folding.{as_one_parted}
use Rattle.spec_index.proofs.Reordering.{fold_parted, reduced_reordered, rows_at}
use Rattle.spec_index.proofs.Ties.{key_order-total, key_ties}
use Rattle.spec_store.proofs.StoreLemmas.{both_true, either_false}
use Rattle.spec_server.specs.Sound.{Has}
use Rattle.raven_laws.proofs.AlikeGroups.{Named, puts, puts-named}
use Rattle.raven_laws.proofs.SlotLemmas.{Has-map, Has-mapped, every, none_passes, some}

-- LISTS

any-append : {X : Type 0} (p : X → Bool) (xs ys : List X) → list_any p (xs ++ ys) ≡ (list_any p xs || list_any p ys)
any-append p [] ys = refl
any-append p (x ∷ xs) ys = elim (p x) as (λ b. (b || list_any p (xs ++ ys)) ≡ ((b || list_any p xs) || list_any p ys)) [ true ↦ refl | false ↦ any-append p xs ys ]

append-assoc : {X : Type 0} (xs ys zs : List X) → (xs ++ ys) ++ zs ≡ xs ++ (ys ++ zs)
append-assoc [] ys zs = refl
append-assoc (x ∷ xs) ys zs = ap (λ l. x ∷ l) (append-assoc xs ys zs)

append-nil : {X : Type 0} (xs : List X) → xs ++ [] ≡ xs
append-nil [] = refl
append-nil (x ∷ xs) = ap (λ l. x ∷ l) (append-nil xs)

-- what comes first may come last
turned : {X : Type 0} (xs ys : List X) → IsReordered (xs ++ ys) (ys ++ xs)
turned [] [] = refl
turned [] (y ∷ ys) = ([], (ys ++ [], (refl, turned [] ys)))
turned (x ∷ xs) ys = (ys, (xs, (refl, turned xs ys)))

none-kept : {X : Type 0} (p : X → Bool) (xs : List X) → list_any p xs ≡ false → filter p xs ≡ []
none-kept p [] h = refl
none-kept p (x ∷ xs) h =
    let e = either_false (p x) (list_any p xs) h in
    ap (λ b. cond b (x ∷ filter p xs) (filter p xs)) e.0 ∙ none-kept p xs e.1

abbrev is_some_list : {X : Type 0} → List X → Bool
is_some_list [] = false
is_some_list (x ∷ xs) = true

any-kept : {X : Type 0} (p : X → Bool) (xs : List X) → list_any p xs ≡ is_some_list (filter p xs)
any-kept p [] = refl
any-kept p (x ∷ xs) = elim (p x) as (λ b. (b || list_any p xs) ≡ is_some_list (cond b (x ∷ filter p xs) (filter p xs))) [ true ↦ refl | false ↦ any-kept p xs ]

abbrev listed : {X : Type 0} → Option X → List X
listed None = []
listed (Some x) = x ∷ []

-- VALUES OF A MAP that tell their keys

module _ {K X : Type 0} (R : K → K → Ordering) (o : IsTotalOrder R) (ties : IsAntisymmetric R) (of : X → K) where
  abbrev Tells : List (K × X) → Type 0
  Tells es = (e : K × X) → Has es e → of e.1 ≡ e.0

  abbrev has_key : K → X → Bool
  has_key q v = is_eq (R q (of v))

  tells-put : (k : K) (v : X) (es : List (K × X)) → of v ≡ k → Tells es → Tells (put_entry R k v es)
  tells-put k v [] is all e (inl same) = ap (λ (y : K × X). of y.1) (sym same) ∙ is ∙ ap (λ (y : K × X). y.0) same
  tells-put k v [] is all e (inr more) = absurd more
  tells-put k v (x ∷ es) is all e at = by (tells-put k v es is (λ y there. all y (inr there))) (R k x.0) refl e at
    where
      here : (j : K) → k ≡ j → (e : K × X) → (j, v) ≡ e → of e.1 ≡ e.0
      here j t e same = ap (λ (y : K × X). of y.1) (sym same) ∙ is ∙ t ∙ ap (λ (y : K × X). y.0) same

      by : Tells (put_entry R k v es) → (r : Ordering) → R k x.0 ≡ r → Tells (by_order r ((k, v) ∷ x ∷ es) ((x.0, v) ∷ es) (x ∷ put_entry R k v es))
      by rest Less t e (inl same) = here k refl e same
      by rest Less t e (inr more) = all e more
      by rest Equal t e (inl same) = here x.0 (ties k x.0 t) e same
      by rest Equal t e (inr more) = all e (inr more)
      by rest Greater t e (inl same) = all e (inl same)
      by rest Greater t e (inr more) = rest e more

  -- above a key there is no other entry with it
  none-below : (q k : K) (es : List (K × X)) → R q k ≡ Equal → T (below_all R k es) → Tells es → list_any (has_key q) (map (λ e. e.1) es) ≡ false
  none-below q k [] t below all = refl
  none-below q k (e ∷ es) t below all = by (λ b. none-below q k es t b (λ y at. all y (inr at))) (R k e.0) refl below
    where
      by : (T (below_all R k es) → list_any (has_key q) (map (λ y. y.1) es) ≡ false) → (r : Ordering) → R k e.0 ≡ r → T (is_lt r && below_all R k es)
          → list_any (has_key q) (map (λ y. y.1) (e ∷ es)) ≡ false
      by rest Less f b = ap (λ r. is_eq r || list_any (has_key q) (map (λ y. y.1) es)) (ap (R q) (all e (inl refl)) ∙ o.congr q k e.0 t ∙ f) ∙ rest b
      by rest Equal f b = absurd b
      by rest Greater f b = absurd b

  second : (a b : Bool) → T (a && b) → (T a) × (T b)
  second true b h = (tt, h)
  second false b h = absurd h

  told-kept : (q : K) (es : List (K × X)) → T (is_sorted R es) → Tells es → filter (has_key q) (map (λ e. e.1) es) ≡ listed (entry_at R q es)
  told-kept q [] sorted all = refl
  told-kept q (e ∷ es) sorted all = by (R q e.0) refl (told-kept q es (second _ _ sorted).1 (λ y at. all y (inr at)))
    where
      at : R q (of e.1) ≡ R q e.0
      at = ap (R q) (all e (inl refl))

      kept : (r : Ordering) → R q e.0 ≡ r → filter (has_key q) (map (λ y. y.1) (e ∷ es)) ≡ cond (is_eq r) (e.1 ∷ filter (has_key q) (map (λ y. y.1) es)) (filter (has_key q) (map (λ y. y.1) es))
      kept r f = ap (λ s. cond (is_eq s) (e.1 ∷ filter (has_key q) (map (λ y. y.1) es)) (filter (has_key q) (map (λ y. y.1) es))) (at ∙ f)

      by : (r : Ordering) → R q e.0 ≡ r → filter (has_key q) (map (λ y. y.1) es) ≡ listed (entry_at R q es)
          → filter (has_key q) (map (λ y. y.1) (e ∷ es)) ≡ listed (cond (is_eq (R q e.0)) (Some e.1) (entry_at R q es))
      by Less f h = kept Less f ∙ h ∙ ap (λ s. listed (cond (is_eq s) (Some e.1) (entry_at R q es))) (sym f)
      by Equal f h =
          kept Equal f ∙ ap (λ l. e.1 ∷ l) (none-kept (has_key q) (map (λ y. y.1) es) (none-below q e.0 es f (second _ _ sorted).0 (λ y at. all y (inr at))))
          ∙ ap (λ s. listed (cond (is_eq s) (Some e.1) (entry_at R q es))) (sym f)
      by Greater f h = kept Greater f ∙ h ∙ ap (λ s. listed (cond (is_eq s) (Some e.1) (entry_at R q es))) (sym f)

  no-entries : (es : List (K × X)) → length es ≡ 0 → Tells es
  no-entries [] z e at = absurd at
  no-entries (x ∷ es) z e at = absurd cc

  tells-from : (es : List (K × X)) → Tells es → Tells (entries (from_entries {R = R} es))
  tells-from [] all = no-entries (entries (empty {X = X} {R = R})) (sym (len-entries (empty {X = X} {R = R})) ∙ len-empty R X)
  tells-from (e ∷ es) all =
      subst Tells (sym (entries-insert o (from_entries es) e.0 e.1)) (tells-put e.0 e.1 (entries (from_entries es)) (all e (inl refl)) (tells-from es (λ y at. all y (inr at))))

  values-kept : (q : K) (m : FinMap R X) → Tells (entries m) → filter (has_key q) (values m) ≡ listed (get m q)
  values-kept q m all = told-kept q (entries m) (entries_sorted m) all ∙ ap listed (sym (get-entries m q))

-- MEMBERS

apart : (ms : List FoldMember) (m n : FoldMember) → are_apart ms ≡ true → Has ms m → Has ms n → n.name ≡ m.name → n ≡ m
apart [] m n h at there e = absurd at
apart (x ∷ ms) m n h at there e = by (λ p q. apart ms m n (both_true (not (list_any (λ y. bytes_eq x.name y.name) ms)) (are_apart ms) h).1 p q e) at there
  where
    parts : (not (list_any (λ y. bytes_eq x.name y.name) ms) ≡ true) × (are_apart ms ≡ true)
    parts = both_true (not (list_any (λ y. bytes_eq x.name y.name) ms)) (are_apart ms) h

    off : (b : Bool) → not b ≡ true → b ≡ false
    off true g = absurd cc
    off false g = refl

    other : (y : FoldMember) → Has ms y → x.name ≡ y.name → ⊥
    other y there same =
        let f = none_passes (λ z. bytes_eq x.name z.name) ms y (off _ parts.0) there in
        let g = (bytes_eq-Decides x.name y.name).1 same in
        cc

    by : (Has ms m → Has ms n → n ≡ m) → (x ≡ m) ⊎ Has ms m → (x ≡ n) ⊎ Has ms n → n ≡ m
    by rest (inl p) (inl q) = sym q ∙ p
    by rest (inl p) (inr q) = absurd (other n q (ap (λ (y : FoldMember). y.name) p ∙ sym e))
    by rest (inr p) (inl q) = absurd (other m p (ap (λ (y : FoldMember). y.name) q ∙ e))
    by rest (inr p) (inr q) = rest p q

abbrev pair_in : List (List ℕ) → Key → List Fields → FoldMember → Named
pair_in names key es m = (m.name, member_value names key es m.value)

row-puts : (names : List (List ℕ)) (key : Key) (es : List Fields) (row : Fields) (ms : List FoldMember) → row_with names key es row ms ≡ puts row (map (pair_in names key es) ms)
row-puts names key es row [] = refl
row-puts names key es row (m ∷ ms) = row-puts names key es (put m.name (member_value names key es m.value) row) ms

-- the field of a member has the member's value
has-field : (names : List (List ℕ)) (key : Key) (es : List Fields) (ms : List FoldMember) (m : FoldMember) → are_apart ms ≡ true → Has ms m
    → value_at m.name (row_with names key es [] ms) ≡ member_value names key es m.value
has-field names key es ms m h at =
    ap (λ row. value_at m.name row) (row-puts names key es [] ms)
    ∙ ap (λ v. unwrap_or v nothing) (puts-named m.name (member_value names key es m.value) (map (pair_in names key es) ms) [] one (inl (Has-mapped (pair_in names key es) ms m at)))
  where
    one : (e : Named) → Has (map (pair_in names key es) ms) e → e.0 ≡ m.name → e.1 ≡ member_value names key es m.value
    one e there same =
        let f = Has-map (pair_in names key es) ms e there in
        let name : f.0.name ≡ m.name = ap (λ (y : Named). y.0) f.2 ∙ same in
        ap (λ (y : Named). y.1) (sym f.2) ∙ ap (λ (y : FoldMember). member_value names key es y.value) (apart ms m f.0 h at f.1 name)

-- the part of a key at its name
part-named : (names : List (List ℕ)) (e : Fields) (n : List ℕ) → Has names n → value_at n (zip names (key_of names e)) ≡ value_at n e
part-named [] e n at = absurd at
part-named (k ∷ names) e n at = by (part-named names e n) (bytes_eq n k) refl
  where
    by : (Has names n → value_at n (zip names (key_of names e)) ≡ value_at n e) → (b : Bool) → bytes_eq n k ≡ b
        → unwrap_or (cond (bytes_eq n k) (Some (value_at k e)) (field_named n (zip names (key_of names e)))) nothing ≡ value_at n e
    by rest true t = ap (λ b. unwrap_or (cond b (Some (value_at k e)) (field_named n (zip names (key_of names e)))) nothing) t ∙ ap (λ x. value_at x e) (sym ((bytes_eq-Decides n k).0 t))
    by rest false t = ap (λ b. unwrap_or (cond b (Some (value_at k e)) (field_named n (zip names (key_of names e)))) nothing) t ∙ rest (later at)
      where
        later : (k ≡ n) ⊎ Has names n → Has names n
        later (inl same) = absurd (let f = (bytes_eq-Decides n k).1 (sym same) in cc)
        later (inr more) = more

keys-alike : (names : List (List ℕ)) (a b : Fields) → ((n : List ℕ) → Has names n → value_at n a ≡ value_at n b) → key_of names a ≡ key_of names b
keys-alike [] a b same = refl
keys-alike (n ∷ names) a b same = ap (λ v. v ∷ key_of names a) (same n (inl refl)) ∙ ap (λ l. value_at n b ∷ l) (keys-alike names a b (λ x at. same x (inr at)))

-- a value alone, which values came to, comes to itself
one-value : (k : FoldKind) (vs : List Scalar) → as_one k (as_one k vs ∷ []) ≡ as_one k vs
one-value k vs = alone k (as_one k vs) ∙ sym (as_one_parted k vs []) ∙ ap (as_one k) (append-nil vs)
  where
    alone : (k : FoldKind) (v : Scalar) → as_one k (v ∷ []) ≡ both k v (as_one k [])
    alone kind.Sum v = refl
    alone kind.Min v = refl
    alone kind.Max v = refl

-- ROWS

module _ (query : ReduceQuery) (again : reduces_again query ≡ true) where
  two : (are_apart query.members ≡ true) × ((list_all (λ m. keeps_name query.key query.members m.name m.value) query.members && gives_key query.key query.members) ≡ true)
  two = both_true (are_apart query.members) (list_all (λ m. keeps_name query.key query.members m.name m.value) query.members && gives_key query.key query.members) again

  three : (list_all (λ m. keeps_name query.key query.members m.name m.value) query.members ≡ true) × (gives_key query.key query.members ≡ true)
  three = both_true (list_all (λ m. keeps_name query.key query.members m.name m.value) query.members) (gives_key query.key query.members) two.1

  keeps : (m : FoldMember) → Has query.members m → keeps_name query.key query.members m.name m.value ≡ true
  keeps m at = every (λ n. keeps_name query.key query.members n.name n.value) query.members m three.0 at

  -- the member of a part of the key has its name
  part-member : (n : List ℕ) → Has query.key n → (m : FoldMember) × Has query.members m × (m.name ≡ n) × (m.value ≡ value.Key n)
  part-member n at =
      let f = some (λ m. gives_part n m.value) query.members (every (λ part. list_any (λ m. gives_part part m.value) query.members) query.key n three.1 at) in
      by f.0 f.1 f.2
    where
      by : (m : FoldMember) → Has query.members m → gives_part n m.value ≡ true → (m : FoldMember) × Has query.members m × (m.name ≡ n) × (m.value ≡ value.Key n)
      by m there is =
          elim m.value as (λ v. m.value ≡ v → gives_part n v ≡ true → keeps_name query.key query.members m.name v ≡ true → (m : FoldMember) × Has query.members m × (m.name ≡ n) × (m.value ≡ value.Key n)) [
            | value.Key part ↦ λ e g k.
                let same = (bytes_eq-Decides n part).0 g in
                let name = (bytes_eq-Decides part m.name).0 (both_true (list_any (bytes_eq part) query.key) (bytes_eq part m.name) k).1 in
                (m, there, sym name ∙ sym same, e ∙ ap (λ x. value.Key x) (sym same))
            | value.Fold kind var field ↦ λ e g k. absurd cc
            | value.Quotient var field by_var divisor ↦ λ e g k. absurd cc
          ] refl is (keeps m there)

  -- the member that sums the field under its name
  sum-member : (field : List ℕ) → is_summed query.members field ≡ true → (m : FoldMember) × Has query.members m × (m.name ≡ field) × ((var : List ℕ) × (m.value ≡ value.Fold kind.Sum var m.name))
  sum-member field h =
      let f = some (λ m. bytes_eq field m.name && is_sum_of field m.value) query.members h in
      let g = both_true (bytes_eq field f.0.name) (is_sum_of field f.0.value) f.2 in
      let name = (bytes_eq-Decides field f.0.name).0 g.0 in
      let v = summed f.0.value g.1 in
      (f.0, f.1, sym name, (v.0, v.1 ∙ ap (λ x. value.Fold kind.Sum v.0 x) name))
    where
      summed : (v : FoldValue) → is_sum_of field v ≡ true → (var : List ℕ) × (v ≡ value.Fold kind.Sum var field)
      summed (value.Key part) s = absurd cc
      summed (value.Fold kind.Sum var other) s = (var, ap (λ x. value.Fold kind.Sum var x) (sym ((bytes_eq-Decides field other).0 s)))
      summed (value.Fold kind.Min var other) s = absurd cc
      summed (value.Fold kind.Max var other) s = absurd cc
      summed (value.Quotient var other by_var by) s = absurd cc

  -- a sum in the row of a key
  sum-in : (es : List Fields) (q : Key) (field : List ℕ) → is_summed query.members field ≡ true → addend (value_at field (row_of query es q)) ≡ sum_of (column field (group query.key q es))
  sum-in es q field h =
      let m = sum-member field h in
      ap (λ x. addend (value_at x (row_of query es q))) (sym m.2)
      ∙ ap addend (has-field query.key q (group query.key q es) query.members m.0 two.0 m.1 ∙ ap (member_value query.key q (group query.key q es)) m.3.1)
      ∙ ap (λ x. sum_of (column x (group query.key q es))) m.2

  -- in each row a quotient is that of its two sums in this row
  pub row-quotient : (es : List Fields) (q : Key) (m : FoldMember) (var field by_var by : List ℕ) → Has query.members m → m.value ≡ value.Quotient var field by_var by
      → value_at m.name (row_of query es q) ≡ quotient_of (addend (value_at field (row_of query es q))) (addend (value_at by (row_of query es q)))
  row-quotient es q m var field by_var by at is =
      let sums = both_true (is_summed query.members field) (is_summed query.members by) (ap (keeps_name query.key query.members m.name) (sym is) ∙ keeps m at) in
      has-field query.key q (group query.key q es) query.members m two.0 at
      ∙ ap (member_value query.key q (group query.key q es)) is
      ∙ ap (λ n. quotient_of n (sum_of (column by (group query.key q es)))) (sym (sum-in es q field sums.0))
      ∙ ap (quotient_of (addend (value_at field (row_of query es q)))) (sym (sum-in es q by sums.1))

  -- the row of a key that an entry has has this key
  keeps-key : (es : List Fields) (e : Fields) → key_of query.key (row_of query es (key_of query.key e)) ≡ key_of query.key e
  keeps-key es e = keys-alike query.key (row_of query es (key_of query.key e)) e part
    where
      part : (n : List ℕ) → Has query.key n → value_at n (row_of query es (key_of query.key e)) ≡ value_at n e
      part n at =
          let m = part-member n at in
          let q = key_of query.key e in
          ap (λ x. value_at x (row_of query es q)) (sym m.2)
          ∙ has-field query.key q (group query.key q es) query.members m.0 two.0 m.1
          ∙ ap (member_value query.key q (group query.key q es)) m.3
          ∙ part-named query.key e n at

  abbrev pair : List Fields → Fields → Key × Fields
  pair es e = (key_of query.key e, row_of query es (key_of query.key e))

  tells : (es : List Fields) → (x : Key × Fields) → Has (entries (rows_of query es)) x → key_of query.key x.1 ≡ x.0
  tells es = tells-from key_order key_order-total key_ties (key_of query.key) (map (pair es) es) each
    where
      each : (x : Key × Fields) → Has (map (pair es) es) x → key_of query.key x.1 ≡ x.0
      each x at =
          let f = Has-map (pair es) es x at in
          ap (λ (y : Key × Fields). key_of query.key y.1) (sym f.2) ∙ keeps-key es f.0 ∙ ap (λ (y : Key × Fields). y.0) f.2

  abbrev is_of : Key → Fields → Bool
  is_of q e = is_eq (key_order q (key_of query.key e))

  -- of the rows of some entries one has the key, if an entry has it
  row-kept : (q : Key) (es : List Fields) → group query.key q (reduced query es) ≡ listed (cond (list_any (is_of q) es) (Some (row_of query es q)) None)
  row-kept q es = values-kept key_order key_order-total key_ties (key_of query.key) q (rows_of query es) (tells es) ∙ ap listed (rows_at query es q)

  same-any : (q : Key) (es : List Fields) → list_any (is_of q) (reduced query es) ≡ list_any (is_of q) es
  same-any q es = any-kept (is_of q) (reduced query es) ∙ ap is_some_list (row-kept q es) ∙ by (list_any (is_of q) es)
    where
      by : (b : Bool) → is_some_list (listed (cond b (Some (row_of query es q)) None)) ≡ b
      by true = refl
      by false = refl

  -- what a folded field comes to over the rows is what it comes to over their entries
  same-fold : (q : Key) (es : List Fields) (m : FoldMember) (k : FoldKind) (var : List ℕ) → Has query.members m → m.value ≡ value.Fold k var m.name
      → as_one k (column m.name (group query.key q (reduced query es))) ≡ as_one k (column m.name (group query.key q es))
  same-fold q es m k var at is = ap (λ l. as_one k (column m.name l)) (row-kept q es) ∙ by (list_any (is_of q) es) refl
    where
      by : (b : Bool) → list_any (is_of q) es ≡ b → as_one k (column m.name (listed (cond b (Some (row_of query es q)) None))) ≡ as_one k (column m.name (group query.key q es))
      by true e =
          ap (λ v. as_one k (v ∷ [])) (has-field query.key q (group query.key q es) query.members m two.0 at ∙ ap (member_value query.key q (group query.key q es)) is)
          ∙ one-value k (column m.name (group query.key q es))
      by false e = ap (λ l. as_one k (column m.name l)) (sym (none-kept (is_of q) es e))

  same-fold-with : (q : Key) (es fs : List Fields) (m : FoldMember) (k : FoldKind) (var : List ℕ) → Has query.members m → m.value ≡ value.Fold k var m.name
      → as_one k (column m.name (group query.key q (reduced query es ++ fs))) ≡ as_one k (column m.name (group query.key q (es ++ fs)))
  same-fold-with q es fs m k var at is =
      fold_parted query.key q k m.name (reduced query es) fs
      ∙ ap (λ v. both k v (as_one k (column m.name (group query.key q fs)))) (same-fold q es m k var at is)
      ∙ sym (fold_parted query.key q k m.name es fs)

  same-sum : (q : Key) (es fs : List Fields) (field : List ℕ) → is_summed query.members field ≡ true
      → sum_of (column field (group query.key q (reduced query es ++ fs))) ≡ sum_of (column field (group query.key q (es ++ fs)))
  same-sum q es fs field h =
      let m = sum-member field h in
      ap (λ x. sum_of (column x (group query.key q (reduced query es ++ fs)))) (sym m.2)
      ∙ ap addend (same-fold-with q es fs m.0 kind.Sum m.3.0 m.1 m.3.1)
      ∙ ap (λ x. sum_of (column x (group query.key q (es ++ fs)))) m.2

  same-value : (q : Key) (es fs : List Fields) (m : FoldMember) → Has query.members m
      → member_value query.key q (group query.key q (reduced query es ++ fs)) m.value ≡ member_value query.key q (group query.key q (es ++ fs)) m.value
  same-value q es fs m at =
      elim m.value as (λ v. m.value ≡ v → keeps_name query.key query.members m.name v ≡ true
      → member_value query.key q (group query.key q (reduced query es ++ fs)) v ≡ member_value query.key q (group query.key q (es ++ fs)) v) [
        | value.Key part ↦ λ e k. refl
        | value.Fold kind var field ↦ λ e k.
            let name : field ≡ m.name = (bytes_eq-Decides field m.name).0 k in
            ap (λ x. as_one kind (column x (group query.key q (reduced query es ++ fs)))) name
            ∙ same-fold-with q es fs m kind var at (e ∙ ap (λ x. value.Fold kind var x) name)
            ∙ ap (λ x. as_one kind (column x (group query.key q (es ++ fs)))) (sym name)
        | value.Quotient var field by_var by ↦ λ e k.
            let sums = both_true (is_summed query.members field) (is_summed query.members by) k in
            ap (λ n. quotient_of n (sum_of (column by (group query.key q (reduced query es ++ fs))))) (same-sum q es fs field sums.0)
            ∙ ap (quotient_of (sum_of (column field (group query.key q (es ++ fs))))) (same-sum q es fs by sums.1)
      ] refl (keeps m at)

  same-members : (q : Key) (es fs : List Fields) (row : Fields) (ms : List FoldMember) → ((m : FoldMember) → Has ms m → Has query.members m)
      → row_with query.key q (group query.key q (reduced query es ++ fs)) row ms ≡ row_with query.key q (group query.key q (es ++ fs)) row ms
  same-members q es fs row [] all = refl
  same-members q es fs row (m ∷ ms) all =
      ap (λ v. row_with query.key q (group query.key q (reduced query es ++ fs)) (put m.name v row) ms) (same-value q es fs m (all m (inl refl)))
      ∙ same-members q es fs (put m.name (member_value query.key q (group query.key q (es ++ fs)) m.value) row) ms (λ n at. all n (inr at))

  same-row : (q : Key) (es fs : List Fields) → row_of query (reduced query es ++ fs) q ≡ row_of query (es ++ fs) q
  same-row q es fs = same-members q es fs [] query.members (λ m at. at)

  -- rows of entries may stand for these entries beside others
  pub reduced-beside : (es fs : List Fields) → reduced query (reduced query es ++ fs) ≡ reduced query (es ++ fs)
  reduced-beside es fs = ap values (same_map key_order-total key_ties (rows_of query (reduced query es ++ fs)) (rows_of query (es ++ fs)) same)
    where
      any : (q : Key) → list_any (is_of q) (reduced query es ++ fs) ≡ list_any (is_of q) (es ++ fs)
      any q = any-append (is_of q) (reduced query es) fs ∙ ap (λ b. b || list_any (is_of q) fs) (same-any q es) ∙ sym (any-append (is_of q) es fs)

      same : (q : Key) → get (rows_of query (reduced query es ++ fs)) q ≡ get (rows_of query (es ++ fs)) q
      same q =
          rows_at query (reduced query es ++ fs) q
          ∙ ap (λ b. cond b (Some (row_of query (reduced query es ++ fs) q)) None) (any q)
          ∙ ap (λ row. cond (list_any (is_of q) (es ++ fs)) (Some row) None) (same-row q es fs)
          ∙ sym (rows_at query (es ++ fs) q)

  parts-beside : (parts : List (List Fields)) (fs : List Fields) → reduced query (flat_map (reduced query) parts ++ fs) ≡ reduced query (flat_map (λ es. es) parts ++ fs)
  parts-beside [] fs = refl
  parts-beside (es ∷ parts) fs =
      let rows = flat_map (reduced query) parts in
      let all = flat_map (λ (xs : List Fields). xs) parts in
      ap (reduced query) (append-assoc (reduced query es) rows fs)
      ∙ reduced-beside es (rows ++ fs)
      ∙ reduced_reordered query (es ++ (rows ++ fs)) ((rows ++ fs) ++ es) (turned es (rows ++ fs))
      ∙ ap (reduced query) (append-assoc rows fs es)
      ∙ parts-beside parts (fs ++ es)
      ∙ ap (reduced query) (sym (append-assoc all fs es))
      ∙ sym (reduced_reordered query (es ++ (all ++ fs)) ((all ++ fs) ++ es) (turned es (all ++ fs)))
      ∙ ap (reduced query) (sym (append-assoc es all fs))

  -- so the rows of several lists of entries, reduced together, are the rows of all entries
  pub reduced-parts : (parts : List (List Fields)) → reduced query (flat_map (reduced query) parts) ≡ reduced query (flat_map (λ es. es) parts)
  reduced-parts parts =
      ap (reduced query) (sym (append-nil (flat_map (reduced query) parts))) ∙ parts-beside parts [] ∙ ap (reduced query) (append-nil (flat_map (λ es. es) parts))
