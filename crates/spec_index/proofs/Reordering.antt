-- A reduce gives the same rows for the same entries in another order.
use Rattle.std.proofs.Common.{◌≡◌, ℕ, Bool, true, false, cond, ◌||◌, Some, None, List, [], ◌∷◌, ◌++◌, map, filter, refl, sym, ap, subst, ◌∙◌}
use Rattle.std.specs.declared.cmp.Ordering.{Ordering}
use Rattle.std.specs.declared.cmp.Ordering.TheVariants.{Less, Equal, Greater}
use Rattle.std.specs.Ordering.{is_eq}
use Rattle.std.specs.List.{list_any}
use Rattle.std.specs.FinMap.{find, get, values, get-from_entries, same_map}
use Rattle.spec_data.specs.Rising.{put}
use Rattle.index_tree.specs.Meaning.{Fields}
use Rattle.index_tree.specs.declared.reduce_query.FoldKind.{FoldKind}
use Rattle.index_tree.specs.declared.reduce_query.FoldKind.TheVariants as kind
use Rattle.index_tree.specs.declared.reduce_query.FoldMember.{FoldMember}
use Rattle.index_tree.specs.declared.reduce_query.FoldValue.{FoldValue}
use Rattle.index_tree.specs.declared.reduce_query.FoldValue.TheVariants as value
use Rattle.index_tree.specs.declared.reduce_query.ReduceQuery.{ReduceQuery}
use Rattle.spec_index.specs.Rows.{IsReordered, Key, column, group, key_of, key_order, member_value, reduced, row_of, row_with, rows_of, value_at}
use Rattle.spec_index.specs.Folds.{addend, as_one, both, quotient_of, sum_of}
use Rattle.spec_index.proofs.Folding.{as_one_parted, as_one_reordered}
use Rattle.spec_index.proofs.Ties.{key_order-total, key_ties}

map_append : {A B : Type 0} (f : A → B) (xs ys : List A) → map f (xs ++ ys) ≡ map f xs ++ map f ys
map_append f [] ys = refl
map_append f (x ∷ xs) ys = ap (λ l. f x ∷ l) (map_append f xs ys)

filter_append : {A : Type 0} (p : A → Bool) (xs ys : List A) → filter p (xs ++ ys) ≡ filter p xs ++ filter p ys
filter_append p [] ys = refl
filter_append {A} p (x ∷ xs) ys = by (p x) (filter_append p xs ys)
  where
    by : (b : Bool) → filter p (xs ++ ys) ≡ filter p xs ++ filter p ys → cond b (x ∷ filter p (xs ++ ys)) (filter p (xs ++ ys)) ≡ cond b (x ∷ filter p xs) (filter p xs) ++ filter p ys
    by true h = ap (λ l. x ∷ l) h
    by false h = h

map_reordered : {A B : Type 0} (f : A → B) (xs ys : List A) → IsReordered xs ys → IsReordered (map f xs) (map f ys)
map_reordered f [] ys e = ap (map f) e
map_reordered f (x ∷ xs) ys r =
    (map f r.0, (map f r.1.0, (ap (map f) r.1.1.0 ∙ map_append f r.0 (x ∷ r.1.0), subst (IsReordered (map f xs)) (map_append f r.0 r.1.0) (map_reordered f xs (r.0 ++ r.1.0) r.1.1.1))))

filter_reordered : {A : Type 0} (p : A → Bool) (xs ys : List A) → IsReordered xs ys → IsReordered (filter p xs) (filter p ys)
filter_reordered p [] ys e = ap (filter p) e
filter_reordered p (x ∷ xs) ys r = by (p x) refl (subst (IsReordered (filter p xs)) (filter_append p r.0 r.1.0) (filter_reordered p xs (r.0 ++ r.1.0) r.1.1.1))
  where
    parts : (b : Bool) → p x ≡ b → filter p ys ≡ filter p r.0 ++ cond b (x ∷ filter p r.1.0) (filter p r.1.0)
    parts b e = ap (filter p) r.1.1.0 ∙ filter_append p r.0 (x ∷ r.1.0) ∙ ap (λ c. filter p r.0 ++ cond c (x ∷ filter p r.1.0) (filter p r.1.0)) e

    by : (b : Bool) → p x ≡ b → IsReordered (filter p xs) (filter p r.0 ++ filter p r.1.0) → IsReordered (cond b (x ∷ filter p xs) (filter p xs)) (filter p ys)
    by true e rest = (filter p r.0, (filter p r.1.0, (parts true e, rest)))
    by false e rest = subst (IsReordered (filter p xs)) (sym (parts false e)) rest

any_append : {A : Type 0} (p : A → Bool) (xs ys : List A) (y : A) → list_any p (xs ++ y ∷ ys) ≡ (p y || list_any p (xs ++ ys))
any_append p [] ys y = refl
any_append p (x ∷ xs) ys y = ap (λ b. p x || b) (any_append p xs ys y) ∙ by (p x) (p y) (list_any p (xs ++ ys))
  where
    by : (a b c : Bool) → (a || (b || c)) ≡ (b || (a || c))
    by true true c = refl
    by true false c = refl
    by false b c = refl

any_reordered : {A : Type 0} (p : A → Bool) (xs ys : List A) → IsReordered xs ys → list_any p xs ≡ list_any p ys
any_reordered p [] ys e = ap (list_any p) (sym e)
any_reordered p (x ∷ xs) ys r = ap (λ b. p x || b) (any_reordered p xs (r.0 ++ r.1.0) r.1.1.1) ∙ sym (any_append p r.0 r.1.0 x) ∙ ap (list_any p) (sym r.1.1.0)

sum_reordered : (field : List ℕ) (es fs : List Fields) → IsReordered es fs → sum_of (column field es) ≡ sum_of (column field fs)
sum_reordered field es fs r = ap addend (as_one_reordered kind.Sum (column field es) (column field fs) (map_reordered (value_at field) es fs r))

value_reordered : (names : List (List ℕ)) (key : Key) (es fs : List Fields) (v : FoldValue) → IsReordered es fs → member_value names key es v ≡ member_value names key fs v
value_reordered names key es fs (value.Key name) r = refl
value_reordered names key es fs (value.Fold kind var field) r = as_one_reordered kind (column field es) (column field fs) (map_reordered (value_at field) es fs r)
value_reordered names key es fs (value.Quotient var field by_var by) r =
    ap (λ n. quotient_of n (sum_of (column by es))) (sum_reordered field es fs r) ∙ ap (quotient_of (sum_of (column field fs))) (sum_reordered by es fs r)

row_reordered : (names : List (List ℕ)) (key : Key) (es fs : List Fields) (row : Fields) (ms : List FoldMember) → IsReordered es fs → row_with names key es row ms ≡ row_with names key fs row ms
row_reordered names key es fs row [] r = refl
row_reordered names key es fs row (m ∷ ms) r =
    ap (λ v. row_with names key es (put m.name v row) ms) (value_reordered names key es fs m.value r) ∙ row_reordered names key es fs (put m.name (member_value names key fs m.value) row) ms r

-- what is found at a key in a list of keys with their rows
found : (names : List (List ℕ)) (row : Key → Fields) (es : List Fields) (q : Key) →
    find key_order q (map (λ e. (key_of names e, row (key_of names e))) es) ≡ cond (list_any (λ e. is_eq (key_order q (key_of names e))) es) (Some (row q)) None
found names row [] q = refl
found names row (e ∷ es) q = by (key_order q (key_of names e)) refl (found names row es q)
  where
    by : (r : Ordering) → key_order q (key_of names e) ≡ r → find key_order q (map (λ e. (key_of names e, row (key_of names e))) es) ≡ cond (list_any (λ e. is_eq (key_order q (key_of names e))) es) (Some (row q)) None →
        cond (is_eq r) (Some (row (key_of names e))) (find key_order q (map (λ e. (key_of names e, row (key_of names e))) es)) ≡ cond (is_eq r || list_any (λ e. is_eq (key_order q (key_of names e))) es) (Some (row q)) None
    by Less t h = h
    by Equal t h = ap (λ k. Some (row k)) (sym (key_ties q (key_of names e) t))
    by Greater t h = h

-- at each key that an entry has there is its row, and nothing at the others
pub rows_at : (query : ReduceQuery) (es : List Fields) (q : Key) → get (rows_of query es) q ≡ cond (list_any (λ e. is_eq (key_order q (key_of query.key e))) es) (Some (row_of query es q)) None
rows_at query es q = get-from_entries key_order-total _ q ∙ found query.key (row_of query es) es q

pub reduced_reordered : (query : ReduceQuery) (es fs : List Fields) → IsReordered es fs → reduced query es ≡ reduced query fs
reduced_reordered query es fs r = ap values (same_map key_order-total key_ties (rows_of query es) (rows_of query fs) same)
  where
    same : (q : Key) → get (rows_of query es) q ≡ get (rows_of query fs) q
    same q =
        rows_at query es q
        ∙ ap (λ b. cond b (Some (row_of query es q)) None) (any_reordered (λ e. is_eq (key_order q (key_of query.key e))) es fs r)
        ∙ ap (λ row. cond (list_any (λ e. is_eq (key_order q (key_of query.key e))) fs) (Some row) None)
        (row_reordered query.key q (group query.key q es) (group query.key q fs) [] query.members (filter_reordered (λ e. is_eq (key_order q (key_of query.key e))) es fs r))
        ∙ sym (rows_at query fs q)

-- the entries in two parts: what a field comes to is both of what it comes to in each part
pub fold_parted : (names : List (List ℕ)) (key : Key) (kind : FoldKind) (field : List ℕ) (es fs : List Fields) →
    as_one kind (column field (group names key (es ++ fs))) ≡ both kind (as_one kind (column field (group names key es))) (as_one kind (column field (group names key fs)))
fold_parted names key kind field es fs =
    let p : Fields → Bool = λ e. is_eq (key_order key (key_of names e)) in
    ap (as_one kind) (ap (column field) (filter_append p es fs) ∙ map_append (value_at field) (group names key es) (group names key fs)) ∙ as_one_parted kind (column field (group names key es)) (column field (group names key fs))
