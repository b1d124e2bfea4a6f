-- How large groups are, and how many merges a change of them makes.
use Rattle.std.proofs.Common.{◌≡◌, ℕ, suc, ◌^◌, ◌≤◌, List, [], ◌∷◌, length, map, refl, sym, ap, subst, ◌∙◌, arith}
use Rattle.std.specs.FinMap.{values}
use Rattle.std.specs.Map.{values_of}
use Rattle.index_tree.specs.Meaning.{Fields}
use Rattle.index_tree.specs.declared.reduce_query.ReduceQuery.{ReduceQuery}
use Rattle.paged_map.specs.Pairs.{IsRising}
use Rattle.reduce_tree.specs.Tree.{Tree}
use Rattle.reduce_groups.specs.Groups.{AllSmall, entries_at}
use Rattle.reduce_groups.specs.Grouping.{of_group}
use Rattle.reduce_folds.specs.declared.row_fold.RowFold.{RowFold}
use Rattle.spec_index.specs.Rows.{Key, group, key_order}
use Rattle.index_groups.specs.Groups.{AreSmall, Grouped}
use Rattle.index_groups.specs.KeyLaws.{keys_total}
use Rattle.index_groups.specs.Trees.{AreIndexed, entries_in, key_in}
use Rattle.index_groups.proofs.Gathering.{AllTrees, each}
use Rattle.index_groups.proofs.Rows.{entries_are, group_is}

-- SMALL GROUPS

all_small : {F G V : Type 0} (h : ℕ) (ts : List (G × Tree F (List ℕ) V)) → AllTrees (λ (g : G) (es : List (List ℕ × V)). length es ≤ 16 ^ h) ts → AllSmall h ts
all_small h [] a = tt
all_small h (t ∷ ts) a = (a.0, all_small h ts a.1)

pub as_long : {A B : Type 0} (f : A → B) (xs : List A) → length (map f xs) ≡ length xs
as_long f [] = refl
as_long f (x ∷ xs) = ap suc (as_long f xs)

-- if the groups of the entries are small, so are the trees
pub small_trees : {V : Type 0} (query : ReduceQuery) (f : V → Fields) (fold : RowFold) (trees : List (Key × Tree RowFold (List ℕ) V)) (g : Grouped) → AreIndexed query f fold trees → IsRising key_order trees
    → g ≡ record { query = query; entries = entries_in f trees } → (h : ℕ) → AreSmall h g → AllSmall h trees
small_trees {V} query f fold trees g is rises seen h small = all_small h trees (each key_order keys_total (λ (q : Key) (es : List (List ℕ × V)). length es ≤ 16 ^ h) (λ q. omega arith) trees rises part)
  where
    here : (q : Key) → length (group query.key q (map f (values_of is.all))) ≤ 16 ^ h
    here q = subst (λ es. length (group query.key q es) ≤ 16 ^ h) (entries_are query f fold trees is rises) (subst (λ (x : Grouped). length (group x.query.key q (values x.entries)) ≤ 16 ^ h) seen (small q))

    part : (q : Key) → length (entries_at key_order q trees) ≤ 16 ^ h
    part q =
        let own = of_group key_order (key_in query.key f) q is.all in
        let long : length (entries_at key_order q trees) ≡ length (group query.key q (map f (values_of is.all))) =
        ap length (is.grouped q) ∙ sym (as_long (λ (e : List ℕ × V). e.1) own) ∙ sym (as_long f (values_of own)) ∙ ap length (group_is f query.key q is.all) in
        omega (arith, long, here q)
