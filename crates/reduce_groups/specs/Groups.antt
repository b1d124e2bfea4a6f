-- What a clause sees of groups.
use Rattle.std.specs.Prelude.{◌≡◌, ◌⊎◌, ℕ, ◌<◌, ◌≤◌, ◌^◌, cond, Option, Some, None, List, [], ◌∷◌, length, map, option_map, refl}
use Rattle.std.specs.Coded.{Coded, code_by, coded×, coded_list}
use Rattle.std.specs.declared.cmp.Ordering.{Ordering}
use Rattle.std.specs.Ordering.{is_eq}
use Rattle.std.specs.List.{filter_map}
use Rattle.std.specs.Option.{option_map_or}
use Rattle.std.specs.Map.{lookup, remove_entry}
use Rattle.std.specs.BTreeMap.{is_at, insert_entry}
use Rattle.reduce_tree.specs.Folding.{result_of}
use Rattle.reduce_tree.specs.Tree.{Tree, tree_code, IsFilledTree}

-- how entries become rows, and the trees of the groups in the order of their keys
pub record Groups (F G K E : Type 0) : Type 0 where
  pub fold : F
  pub trees : List (G × Tree F K E)

abbrev pub groups_code : {F G K E : Type 0} → Coded F → Coded G → Coded K → Coded E → Coded (Groups F G K E)
groups_code {F} {G} {K} {E} f g k e =
    code_by (F × List (G × Tree F K E)) (coded× f (coded_list (coded× g (tree_code f k e)))) (λ a. (a.fold, a.trees)) (λ p. record { fold = p.0; trees = p.1 }) (λ _. refl)

-- each tree folds in this way, has an entry, is filled, and has no more entries than a number of 64 bits can count
abbrev pub AreSound : {F G K E : Type 0} → F → List (G × Tree F K E) → Type 0
AreSound f [] = Unit {0}
AreSound f (p ∷ ps) = ((p.1.fold ≡ f) × (0 < length p.1.entries) × IsFilledTree p.1 × (length p.1.entries < 2 ^ 64)) × AreSound f ps

-- no tree has more than h levels
abbrev pub AllLevels : {F G K E : Type 0} → ℕ → List (G × Tree F K E) → Type 0
AllLevels h [] = Unit {0}
AllLevels h (p ∷ ps) = (p.1.levels ≤ h) × AllLevels h ps

-- no group has more than 16^h entries
abbrev pub AllSmall : {F G K E : Type 0} → ℕ → List (G × Tree F K E) → Type 0
AllSmall h [] = Unit {0}
AllSmall h (p ∷ ps) = (length p.1.entries ≤ 16 ^ h) × AllSmall h ps

abbrev pub entries_of_tree : {F K E : Type 0} → Option (Tree F K E) → List (K × E)
entries_of_tree o = option_map_or (λ t. t.entries) o []

abbrev pub levels_of_tree : {F K E : Type 0} → Option (Tree F K E) → ℕ
levels_of_tree o = option_map_or (λ t. t.levels) o 1

-- the entries of the group q, none if there is no such group; and the levels of its tree
abbrev pub entries_at : {F G K E : Type 0} → (G → G → Ordering) → G → List (G × Tree F K E) → List (K × E)
entries_at R q ts = entries_of_tree (lookup (is_at (R q)) ts)

abbrev pub levels_at : {F G K E : Type 0} → (G → G → Ordering) → G → List (G × Tree F K E) → ℕ
levels_at R q ts = levels_of_tree (lookup (is_at (R q)) ts)

-- no tree, or one with at most h levels
abbrev pub IsLow : {F K E : Type 0} → ℕ → Option (Tree F K E) → Type 0
IsLow h None = Unit {0}
IsLow h (Some t) = t.levels ≤ h

-- the trees as they are, or without that of a group
abbrev pub AreBeside : {F G K E : Type 0} → (G → G → Ordering) → G → List (G × Tree F K E) → List (G × Tree F K E) → Type 0
AreBeside R g ts rest = (rest ≡ ts) ⊎ (rest ≡ remove_entry (is_at (R g)) ts)

-- the entries of the group q without those that are removed from it, and with those that are inserted into it
abbrev pub after_removals : {G K E : Type 0} → (G → G → Ordering) → (K → K → Ordering) → G → List (K × E) → List (G × K) → List (K × E)
after_removals R S q es [] = es
after_removals R S q es (c ∷ cs) = after_removals R S q (cond (is_eq (R q c.0)) (remove_entry (is_at (S c.1)) es) es) cs

abbrev pub after_insertions : {G K E : Type 0} → (G → G → Ordering) → (K → K → Ordering) → G → List (K × E) → List (G × (K × E)) → List (K × E)
after_insertions R S q es [] = es
after_insertions R S q es (c ∷ cs) = after_insertions R S q (cond (is_eq (R q c.0)) (insert_entry S es c.1.0 c.1.1) es) cs

-- the row of a tree under the key of its group, if it has entries
abbrev pub row_in : {F G K E R : Type 0} → (F → E → R) → (F → R) → (R → R → R) → G × Tree F K E → Option (G × R)
row_in lifted none merged t = option_map (λ row. (t.0, row)) (result_of (lifted t.1.fold) (none t.1.fold) merged (map (λ e. e.1) t.1.entries))

abbrev pub rows_in : {F G K E R : Type 0} → (F → E → R) → (F → R) → (R → R → R) → List (G × Tree F K E) → List (G × R)
rows_in lifted none merged ts = filter_map (row_in lifted none merged) ts
