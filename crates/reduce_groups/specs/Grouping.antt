-- Which entries a group has: those of the whole list that have the key of the group.
use Rattle.std.specs.Prelude.{◌≡◌, Some, None, List, [], ◌∷◌, filter, map}
use Rattle.std.specs.declared.cmp.Ordering.{Ordering}
use Rattle.std.specs.Ordering.{is_eq}
use Rattle.std.specs.FinMap.{FinMap, from_entries}
use Rattle.std.specs.Map.{lookup, remove_entry}
use Rattle.std.specs.BTreeMap.{is_at, insert_entry}
use Rattle.reduce_tree.specs.Tree.{Tree}
use Rattle.reduce_groups.specs.Groups.{entries_at}

abbrev pub of_group : {G K E : Type 0} → (G → G → Ordering) → (E → G) → G → List (K × E) → List (K × E)
of_group R key q es = filter (λ e. is_eq (R q (key e.1))) es

-- the trees are those of the entries
abbrev pub AreGrouped : {F G K E : Type 0} → (G → G → Ordering) → (E → G) → List (K × E) → List (G × Tree F K E) → Type 0
AreGrouped {F} {G} R key es ts = (q : G) → entries_at R q ts ≡ of_group R key q es

-- the whole list without the entries at these keys
abbrev pub all_removed : {G K E : Type 0} → (K → K → Ordering) → List (K × E) → List (G × K) → List (K × E)
all_removed S es [] = es
all_removed S es (c ∷ cs) = all_removed S (remove_entry (is_at (S c.1)) es) cs

-- each removal names an entry that is there, and the group that it is in
abbrev pub AreThere : {G K E : Type 0} → (K → K → Ordering) → (E → G) → List (K × E) → List (G × K) → Type 0
AreThere S key es [] = Unit {0}
AreThere {G} {K} {E} S key es (c ∷ cs) = ((v : E) × ((Some v ≡ lookup (is_at (S c.1)) es) × (c.0 ≡ key v))) × AreThere S key (remove_entry (is_at (S c.1)) es) cs

-- the whole list with these entries
abbrev pub all_inserted : {G K E : Type 0} → (K → K → Ordering) → List (K × E) → List (G × (K × E)) → List (K × E)
all_inserted S es [] = es
all_inserted S es (c ∷ cs) = all_inserted S (insert_entry S es c.1.0 c.1.1) cs

-- each insertion has a new key, and names the group that its entry belongs to
abbrev pub AreNew : {G K E : Type 0} → (K → K → Ordering) → (E → G) → List (K × E) → List (G × (K × E)) → Type 0
AreNew S key es [] = Unit {0}
AreNew S key es (c ∷ cs) = ((lookup (is_at (S c.1.0)) es ≡ None) × (c.0 ≡ key c.1.1)) × AreNew S key (insert_entry S es c.1.0 c.1.1) cs

-- THE ROWS OF ENTRIES, by themselves: for each key that an entry has, the fold of all entries that have it
abbrev pub folded_at : {G K E X : Type 0} → (G → G → Ordering) → (E → G) → (List E → X) → List (K × E) → G → X
folded_at R key fold es q = fold (map (λ e. e.1) (of_group R key q es))

abbrev pub rows_of : {G K E X : Type 0} → (R : G → G → Ordering) → (E → G) → (List E → X) → List (K × E) → FinMap R X
rows_of R key fold es = from_entries (map (λ e. (key e.1, folded_at R key fold es (key e.1))) es)
