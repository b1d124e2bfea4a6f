-- Changes of a list of entries under keys.
use Rattle.std.specs.Prelude.{ℕ, suc, Option, Some, None, List, [], ◌∷◌}
use Rattle.std.specs.declared.cmp.Ordering.{Ordering}
use Rattle.std.specs.Map.{remove_entry}
use Rattle.std.specs.BTreeMap.{is_at, insert_entry}

-- the key of a change with no entry is taken out
abbrev pub one_removed : {K V X : Type 0} → (K → K → Ordering) → List (K × V) → K × Option X → List (K × V)
one_removed cmp es (k, None) = remove_entry (is_at (cmp k)) es
one_removed cmp es (k, Some x) = es

-- the entry of a change is put in, as what it is kept as
abbrev pub one_inserted : {K V X : Type 0} → (K → K → Ordering) → (X → V) → List (K × V) → K × Option X → List (K × V)
one_inserted cmp kept es (k, None) = es
one_inserted cmp kept es (k, Some x) = insert_entry cmp es k (kept x)

abbrev pub removed : {K V X : Type 0} → (K → K → Ordering) → List (K × V) → List (K × Option X) → List (K × V)
removed cmp es [] = es
removed cmp es (c ∷ cs) = removed cmp (one_removed cmp es c) cs

abbrev pub inserted : {K V X : Type 0} → (K → K → Ordering) → (X → V) → List (K × V) → List (K × Option X) → List (K × V)
inserted cmp kept es [] = es
inserted cmp kept es (c ∷ cs) = inserted cmp kept (one_inserted cmp kept es c) cs

-- the entries after the changes: first all removals, then all insertions
abbrev pub changed : {K E : Type 0} → (K → K → Ordering) → List (K × E) → List (K × Option E) → List (K × E)
changed cmp es cs = inserted cmp (λ e. e) (removed cmp es cs) cs

-- how many changes take a key out, and how many put one in
abbrev pub removals : {K X : Type 0} → List (K × Option X) → ℕ
removals [] = 0
removals ((k, None) ∷ cs) = suc (removals cs)
removals ((k, Some x) ∷ cs) = removals cs

abbrev pub insertions : {K X : Type 0} → List (K × Option X) → ℕ
insertions [] = 0
insertions ((k, None) ∷ cs) = insertions cs
insertions ((k, Some x) ∷ cs) = suc (insertions cs)
