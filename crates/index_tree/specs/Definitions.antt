-- Definitions of indexes, their codes, and whether two say the same, by these codes.
use Rattle.std.specs.Prelude.{◌≡◌, ℕ, zero, suc, List, Bool, true, false, ◌&&◌, ◌==◌, Option, ◌⊎◌, refl}
use Rattle.std.specs.Coded.{Coded, coded_ℕ, coded_list, coded×, coded⊎, coded_option, code_by}
use Rattle.std.proofs.Common.{inl, inr}
use base.Stored.{Gv, gnil, gnum, gcons}
use Rattle.spec_data.specs.Codes.{text_code}
use Rattle.spec_data.specs.Members.{Path}
use Rattle.index_tree.specs.Trees.{Tree}
use Rattle.index_tree.specs.TreeCode.{tree_code}
use Rattle.index_tree.specs.declared.map_query.Clause.{Clause}
use Rattle.index_tree.specs.declared.map_query.Clause.TheVariants as clause
use Rattle.index_tree.specs.declared.map_query.MapMember.{MapMember}
use Rattle.index_tree.specs.declared.map_query.MapQuery.{MapQuery}
use Rattle.index_tree.specs.declared.reduce_query.FoldKind.{FoldKind}
use Rattle.index_tree.specs.declared.reduce_query.FoldKind.TheVariants as kind
use Rattle.index_tree.specs.declared.reduce_query.FoldValue.{FoldValue}
use Rattle.index_tree.specs.declared.reduce_query.FoldValue.TheVariants as fold
use Rattle.index_tree.specs.declared.reduce_query.FoldMember.{FoldMember}
use Rattle.index_tree.specs.declared.reduce_query.ReduceQuery.{ReduceQuery}

pub data Definition : Type 0 where
  -- what the texts of a map and of a reduce say, and these texts
  Static : (map : MapQuery) (reduce : Option ReduceQuery) (map_text : List ℕ) (reduce_text : Option (List ℕ)) → Definition
  -- the fields of an automatic index, in the order of the bytes of their joined paths
  Auto : (collection : List ℕ) (fields : List Path) → Definition
  -- those by which an automatic index groups, and those that it sums beside the number of entries, in the same order
  AutoReduce : (collection : List ℕ) (groups sums : List Path) → Definition

-- MAPS

abbrev clause_parts : Clause → Tree ⊎ (List ℕ × Tree)
clause_parts (clause.Where test) = inl test
clause_parts (clause.Let name value) = inr (name, value)

abbrev parts_clause : Tree ⊎ (List ℕ × Tree) → Clause
parts_clause (inl test) = clause.Where test
parts_clause (inr p) = clause.Let p.0 p.1

pub clause_back : (c : Clause) → parts_clause (clause_parts c) ≡ c
clause_back (clause.Where test) = refl
clause_back (clause.Let name value) = refl

abbrev pub clause_code : Coded Clause
clause_code = code_by (Tree ⊎ (List ℕ × Tree)) (coded⊎ tree_code (coded× text_code tree_code)) clause_parts parts_clause clause_back

abbrev pub member_code : Coded MapMember
member_code = code_by (List ℕ × Tree) (coded× text_code tree_code) (λ m. (m.name, m.value)) (λ p. record { name = p.0; value = p.1 }) (λ _. refl)

abbrev pub map_code : Coded MapQuery
map_code = code_by (List ℕ × (List ℕ × (List Clause × List MapMember))) (coded× text_code (coded× text_code (coded× (coded_list clause_code) (coded_list member_code))))
    (λ m. (m.var, (m.collection, (m.clauses, m.members)))) (λ p. record { var = p.0; collection = p.1.0; clauses = p.1.1.0; members = p.1.1.1 }) (λ _. refl)

-- REDUCES

abbrev kind_number : FoldKind → ℕ
kind_number kind.Sum = 0
kind_number kind.Min = 1
kind_number kind.Max = 2

abbrev number_kind : ℕ → FoldKind
number_kind zero = kind.Sum
number_kind (suc zero) = kind.Min
number_kind (suc (suc n)) = kind.Max

pub kind_back : (k : FoldKind) → number_kind (kind_number k) ≡ k
kind_back kind.Sum = refl
kind_back kind.Min = refl
kind_back kind.Max = refl

abbrev pub kind_code : Coded FoldKind
kind_code = code_by ℕ coded_ℕ kind_number number_kind kind_back

-- the name of an entry in a sum, and the field that is summed
abbrev pub Summed : Type 0
Summed = List ℕ × List ℕ

abbrev value_parts : FoldValue → List ℕ ⊎ ((FoldKind × Summed) ⊎ (Summed × Summed))
value_parts (fold.Key part) = inl part
value_parts (fold.Fold kind name field) = inr (inl (kind, (name, field)))
value_parts (fold.Quotient name field by_name by) = inr (inr ((name, field), (by_name, by)))

abbrev parts_value : List ℕ ⊎ ((FoldKind × Summed) ⊎ (Summed × Summed)) → FoldValue
parts_value (inl part) = fold.Key part
parts_value (inr (inl p)) = fold.Fold p.0 p.1.0 p.1.1
parts_value (inr (inr p)) = fold.Quotient p.0.0 p.0.1 p.1.0 p.1.1

pub value_back : (v : FoldValue) → parts_value (value_parts v) ≡ v
value_back (fold.Key part) = refl
value_back (fold.Fold kind name field) = refl
value_back (fold.Quotient name field by_name by) = refl

abbrev pub summed_code : Coded Summed
summed_code = coded× text_code text_code

abbrev pub value_code : Coded FoldValue
value_code = code_by (List ℕ ⊎ ((FoldKind × Summed) ⊎ (Summed × Summed))) (coded⊎ text_code (coded⊎ (coded× kind_code summed_code) (coded× summed_code summed_code)))
    value_parts parts_value value_back

abbrev pub fold_code : Coded FoldMember
fold_code = code_by (List ℕ × FoldValue) (coded× text_code value_code) (λ m. (m.name, m.value)) (λ p. record { name = p.0; value = p.1 }) (λ _. refl)

abbrev pub reduce_code : Coded ReduceQuery
reduce_code = code_by (List ℕ × (List ℕ × (List (List ℕ) × List FoldMember))) (coded× text_code (coded× text_code (coded× (coded_list text_code) (coded_list fold_code))))
    (λ r. (r.var, (r.group, (r.key, r.members)))) (λ p. record { var = p.0; group = p.1.0; key = p.1.1.0; members = p.1.1.1 }) (λ _. refl)

-- DEFINITIONS

abbrev pub Texts : Type 0
Texts = List ℕ × Option (List ℕ)

abbrev pub Parts : Type 0
Parts = ((MapQuery × Option ReduceQuery) × Texts) ⊎ ((List ℕ × List Path) ⊎ (List ℕ × (List Path × List Path)))

abbrev definition_parts : Definition → Parts
definition_parts (Static map reduce map_text reduce_text) = inl ((map, reduce), (map_text, reduce_text))
definition_parts (Auto collection fields) = inr (inl (collection, fields))
definition_parts (AutoReduce collection groups sums) = inr (inr (collection, (groups, sums)))

abbrev parts_definition : Parts → Definition
parts_definition (inl p) = Static p.0.0 p.0.1 p.1.0 p.1.1
parts_definition (inr (inl p)) = Auto p.0 p.1
parts_definition (inr (inr p)) = AutoReduce p.0 p.1.0 p.1.1

pub definition_back : (d : Definition) → parts_definition (definition_parts d) ≡ d
definition_back (Static map reduce map_text reduce_text) = refl
definition_back (Auto collection fields) = refl
definition_back (AutoReduce collection groups sums) = refl

abbrev pub path_code : Coded Path
path_code = coded_list text_code

abbrev pub trees_code : Coded (MapQuery × Option ReduceQuery)
trees_code = coded× map_code (coded_option reduce_code)

abbrev pub definition_code : Coded Definition
definition_code = code_by Parts
    (coded⊎ (coded× trees_code (coded× text_code (coded_option text_code))) (coded⊎ (coded× text_code (coded_list path_code)) (coded× text_code (coded× (coded_list path_code) (coded_list path_code)))))
    definition_parts parts_definition definition_back

-- WHETHER TWO ARE THE SAME

abbrev pub same_codes : Gv → Gv → Bool
same_codes gnil gnil = true
same_codes (gnum m) (gnum n) = m == n
same_codes (gcons a b) (gcons c d) = same_codes a c && same_codes b d
same_codes a b = false

abbrev pub is_same : {A : Type 0} → Coded A → A → A → Bool
is_same code a b = same_codes (code.code a) (code.code b)

-- they say the same, however their texts are spelled
abbrev pub same_definition : Definition → Definition → Bool
same_definition (Static m r t u) (Static n s v w) = is_same map_code m n && is_same (coded_option reduce_code) r s
same_definition (Auto c fields) (Auto d others) = is_same text_code c d && is_same (coded_list path_code) fields others
same_definition (AutoReduce c groups sums) (AutoReduce d others more) =
    is_same text_code c d && (is_same (coded_list path_code) groups others && is_same (coded_list path_code) sums more)
same_definition d e = false
