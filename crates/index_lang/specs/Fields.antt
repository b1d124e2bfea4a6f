-- The fields that members give.
use Rattle.std.specs.Prelude.{ℕ, ◌&&◌, if◌then◌else◌, List, [], ◌∷◌, ◌++◌, Bool, Option, Some, None}
use Rattle.std.specs.List.{list_any, list_all}
use Rattle.std.specs.Str.{bytes_eq}
use Rattle.index_tree.specs.declared.reduce_query.FoldValue.{FoldValue}
use Rattle.index_tree.specs.declared.reduce_query.FoldValue.TheVariants as v
pub use Rattle.spec_index.specs.Again.{gives_part, is_sum_of}
use Rattle.index_grammar.specs.declared.spelled.PlacedMember.{PlacedMember}
use Rattle.reduce_grammar.specs.declared.spelled.PlacedFold.{PlacedFold}
use Rattle.reduce_grammar.specs.declared.spelled.SpelledReduce.{SpelledReduce}
use Rattle.index_lang.specs.Bound.{or_else}
use Rattle.index_definition.specs.Adding.{is_among}

-- ---- two members of one name

module _ {M : Type 0} (label : M → List ℕ) (place : M → ℕ) where
  abbrev pub has_name : List M → List ℕ → Bool
  has_name members name = list_any (λ m. bytes_eq name (label m)) members

  -- the place of the first member whose name one before it has
  abbrev pub duplicate_after : List M → List M → Option ℕ
  duplicate_after before [] = None
  duplicate_after before (m ∷ members) = if has_name before (label m) then Some (place m) else duplicate_after (before ++ m ∷ []) members

  abbrev pub duplicate : List M → Option ℕ
  duplicate members = duplicate_after [] members

abbrev pub member_name : PlacedMember → List ℕ
member_name m = m.member.name

abbrev pub member_place : PlacedMember → ℕ
member_place m = m.at

abbrev pub fold_name : PlacedFold → List ℕ
fold_name m = m.member.name

abbrev pub fold_place : PlacedFold → ℕ
fold_place m = m.at

-- ---- a map and its reduce

-- whether they give fields of the same names
abbrev pub fields_agree : List PlacedMember → List PlacedFold → Bool
fields_agree members folds = list_all (λ m. has_name fold_name fold_place folds (member_name m)) members && list_all (λ m. has_name member_name member_place members (fold_name m)) folds

-- ---- what can be reduced once more

-- a member of the name of the field is the sum of the field
abbrev pub is_summed : List PlacedFold → List ℕ → Bool
is_summed members field = list_any (λ m. bytes_eq field m.member.name && is_sum_of field m.member.value) members

-- a part of the key keeps its name, a fold folds the field of its own name, and a quotient is that of two sums that are members too
abbrev pub keeps_name : List (List ℕ) → List PlacedFold → List ℕ → FoldValue → Bool
keeps_name key all name (v.Key part) = is_among key part && bytes_eq part name
keeps_name key all name (v.Fold kind own field) = bytes_eq field name
keeps_name key all name (v.Quotient own field by_own by) = is_summed all field && is_summed all by

abbrev pub first_renamed : List (List ℕ) → List PlacedFold → List PlacedFold → Option ℕ
first_renamed key all [] = None
first_renamed key all (m ∷ members) = if keeps_name key all m.member.name m.member.value then first_renamed key all members else Some m.at

-- whether each part of the key has a member
abbrev pub gives_key : List (List ℕ) → List PlacedFold → Bool
gives_key key members = list_all (λ part. list_any (λ m. gives_part part m.member.value) members) key

-- the place of the first member that keeps groups from being reduced once more, or of the key, of which a part is left out
abbrev pub irreducible : SpelledReduce → Option ℕ
irreducible r = or_else (first_renamed r.key r.members r.members) (if gives_key r.key r.members then None else Some r.key_at)
