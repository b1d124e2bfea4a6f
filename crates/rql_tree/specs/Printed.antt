-- The parts of a printed field.
use Rattle.std.specs.Prelude.{ℕ, List, [], ◌∷◌, ◌++◌, Bool, ◌||◌, ◌==◌, if◌then◌else◌, codes, flat_map}
use Rattle.std.specs.List.{list_any}
use Rattle.spec_data.specs.Folding.{folded, same_key}
use Rattle.spec_query.specs.Printing.{key_words}

-- a byte between quotes
abbrev pub escaped : ℕ → List ℕ
escaped b = if (b == 39) || (b == 92) then 92 ∷ b ∷ [] else b ∷ []

-- in upper case or lower case
abbrev pub is_one_of : List (List ℕ) → List ℕ → Bool
is_one_of words word = list_any (same_key (folded word)) words

abbrev pub is_key_word : List ℕ → Bool
is_key_word word = is_one_of key_words word

-- those with which a clause begins or goes on, and the others
abbrev pub clause_words : List (List ℕ)
clause_words = codes "from" ∷ codes "index" ∷ codes "group" ∷ codes "by" ∷ codes "where" ∷ codes "order" ∷ codes "select" ∷ codes "include" ∷ []

abbrev pub other_words : List (List ℕ)
other_words = codes "and" ∷ codes "or" ∷ codes "not" ∷ codes "in" ∷ codes "between" ∷ codes "as" ∷ codes "true" ∷ codes "false" ∷ codes "null" ∷ codes "exact" ∷ []

-- with a dot between each two
abbrev pub parted : List (List ℕ) → List ℕ
parted [] = []
parted (part ∷ parts) = part ++ flat_map (λ next. codes "." ++ next) parts
