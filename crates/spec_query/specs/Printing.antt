-- How a field is printed in a refusal: as in the text of a query.
use Rattle.std.specs.Prelude.{ℕ, List, [], ◌∷◌, ◌++◌, Bool, false, not, ◌&&◌, ◌||◌, ◌==◌, nat_le, if◌then◌else◌, codes, flat_map, map}
use Rattle.std.specs.List.{list_any, list_all}
use Rattle.spec_data.specs.Folding.{folded, same_key}
use Rattle.spec_data.specs.Members.{Path}
use Rattle.index_tree.specs.Mapper.{joined}
use Rattle.spec_query.specs.Query.{Field, At, Count, Sum}

abbrev pub key_words : List (List ℕ)
key_words =
    codes "from" ∷ codes "index" ∷ codes "group" ∷ codes "by" ∷ codes "where" ∷ codes "order" ∷ codes "select" ∷ codes "include" ∷ codes "and" ∷ codes "or" ∷ codes "not"
    ∷ codes "in" ∷ codes "between" ∷ codes "as" ∷ codes "true" ∷ codes "false" ∷ codes "null" ∷ codes "exact" ∷ []

-- a letter or `_`
abbrev pub is_letter : ℕ → Bool
is_letter b = (nat_le 65 b && nat_le b 90) || (nat_le 97 b && nat_le b 122) || (b == 95)

abbrev pub is_letter_or_digit : ℕ → Bool
is_letter_or_digit b = is_letter b || (nat_le 48 b && nat_le b 57)

abbrev pub is_word : List ℕ → Bool
is_word [] = false
is_word (b ∷ bs) = is_letter b && list_all is_letter_or_digit bs

-- a word that is no key word, in upper case or lower case
abbrev pub is_name : List ℕ → Bool
is_name part = is_word part && not (list_any (same_key (folded part)) key_words)

-- between single quotes, with a backslash before a quote and before a backslash
abbrev pub quoted : List ℕ → List ℕ
quoted part = 39 ∷ (flat_map (λ b. if (b == 39) || (b == 92) then 92 ∷ b ∷ [] else b ∷ []) part ++ 39 ∷ [])

abbrev pub part_text : List ℕ → List ℕ
part_text part = if is_name part then part else quoted part

abbrev pub path_text : Path → List ℕ
path_text path = joined (map part_text path)

abbrev pub field_text : Field → List ℕ
field_text (At path) = path_text path
field_text Count = codes "count()"
field_text (Sum path) = codes "sum(" ++ (path_text path ++ codes ")")
