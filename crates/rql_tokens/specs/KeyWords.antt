-- The words that have a meaning of their own, in upper case or lower case.
use Rattle.std.specs.Prelude.{ℕ, List, [], ◌∷◌, codes, Option, find}
use Rattle.std.specs.Str.{str_eq_ignore_ascii_case}
use Rattle.rql_tokens.specs.declared.key_words.KeyWord.{KeyWord}
use Rattle.rql_tokens.specs.declared.key_words.KeyWord.TheVariants as k
use Rattle.rql_tokens.specs.declared.key_words.Function.{Function}
use Rattle.rql_tokens.specs.declared.key_words.Function.TheVariants as f

-- KEY WORDS

abbrev pub key_text : KeyWord → List ℕ
key_text k.From = codes "from"
key_text k.Index = codes "index"
key_text k.Group = codes "group"
key_text k.By = codes "by"
key_text k.Where = codes "where"
key_text k.Order = codes "order"
key_text k.Select = codes "select"
key_text k.Include = codes "include"
key_text k.And = codes "and"
key_text k.Or = codes "or"
key_text k.Not = codes "not"
key_text k.In = codes "in"
key_text k.Between = codes "between"
key_text k.As = codes "as"
key_text k.True = codes "true"
key_text k.False = codes "false"
key_text k.Null = codes "null"
key_text k.Exact = codes "exact"

abbrev pub all_keys : List KeyWord
all_keys =
    k.From ∷ k.Index ∷ k.Group ∷ k.By ∷ k.Where ∷ k.Order ∷ k.Select ∷ k.Include ∷ k.And ∷ k.Or ∷ k.Not
    ∷ k.In ∷ k.Between ∷ k.As ∷ k.True ∷ k.False ∷ k.Null ∷ k.Exact ∷ []

-- the key word that a word is
unfoldable pub key_of : List ℕ → Option KeyWord
key_of word = find (λ key. str_eq_ignore_ascii_case (key_text key) word) all_keys

-- CALLS

abbrev pub function_text : Function → List ℕ
function_text f.StartsWith = codes "startswith"
function_text f.Exists = codes "exists"
function_text f.Count = codes "count"
function_text f.Sum = codes "sum"

abbrev pub all_functions : List Function
all_functions = f.StartsWith ∷ f.Exists ∷ f.Count ∷ f.Sum ∷ []

-- what a name before `(` calls
unfoldable pub function_of : List ℕ → Option Function
function_of name = find (λ function. str_eq_ignore_ascii_case (function_text function) name) all_functions
