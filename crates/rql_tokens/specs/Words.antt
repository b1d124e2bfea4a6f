-- What a token may be taken as.
use Rattle.std.specs.Prelude.{◌≡◌, ℕ, ℤ, List, [], ◌∷◌, Bool, true, false, if◌then◌else◌, Option, Some, None}
use Rattle.std.specs.Str.{bytes_eq}
use Rattle.rql_tokens.specs.declared.key_words.KeyWord.{KeyWord}
use Rattle.rql_tokens.specs.declared.key_words.Function.{Function}
use Rattle.rql_tokens.specs.declared.token.Token.{Token}
use Rattle.rql_tokens.specs.declared.token.Token.TheVariants as t
use Rattle.rql_tokens.specs.declared.token.Placed.{Placed}
use Rattle.rql_tokens.specs.KeyWords.{key_text, function_of}

abbrev pub Tokens : Type 0
Tokens = List Placed

-- The place of the first of these tokens. Every text has one, since its end is a token; if all tokens have been passed it is 0.
abbrev pub place_of : Tokens → ℕ
place_of [] = 0
place_of (x ∷ s) = x.at

-- ---- a mark, or a key word

-- it is this token, at any place
abbrev pub Is : Token → Placed → Type 0
Is token x = x.token ≡ token

-- Whether two tokens are the same mark, or the same key word. Names, numbers and texts are the same as none here.
abbrev pub same_token : Token → Token → Bool
same_token (t.Key a) (t.Key b) = bytes_eq (key_text a) (key_text b)
same_token t.Open t.Open = true
same_token t.Close t.Close = true
same_token t.Comma t.Comma = true
same_token t.Point t.Point = true
same_token t.Dollar t.Dollar = true
same_token t.End t.End = true
same_token _ _ = false

-- whether the next token is this one
abbrev pub next_is : Token → Option Placed → Bool
next_is token (Some x) = same_token token x.token
next_is token None = false

-- takes this mark or key word, and no other
abbrev pub the : Token → Placed → Option (Unit {0})
the token x = if same_token token x.token then Some tt else None

-- ---- names

abbrev pub name_as : Token → Option (List ℕ)
name_as (t.Name n) = Some n
name_as _ = None

-- a name, which is no key word
abbrev pub name : Placed → Option (List ℕ)
name x = name_as x.token

abbrev pub function_as : Token → Option Function
function_as (t.Name n) = function_of n
function_as _ = None

-- what a name before `(` calls, if it is one of these
abbrev pub function : Placed → Option Function
function x = if x.called then function_as x.token else None

-- ---- parts of paths

abbrev pub part_as : Token → Option (List ℕ)
part_as (t.Name n) = Some n
part_as (t.Quoted v) = Some v
part_as _ = None

-- a name or a text, by its value
abbrev pub part : Placed → Option (List ℕ)
part x = part_as x.token

-- ---- texts

abbrev pub quoted_as : Token → Option (List ℕ)
quoted_as (t.Quoted v) = Some v
quoted_as _ = None

-- a text, by its value
abbrev pub quoted : Placed → Option (List ℕ)
quoted x = quoted_as x.token

-- ---- bad numbers

abbrev pub bad_number_as : Token → Bool
bad_number_as t.BadNumber = true
bad_number_as _ = false

-- whether the next token is a bad number
abbrev pub is_at_bad_number : Tokens → Bool
is_at_bad_number [] = false
is_at_bad_number (x ∷ s) = bad_number_as x.token
