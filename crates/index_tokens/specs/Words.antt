-- What a token may be taken as.
use Rattle.std.specs.Prelude.{◌≡◌, ℕ, List, [], ◌∷◌, Bool, true, false, if◌then◌else◌, codes, Option, Some, None}
use Rattle.std.specs.Str.{bytes_eq}
use Rattle.index_tokens.specs.declared.token.Token.{Token}
use Rattle.index_tokens.specs.declared.token.Token.TheVariants as t
use Rattle.index_tokens.specs.declared.token.Placed.{Placed}
use Rattle.index_tokens.specs.Spelling.{is_reserved}

abbrev pub Tokens : Type 0
Tokens = List Placed

-- The place of the first of these tokens. Every text has one, since its end is a token; if all tokens have been passed it is 0.
abbrev pub place_of : Tokens → ℕ
place_of [] = 0
place_of (x ∷ s) = x.at

-- ---- a mark, or one word

-- it is this token, at any place
abbrev pub Is : Token → Placed → Type 0
Is token x = x.token ≡ token

-- Whether two tokens are the same mark, or the same word. Numbers and texts are the same as none here.
abbrev pub same_token : Token → Token → Bool
same_token (t.Word a) (t.Word b) = bytes_eq a b
same_token t.OpenBrace t.OpenBrace = true
same_token t.CloseBrace t.CloseBrace = true
same_token t.Open t.Open = true
same_token t.Close t.Close = true
same_token t.Comma t.Comma = true
same_token t.Point t.Point = true
same_token t.Assign t.Assign = true
same_token t.Arrow t.Arrow = true
same_token t.Question t.Question = true
same_token t.Colon t.Colon = true
same_token t.Slash t.Slash = true
same_token t.End t.End = true
same_token _ _ = false

-- whether the next token is this one
abbrev pub next_is : Token → Option Placed → Bool
next_is token (Some x) = same_token token x.token
next_is token None = false

-- takes this mark or word, and no other
abbrev pub the : Token → Placed → Option (Unit {0})
the token x = if same_token token x.token then Some tt else None

-- the words that have a place of their own in a text
abbrev pub word_from : Token
word_from = t.Word (codes "from")

abbrev pub word_in : Token
word_in = t.Word (codes "in")

abbrev pub word_docs : Token
word_docs = t.Word (codes "docs")

abbrev pub word_where : Token
word_where = t.Word (codes "where")

abbrev pub word_let : Token
word_let = t.Word (codes "let")

abbrev pub word_select : Token
word_select = t.Word (codes "select")

abbrev pub word_new : Token
word_new = t.Word (codes "new")

abbrev pub word_results : Token
word_results = t.Word (codes "results")

abbrev pub word_group : Token
word_group = t.Word (codes "group")

abbrev pub word_by : Token
word_by = t.Word (codes "by")

abbrev pub word_into : Token
word_into = t.Word (codes "into")

abbrev pub word_true : Token
word_true = t.Word (codes "true")

abbrev pub word_false : Token
word_false = t.Word (codes "false")

abbrev pub word_null : Token
word_null = t.Word (codes "null")

abbrev pub word_load : Token
word_load = t.Word (codes "LoadDocument")

-- ---- any word

abbrev pub name_as : Token → Option (List ℕ)
name_as (t.Word w) = Some w
name_as _ = None

-- a name that may be any word, as a member's or one after a point
abbrev pub name : Placed → Option (List ℕ)
name x = name_as x.token

abbrev pub unless_reserved : List ℕ → Option (List ℕ)
unless_reserved w = if is_reserved w then None else Some w

abbrev pub variable_as : Token → Option (List ℕ)
variable_as (t.Word w) = unless_reserved w
variable_as _ = None

-- a variable, which is no reserved word
abbrev pub variable : Placed → Option (List ℕ)
variable x = variable_as x.token

-- ---- values

abbrev pub quoted_as : Token → Option (List ℕ)
quoted_as (t.Quoted v) = Some v
quoted_as _ = None

-- a text, by its value
abbrev pub quoted : Placed → Option (List ℕ)
quoted x = quoted_as x.token
