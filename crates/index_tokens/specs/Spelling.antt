-- Which bytes spell which token.
use Rattle.std.specs.Prelude.{ℕ, pos, List, [], ◌∷◌, Bool, ◌==◌, ◌&&◌, if◌then◌else◌, codes, Option, Some, None, option_map}
use Rattle.std.specs.List.{list_all, list_any}
use Rattle.std.specs.Str.{bytes_eq}
use Rattle.exact_tokens.specs.Bytes.{magnitude}
use Rattle.exact_tokens.specs.Texts as texts
use Rattle.exact_tokens.specs.Marks as marks
use Rattle.index_tokens.specs.declared.token.Token.{Token}
use Rattle.index_tokens.specs.declared.token.Token.TheVariants as t
pub use Rattle.exact_tokens.specs.Bytes.{is_blank, is_letter, is_digit, is_name_byte, number_from}
pub use Rattle.exact_tokens.specs.Tokens.{where_true}

-- NAMES

abbrev pub reserved_words : List (List ℕ)
reserved_words =
    codes "from" ∷ codes "in" ∷ codes "docs" ∷ codes "where" ∷ codes "let" ∷ codes "select" ∷ codes "new" ∷ codes "results"
    ∷ codes "group" ∷ codes "by" ∷ codes "into" ∷ codes "true" ∷ codes "false" ∷ codes "null" ∷ codes "LoadDocument" ∷ []

-- whether a name is a reserved word
abbrev pub is_reserved : List ℕ → Bool
is_reserved word = list_any (bytes_eq word) reserved_words

-- NUMBERS

abbrev pub max_number : ℕ
max_number = 9223372036854775807

-- the number that digits write, if it is not too great
abbrev pub number_or_bad : Option ℕ → Token
number_or_bad (Some n) = t.Number (pos n)
number_or_bad None = t.Bad

-- the token of digits
abbrev pub number_of : List ℕ → Token
number_of digits = number_or_bad (magnitude max_number digits)

-- TEXTS

-- What a backslash and the byte after it mean: a quote, a backslash, an LF, a CR and a tab.
abbrev pub escapes : List (ℕ × ℕ)
escapes = (34, 34) ∷ (92, 92) ∷ (110, 10) ∷ (114, 13) ∷ (116, 9) ∷ []

abbrev pub meant_by : ℕ → Option ℕ
meant_by = texts.meant_by escapes

-- what means itself
abbrev pub is_raw : ℕ → Bool
is_raw = texts.is_raw 34

-- The value of a text, by what follows its opening quote. There is none for other bytes.
abbrev pub value_of : List ℕ → Option (List ℕ)
value_of = texts.value_of 34 escapes

-- MARKS

-- of one byte: { } ( ) , . = ? : < > + - * / % !
abbrev pub single : ℕ → Option Token
single b =
    if b == 123 then Some t.OpenBrace else (
    if b == 125 then Some t.CloseBrace else (
    if b == 40 then Some t.Open else (
    if b == 41 then Some t.Close else (
    if b == 44 then Some t.Comma else (
    if b == 46 then Some t.Point else (
    if b == 61 then Some t.Assign else (
    if b == 63 then Some t.Question else (
    if b == 58 then Some t.Colon else (
    if b == 60 then Some t.Below else (
    if b == 62 then Some t.Above else (
    if b == 43 then Some t.Plus else (
    if b == 45 then Some t.Dash else (
    if b == 42 then Some t.Star else (
    if b == 47 then Some t.Slash else (
    if b == 37 then Some t.Percent else (
    if b == 33 then Some t.Bang else None))))))))))))))))

-- of two bytes: == != <= >= => || &&
abbrev pub double : ℕ → ℕ → Option Token
double a b =
    if (a == 61) && (b == 61) then Some t.Equals else (
    if (a == 33) && (b == 61) then Some t.NotEquals else (
    if (a == 60) && (b == 61) then Some t.AtMost else (
    if (a == 62) && (b == 61) then Some t.AtLeast else (
    if (a == 61) && (b == 62) then Some t.Arrow else (
    if (a == 124) && (b == 124) then Some t.OrOr else (
    if (a == 38) && (b == 38) then Some t.AndAnd else None))))))

abbrev pub mark_of : List ℕ → Option Token
mark_of = marks.mark_of single double

-- THE TOKEN

-- The token that the bytes spell, all of them together. The first byte decides its kind: a letter begins a
-- name, a digit a number, a quote a text, and all else a mark.
abbrev pub spelled_by : List ℕ → Option Token
spelled_by [] = None
spelled_by (b ∷ bs) =
    if is_letter b then where_true (list_all is_name_byte bs) (t.Word (b ∷ bs)) else (
    if is_digit b then where_true (list_all is_digit bs) (number_of (b ∷ bs)) else (
    if b == 34 then option_map t.Quoted (value_of bs) else mark_of (b ∷ bs)))
