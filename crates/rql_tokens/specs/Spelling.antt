-- Which bytes spell which token.
use Rattle.std.specs.Prelude.{ℕ, ℤ, pos, neg_ℤ, List, [], ◌∷◌, Bool, ◌==◌, ◌&&◌, ◌||◌, if◌then◌else◌, Option, Some, None, option_map}
use Rattle.std.specs.List.{list_all}
use Rattle.exact_tokens.specs.Bytes.{is_letter, is_digit, is_name_byte, magnitude}
use Rattle.exact_tokens.specs.Tokens.{where_true}
use Rattle.exact_tokens.specs.Texts as texts
use Rattle.exact_tokens.specs.Marks as marks
use Rattle.rql_tokens.specs.declared.key_words.KeyWord.{KeyWord}
use Rattle.rql_tokens.specs.declared.token.Token.{Token}
use Rattle.rql_tokens.specs.declared.token.Token.TheVariants as t
use Rattle.rql_tokens.specs.KeyWords.{key_of}

-- WORDS

abbrev pub key_or_name : Option KeyWord → List ℕ → Token
key_or_name (Some key) word = t.Key key
key_or_name None word = t.Name word

-- a key word, or else a name
abbrev pub word_of : List ℕ → Token
word_of word = key_or_name (key_of word) word

-- NUMBERS

abbrev pub max_number : ℕ
max_number = 9223372036854775807

abbrev pub max_negative : ℕ
max_negative = 9223372036854775808

-- the token of a number that is not too great, by its sign
abbrev pub number_or_bad : (ℕ → ℤ) → Option ℕ → Token
number_or_bad sign (Some n) = t.Number (sign n)
number_or_bad sign None = t.BadNumber

-- a letter, a digit, `_` or a point: what belongs to a number that it follows
abbrev pub is_number_byte : ℕ → Bool
is_number_byte b = is_name_byte b || (b == 46)

-- the token of bytes that belong to a number: a bad one, if not all of them are digits, or the number is too great
abbrev pub number_of : ℕ → (ℕ → ℤ) → List ℕ → Token
number_of most sign bytes = if list_all is_digit bytes then number_or_bad sign (magnitude most bytes) else t.BadNumber

abbrev pub positive : List ℕ → Token
positive = number_of max_number pos

-- behind `-`
abbrev pub negative : List ℕ → Token
negative = number_of max_negative (λ n. neg_ℤ (pos n))

-- of the bytes behind `-`, of which the first is a digit
abbrev pub negative_by : List ℕ → Option Token
negative_by [] = None
negative_by (b ∷ bs) = if is_digit b then where_true (list_all is_number_byte bs) (negative (b ∷ bs)) else None

-- TEXTS

-- `'` or `"`
abbrev pub is_quote : ℕ → Bool
is_quote b = (b == 39) || (b == 34)

-- what a backslash may stand before, and means: the quote that the text stands in, and a backslash
abbrev pub escapes : ℕ → List (ℕ × ℕ)
escapes quote = (quote, quote) ∷ (92, 92) ∷ []

-- The value of a text in such quotes, by what follows the first of them. There is none for other bytes.
abbrev pub value_of : ℕ → List ℕ → Option (List ℕ)
value_of quote = texts.value_of quote (escapes quote)

-- MARKS

-- of one byte: ( ) , . $ = < >
abbrev pub single : ℕ → Option Token
single b =
    if b == 40 then Some t.Open else (
    if b == 41 then Some t.Close else (
    if b == 44 then Some t.Comma else (
    if b == 46 then Some t.Point else (
    if b == 36 then Some t.Dollar else (
    if b == 61 then Some t.Equal else (
    if b == 60 then Some t.Below else (
    if b == 62 then Some t.Above else None)))))))

-- of two bytes: == != <> <= >=
abbrev pub double : ℕ → ℕ → Option Token
double a b =
    if (a == 61) && (b == 61) then Some t.Equal else (
    if (a == 33) && (b == 61) then Some t.NotEqual else (
    if (a == 60) && (b == 62) then Some t.NotEqual else (
    if (a == 60) && (b == 61) then Some t.AtMost else (
    if (a == 62) && (b == 61) then Some t.AtLeast else None))))

abbrev pub mark_of : List ℕ → Option Token
mark_of = marks.mark_of single double

-- THE TOKEN

-- The token that the bytes spell, all of them together. The first byte decides its kind: a letter begins a word, a digit or `-` a number, a quote a
-- text, and all else a mark.
abbrev pub spelled_by : List ℕ → Option Token
spelled_by [] = None
spelled_by (b ∷ bs) =
    if is_letter b then where_true (list_all is_name_byte bs) (word_of (b ∷ bs)) else (
    if is_digit b then where_true (list_all is_number_byte bs) (positive (b ∷ bs)) else (
    if b == 45 then negative_by bs else (
    if is_quote b then option_map t.Quoted (value_of b bs) else mark_of (b ∷ bs))))
