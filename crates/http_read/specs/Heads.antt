-- The target and the fields of a head.
use Rattle.std.specs.Prelude.{ℕ, ◌+◌, ◌-◌, ◌*◌, ◌⊎◌, Bool, true, false, ◌&&◌, ◌||◌, not, ◌==◌, nat_lt, nat_le, List, [], ◌∷◌, length, map, filter, codes, bytes_eq, if◌then◌else◌, Option, Some, None, IsTrue, slice_index, slice_range}
use Rattle.std.specs.List.{list_all, list_any, before_first, after_first}
use Rattle.std.specs.Str.{is_utf8, str_to_ascii_lowercase}
use Rattle.spec_data.specs.Digits.{number_up_to}
use Rattle.http_read.specs.declared.fields.Framing.{Framing}
use Rattle.http_read.specs.declared.fields.Framing.TheVariants.{Sized, Chunked}
use Rattle.httparse.specs.Grammar.{RequestHead, NeverHasRequest}
use Rattle.httparse.specs.Spans.{name_and_value}

-- the longest head
abbrev pub max_head : ℕ
max_head = 16384

-- THE TARGET

abbrev pub is_space : ℕ → Bool
is_space b = b == 32

abbrev pub is_question_mark : ℕ → Bool
is_question_mark b = b == 63

-- the target as far as the bytes go: what follows the first space, up to the next
abbrev pub target_in : List ℕ → List ℕ
target_in bytes = before_first is_space (after_first is_space bytes)

-- a byte of a target: visible ASCII
abbrev pub is_visible : ℕ → Bool
is_visible b = nat_le 33 b && nat_le b 126

-- its first byte is no slash
abbrev pub begins_badly : List ℕ → Bool
begins_badly [] = false
begins_badly (b ∷ bytes) = not (b == 47)

-- it cannot become a target
abbrev pub is_bad_target : List ℕ → Bool
is_bad_target target = begins_badly target || not (list_all is_visible target)

-- no continuation of the bytes is a head, or the target is bad as far as they go
abbrev pub CannotBegin : List ℕ → Type 0
CannotBegin bytes = NeverHasRequest bytes ⊎ IsTrue (is_bad_target (target_in bytes))

-- FIELDS

-- the field has this name, which is in lower case
abbrev pub is_named : List ℕ → List ℕ × List ℕ → Bool
is_named name field = bytes_eq (str_to_ascii_lowercase field.0) name

-- the values of the fields of that name, which is in lower case, in order
abbrev pub values : List ℕ → List (List ℕ × List ℕ) → List (List ℕ)
values name fields = map (λ field. field.1) (filter (is_named name) fields)

-- the names and values of a head
abbrev pub fields_of : RequestHead → List (List ℕ × List ℕ)
fields_of head = map name_and_value head.fields

-- the number that 1 to 10 digits spell
abbrev pub number_of : List ℕ → Option ℕ
number_of = number_up_to 10

abbrev pub of_length : Option ℕ → Option Framing
of_length None = None
of_length (Some n) = Some (Sized n)

-- how long the body is by the lengths and the transfer codings that are stated; without any it is empty
abbrev pub framing_by : List (List ℕ) → List (List ℕ) → Option Framing
framing_by [] [] = Some (Sized 0)
framing_by (text ∷ []) [] = of_length (number_of text)
framing_by [] (coding ∷ []) = if bytes_eq (str_to_ascii_lowercase coding) (codes "chunked") then Some Chunked else None
framing_by lengths codings = None

abbrev pub framing_of : List (List ℕ × List ℕ) → Option Framing
framing_of fields = framing_by (values (codes "content-length") fields) (values (codes "transfer-encoding") fields)

abbrev pub first : List (List ℕ) → Option (List ℕ)
first [] = None
first (x ∷ xs) = Some x

-- it is text, if there is one
abbrev pub is_text : Option (List ℕ) → Bool
is_text None = true
is_text (Some bytes) = is_utf8 bytes

-- the text without the quotes around it, if it has both
abbrev pub unquoted : List ℕ → List ℕ
unquoted text = if nat_le 2 (length text) && (slice_index text 0 == 34) && (slice_index text (length text - 1) == 34) then slice_range text 1 (length text - 1) else text

abbrev pub if_match_of : List (List ℕ × List ℕ) → Option (List ℕ)
if_match_of fields = first (values (codes "if-match") fields)

-- the content has an encoding other than `identity`
abbrev pub is_encoded : List (List ℕ × List ℕ) → Bool
is_encoded fields = list_any (λ value. not (bytes_eq value (codes "identity"))) (values (codes "content-encoding") fields)

abbrev pub is_close : List ℕ → Bool
is_close value = bytes_eq (str_to_ascii_lowercase value) (codes "close")

-- the connection is to be closed after this request
abbrev pub is_last : ℕ → List (List ℕ × List ℕ) → Bool
is_last minor fields = minor == 0 || list_any is_close (values (codes "connection") fields)
