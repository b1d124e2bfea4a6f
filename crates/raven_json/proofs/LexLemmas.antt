-- The tokens of a JSON text have UTF-8 texts, and open no more brackets at once than are open in the text.
use Rattle.std.proofs.Common.{◌≡◌, ℕ, suc, ◌+◌, ◌-◌, ◌<◌, ◌≤◌, List, [], ◌∷◌, ◌++◌, Bool, true, false, cond, ◌&&◌, ◌||◌, ◌==◌, nat_lt, nat_eq, length, take, drop, Option, Some, None, option_and_then, IsUtf8, refl, sym, ap, ◌∙◌, subst, arith, append_assoc}
use Rattle.std.proofs.Math.Seq.{get_or-append_seam, drop-append-add}
use Rattle.std.proofs.lemmas.Bool.{ltb-false, eqb-true}
use Rattle.std.proofs.lemmas.Bool.Decides.{nat_tests}
use Rattle.std.proofs.lemmas.List.{length-append, take-append-drop}
use Rattle.std.proofs.lemmas.Slice.Eq.{bytes_eq-Decides}
use Rattle.std.proofs.lemmas.Str.{IsUtf8-drop, IsCharBoundary-after_ascii}
use Rattle.std.specs.Char.{is_ascii_digit}
use Rattle.std.specs.List.{prefix_len, starts_with}
use Rattle.json.specs.Ascii as ascii
use Rattle.json.specs.Lex.{Lexeme, token, comma, colon, Class, quote, backslash, operator, space, other, class, operator_lexeme, string_token, Mode, between, in_word, in_string, in_escape, lex_byte, lex, Place, fresh, after_value, after_comma, after_key, begins_colon, may_begin, may_close, if_allowed, place_token, punctuate, tokens}
use Rattle.json.specs.Text.{content, plain}
use Rattle.json.specs.Token.{Token}
use Rattle.json.specs.Word.{head, is_operator, is_space, ends_word, word, literal, number_before, after_number, after_digits, after_minus, after_sign, after_whole, after_fraction, after_exponent}
use Rattle.spec_data.specs.Scan.{Place as Stand, outside, in_text, escaped, place_after, open_after, is_too_deep}
use Rattle.raven_json.proofs.Bools.{both_true, either_false}
use Rattle.raven_json.proofs.Utf8Lemmas.{content-utf8}

-- GOOD TOKENS: from so many open brackets, no more than a hundred are ever open; nothing is said of what follows a bad token

abbrev pub AreGood : ℕ → List Token → Type 0
AreGood c [] = Unit {0}
AreGood c (Token.begin_object ∷ ts) = (c + 1 ≤ 100) × AreGood (c + 1) ts
AreGood c (Token.end_object ∷ ts) = AreGood (c - 1) ts
AreGood c (Token.begin_array ∷ ts) = (c + 1 ≤ 100) × AreGood (c + 1) ts
AreGood c (Token.end_array ∷ ts) = AreGood (c - 1) ts
AreGood c (Token.key s ∷ ts) = IsUtf8 s × AreGood c ts
AreGood c (Token.string s ∷ ts) = IsUtf8 s × AreGood c ts
AreGood c (Token.number s ∷ ts) = AreGood c ts
AreGood c (Token.boolean b ∷ ts) = AreGood c ts
AreGood c (Token.null ∷ ts) = AreGood c ts
AreGood c (Token.bad ∷ ts) = Unit {0}

abbrev AreGoodLexemes : ℕ → List Lexeme → Type 0
AreGoodLexemes c [] = Unit {0}
AreGoodLexemes c (token Token.begin_object ∷ ls) = (c + 1 ≤ 100) × AreGoodLexemes (c + 1) ls
AreGoodLexemes c (token Token.end_object ∷ ls) = AreGoodLexemes (c - 1) ls
AreGoodLexemes c (token Token.begin_array ∷ ls) = (c + 1 ≤ 100) × AreGoodLexemes (c + 1) ls
AreGoodLexemes c (token Token.end_array ∷ ls) = AreGoodLexemes (c - 1) ls
AreGoodLexemes c (token (Token.key s) ∷ ls) = IsUtf8 s × AreGoodLexemes c ls
AreGoodLexemes c (token (Token.string s) ∷ ls) = IsUtf8 s × AreGoodLexemes c ls
AreGoodLexemes c (token (Token.number s) ∷ ls) = AreGoodLexemes c ls
AreGoodLexemes c (token (Token.boolean b) ∷ ls) = AreGoodLexemes c ls
AreGoodLexemes c (token Token.null ∷ ls) = AreGoodLexemes c ls
AreGoodLexemes c (token Token.bad ∷ ls) = Unit {0}
AreGoodLexemes c (comma ∷ ls) = AreGoodLexemes c ls
AreGoodLexemes c (colon ∷ ls) = AreGoodLexemes c ls

-- WORDS HAVE NO QUOTE

-- there is no quote before the next operator or space
abbrev IsUnquoted : List ℕ → Type 0
IsUnquoted [] = Unit {0}
IsUnquoted (b ∷ bs) = ((is_operator b || is_space b) ≡ false) → ((b == 34) ≡ false) × IsUnquoted bs

ended : (t : List ℕ) → ends_word t ≡ true → IsUnquoted t
ended [] h = tt
ended (b ∷ bs) h = λ e. absurd (let f = sym e ∙ h in cc)

unquoted-drop : (n : ℕ) (bs : List ℕ) → prefix_len is_ascii_digit bs ≡ n → IsUnquoted (drop n bs) → IsUnquoted bs
unquoted-drop n [] e u = tt
unquoted-drop n (b ∷ bs) e u = elim (is_ascii_digit b) as (λ t. is_ascii_digit b ≡ t → cond t (1 + prefix_len is_ascii_digit bs) 0 ≡ n → IsUnquoted (b ∷ bs)) [
  | true ↦ λ d f. λ _. (grind (arith, nat_tests, d), unquoted-drop (prefix_len is_ascii_digit bs) bs refl (subst (λ m. IsUnquoted (drop m (b ∷ bs))) (let more : n ≡ suc (prefix_len is_ascii_digit bs) = omega arith in more) u))
  | false ↦ λ d f. subst (λ m. IsUnquoted (drop m (b ∷ bs))) (sym f) u
] refl e

-- what follows one byte that is no quote
unquoted-tail : (bs : List ℕ) → (head bs == 34) ≡ false → IsUnquoted (drop 1 bs) → IsUnquoted bs
unquoted-tail [] h u = tt
unquoted-tail (b ∷ bs) h u = λ _. (h, u)

same_rest : (a b : List ℕ) → Some a ≡ Some b → a ≡ b
same_rest a b h = cc

digits-unquoted : (t rest : List ℕ) → after_digits t ≡ Some rest → IsUnquoted rest → IsUnquoted t
digits-unquoted t rest h u = elim (prefix_len is_ascii_digit t == 0) as (λ b. cond b None (Some (drop (prefix_len is_ascii_digit t) t)) ≡ Some rest → IsUnquoted t) [
  | true ↦ λ g. absurd cc
  | false ↦ λ g. unquoted-drop (prefix_len is_ascii_digit t) t refl (subst IsUnquoted (sym (same_rest (drop (prefix_len is_ascii_digit t) t) rest g)) u)
] h

minus-unquoted : (t : List ℕ) → IsUnquoted (after_minus t) → IsUnquoted t
minus-unquoted t u = elim (head t == 45) as (λ b. head t == 45 ≡ b → IsUnquoted (cond b (drop 1 t) t) → IsUnquoted t) [
  | true ↦ λ e g. unquoted-tail t (grind (arith, nat_tests, e)) g
  | false ↦ λ e g. g
] refl u

sign-unquoted : (t : List ℕ) → IsUnquoted (after_sign t) → IsUnquoted t
sign-unquoted t u = elim ((head t == 45) || (head t == 43)) as (λ b. (head t == 45) || (head t == 43) ≡ b → IsUnquoted (cond b (drop 1 t) t) → IsUnquoted t) [
  | true ↦ λ e g. unquoted-tail t (grind (arith, nat_tests, e)) g
  | false ↦ λ e g. g
] refl u

whole-unquoted : (t rest : List ℕ) → after_whole t ≡ Some rest → IsUnquoted rest → IsUnquoted t
whole-unquoted t rest h u = elim (head t == 48) as (λ b. head t == 48 ≡ b → cond b (Some (drop 1 t)) (after_digits t) ≡ Some rest → IsUnquoted t) [
  | true ↦ λ e g. unquoted-tail t (grind (arith, nat_tests, e)) (subst IsUnquoted (sym (same_rest (drop 1 t) rest g)) u)
  | false ↦ λ e g. digits-unquoted t rest g u
] refl h

fraction-unquoted : (t rest : List ℕ) → after_fraction t ≡ Some rest → IsUnquoted rest → IsUnquoted t
fraction-unquoted t rest h u = elim (head t == 46) as (λ b. head t == 46 ≡ b → cond b (after_digits (drop 1 t)) (Some t) ≡ Some rest → IsUnquoted t) [
  | true ↦ λ e g. unquoted-tail t (grind (arith, nat_tests, e)) (digits-unquoted (drop 1 t) rest g u)
  | false ↦ λ e g. subst IsUnquoted (sym (same_rest t rest g)) u
] refl h

exponent-unquoted : (t rest : List ℕ) → after_exponent t ≡ Some rest → IsUnquoted rest → IsUnquoted t
exponent-unquoted t rest h u =
    elim ((head t == 101) || (head t == 69)) as (λ b. (head t == 101) || (head t == 69) ≡ b → cond b (after_digits (after_sign (drop 1 t))) (Some t) ≡ Some rest → IsUnquoted t) [
      | true ↦ λ e g. unquoted-tail t (grind (arith, nat_tests, e)) (sign-unquoted (drop 1 t) (digits-unquoted (after_sign (drop 1 t)) rest g u))
      | false ↦ λ e g. subst IsUnquoted (sym (same_rest t rest g)) u
    ] refl h

number-unquoted : (t rest : List ℕ) → after_number t ≡ Some rest → IsUnquoted rest → IsUnquoted t
unfolding after_number
number-unquoted t rest h u = elim (after_whole (after_minus t)) as (λ o. after_whole (after_minus t) ≡ o → option_and_then after_exponent (option_and_then after_fraction o) ≡ Some rest → IsUnquoted t) [
  | None ↦ λ e g. absurd cc
  | Some a ↦ λ e g. elim (after_fraction a) as (λ o. after_fraction a ≡ o → option_and_then after_exponent o ≡ Some rest → IsUnquoted t) [
    | None ↦ λ f k. absurd cc
    | Some b ↦ λ f k. minus-unquoted t (whole-unquoted (after_minus t) a e (fraction-unquoted a b f (exponent-unquoted b rest k u)))
  ] refl g
] refl h

-- a word that is good has no quote, and is no text and no bracket
abbrev WordIsGood : List ℕ → Token → Type 0
WordIsGood t w = (c : ℕ) (ls : List Lexeme) → (IsUnquoted t → AreGoodLexemes c ls) → AreGoodLexemes c (token w ∷ ls)

number_before-good : (t : List ℕ) (o : Option (List ℕ)) → after_number t ≡ o → WordIsGood t (number_before t o)
number_before-good t None e = λ c ls k. tt
number_before-good t (Some rest) e = elim (ends_word rest) as (λ b. ends_word rest ≡ b → WordIsGood t (cond b (Token.number (take (length t - length rest) t)) Token.bad)) [
  | true ↦ λ f. λ c ls k. k (number-unquoted t rest e (ended rest f))
  | false ↦ λ f. λ c ls k. tt
] refl

-- each byte of a name is no quote
abbrev HasNoQuote : List ℕ → Type 0
HasNoQuote [] = Unit {0}
HasNoQuote (b ∷ bs) = ((b == 34) ≡ false) × HasNoQuote bs

unquoted-front : (name rest : List ℕ) → HasNoQuote name → IsUnquoted rest → IsUnquoted (name ++ rest)
unquoted-front [] rest h u = u
unquoted-front (b ∷ name) rest h u = λ _. (h.0, unquoted-front name rest h.1 u)

literal-unquoted : (name t : List ℕ) → HasNoQuote name → starts_with nat_eq t name && ends_word (drop (length name) t) ≡ true → IsUnquoted t
literal-unquoted name t h e =
    let f = both_true (starts_with nat_eq t name) (ends_word (drop (length name) t)) e in
    let same : name ≡ take (length name) t = (bytes_eq-Decides name (take (length name) t)).0 f.0 in
    subst IsUnquoted (ap (λ x. x ++ drop (length name) t) same ∙ take-append-drop (length name) t) (unquoted-front name (drop (length name) t) h (ended (drop (length name) t) f.1))

literal-is : (name t : List ℕ) (w : Token) → HasNoQuote name → ((c : ℕ) (ls : List Lexeme) → AreGoodLexemes c ls → AreGoodLexemes c (token w ∷ ls)) → WordIsGood t (literal name w t)
literal-is name t w h g = elim (starts_with nat_eq t name && ends_word (drop (length name) t)) as (λ b. starts_with nat_eq t name && ends_word (drop (length name) t) ≡ b → WordIsGood t (cond b w Token.bad)) [
  | true ↦ λ e. λ c ls k. g c ls (k (literal-unquoted name t h e))
  | false ↦ λ e. λ c ls k. tt
] refl

word-good : (t : List ℕ) → WordIsGood t (word t)
unfolding word
word-good t = elim (head t == 116) as (λ b. WordIsGood t (cond b (literal ascii.true_text (Token.boolean true) t)
    (cond (head t == 102) (literal ascii.false_text (Token.boolean false) t) (cond (head t == 110) (literal ascii.null_text Token.null t) (number_before t (after_number t)))))) [
      | true ↦ literal-is ascii.true_text t (Token.boolean true) (refl, (refl, (refl, (refl, tt)))) (λ c ls k. k)
      | false ↦ elim (head t == 102) as (λ b. WordIsGood t (cond b (literal ascii.false_text (Token.boolean false) t) (cond (head t == 110) (literal ascii.null_text Token.null t) (number_before t (after_number t))))) [
        | true ↦ literal-is ascii.false_text t (Token.boolean false) (refl, (refl, (refl, (refl, (refl, tt))))) (λ c ls k. k)
        | false ↦ elim (head t == 110) as (λ b. WordIsGood t (cond b (literal ascii.null_text Token.null t) (number_before t (after_number t)))) [
          | true ↦ literal-is ascii.null_text t Token.null (refl, (refl, (refl, (refl, tt)))) (λ c ls k. k)
          | false ↦ number_before-good t (after_number t) refl
        ]
      ]
    ]

-- BYTES

-- what follows a prefix in a UTF-8 text
abbrev IsTail : List ℕ → Type 0
IsTail xs = (front : List ℕ) × IsUtf8 (front ++ xs)

tail-next : (x : ℕ) (xs : List ℕ) → IsTail (x ∷ xs) → IsTail xs
tail-next x xs t = (t.0 ++ x ∷ [], subst IsUtf8 (sym (append_assoc t.0 (x ∷ []) xs)) t.1)

tail-after : (x : ℕ) (xs : List ℕ) → x < 128 → IsTail (x ∷ xs) → IsUtf8 xs
tail-after x xs low t =
    let whole = t.0 ++ x ∷ xs in
    let here = get_or-append_seam t.0 x xs 0 in
    let long = length-append t.0 (x ∷ xs) in
    subst IsUtf8 (drop-append-add t.0 (x ∷ xs) 1) (IsUtf8-drop whole (length t.0 + 1) t.1 (IsCharBoundary-after_ascii whole (length t.0) t.1 (omega arith) (omega arith)))

-- what the scan of the brackets says of one byte and the rest
abbrev IsShallow : Stand → ℕ → ℕ → List ℕ → Type 0
IsShallow p c x xs = (nat_lt 100 (open_after p c x) || is_too_deep (place_after p x) (open_after p c x) xs) ≡ false

-- a byte outside texts that is no quote and no bracket
plain-shallow : (c x : ℕ) (xs : List ℕ) → (x == 34) ≡ false → (x == 123) ≡ false → (x == 91) ≡ false → (x == 125) ≡ false → (x == 93) ≡ false → IsShallow outside c x xs → is_too_deep outside c xs ≡ false
plain-shallow c x xs q a b d e h =
    let count : open_after outside c x ≡ c = rw (a, b, d, e) refl in
    let place : place_after outside x ≡ outside = rw q refl in
    (λ i. is_too_deep (sym place i) (sym count i) xs) ∙ (either_false (nat_lt 100 (open_after outside c x)) (is_too_deep (place_after outside x) (open_after outside c x) xs) h).1

-- WHAT CLASS A BYTE IS OF

-- what the class says of its byte
abbrev IsOf : Class → ℕ → Type 0
IsOf quote x = x ≡ 34
IsOf backslash x = x ≡ 92
IsOf operator x = ((x == 34) ≡ false) × ((x == 92) ≡ false) × (is_operator x ≡ true)
IsOf space x = ((x == 34) ≡ false) × ((x == 92) ≡ false) × (is_operator x ≡ false) × (is_space x ≡ true)
IsOf other x = ((x == 34) ≡ false) × ((x == 92) ≡ false) × (is_operator x ≡ false) × (is_space x ≡ false)

class-is : (x : ℕ) → IsOf (class x) x
class-is x = elim (x == 34) as (λ b. x == 34 ≡ b → IsOf (cond b quote (cond (x == 92) backslash (cond (is_operator x) operator (cond (is_space x) space other)))) x) [
  | true ↦ λ q. eqb-true x 34 q
  | false ↦ λ q. elim (x == 92) as (λ b. x == 92 ≡ b → IsOf (cond b backslash (cond (is_operator x) operator (cond (is_space x) space other))) x) [
    | true ↦ λ s. eqb-true x 92 s
    | false ↦ λ s. elim (is_operator x) as (λ b. is_operator x ≡ b → IsOf (cond b operator (cond (is_space x) space other)) x) [
      | true ↦ λ o. (q, s, o)
      | false ↦ λ o. elim (is_space x) as (λ b. is_space x ≡ b → IsOf (cond b space other) x) [
        | true ↦ λ e. (q, s, o, e)
        | false ↦ λ e. (q, s, o, e)
      ] refl
    ] refl
  ] refl
] refl

-- none of the brackets is outside the operators
no_bracket : (x : ℕ) → is_operator x ≡ false → ((x == 123) ≡ false) × ((x == 91) ≡ false) × ((x == 125) ≡ false) × ((x == 93) ≡ false)
no_bracket x h = (grind (arith, nat_tests, h), grind (arith, nat_tests, h), grind (arith, nat_tests, h), grind (arith, nat_tests, h))

passed : (c x : ℕ) (xs : List ℕ) → (x == 34) ≡ false → is_operator x ≡ false → IsShallow outside c x xs → is_too_deep outside c xs ≡ false
passed c x xs q o h = let n = no_bracket x o in plain-shallow c x xs q n.0 n.1 n.2 n.3 h

-- an operator, and what may follow it
operator-good : (c x : ℕ) (xs : List ℕ) (ls : List Lexeme) → (x == 34) ≡ false → IsShallow outside c x xs → ((k : ℕ) → is_too_deep outside k xs ≡ false → AreGoodLexemes k ls) → AreGoodLexemes c (operator_lexeme x ∷ ls)
operator-good c x xs ls q h more =
    elim (x == 123) as (λ b. x == 123 ≡ b → AreGoodLexemes c (cond b (token Token.begin_object) (cond (x == 125) (token Token.end_object) (cond (x == 91) (token Token.begin_array) (cond (x == 93) (token Token.end_array) (cond (x == 44) comma colon)))) ∷ ls)) [
      | true ↦ λ e. let f = either_false (nat_lt 100 (c + 1)) (is_too_deep outside (c + 1) xs) (subst (λ y. IsShallow outside c y xs) (eqb-true x 123 e) h) in (ltb-false 100 (c + 1) f.0, more (c + 1) f.1)
      | false ↦ λ a. elim (x == 125) as (λ b. x == 125 ≡ b → AreGoodLexemes c (cond b (token Token.end_object) (cond (x == 91) (token Token.begin_array) (cond (x == 93) (token Token.end_array) (cond (x == 44) comma colon))) ∷ ls)) [
        | true ↦ λ e. let f = either_false (nat_lt 100 (c - 1)) (is_too_deep outside (c - 1) xs) (subst (λ y. IsShallow outside c y xs) (eqb-true x 125 e) h) in more (c - 1) f.1
        | false ↦ λ d. elim (x == 91) as (λ b. x == 91 ≡ b → AreGoodLexemes c (cond b (token Token.begin_array) (cond (x == 93) (token Token.end_array) (cond (x == 44) comma colon)) ∷ ls)) [
          | true ↦ λ e. let f = either_false (nat_lt 100 (c + 1)) (is_too_deep outside (c + 1) xs) (subst (λ y. IsShallow outside c y xs) (eqb-true x 91 e) h) in (ltb-false 100 (c + 1) f.0, more (c + 1) f.1)
          | false ↦ λ g. elim (x == 93) as (λ b. x == 93 ≡ b → AreGoodLexemes c (cond b (token Token.end_array) (cond (x == 44) comma colon) ∷ ls)) [
            | true ↦ λ e. let f = either_false (nat_lt 100 (c - 1)) (is_too_deep outside (c - 1) xs) (subst (λ y. IsShallow outside c y xs) (eqb-true x 93 e) h) in more (c - 1) f.1
            | false ↦ λ j. let rest = more c (plain-shallow c x xs q a g d j h) in elim (x == 44) as (λ b. AreGoodLexemes c (cond b comma colon ∷ ls)) [ true ↦ rest | false ↦ rest ]
          ] refl
        ] refl
      ] refl
    ] refl

-- LEXEMES

abbrev stand_in : Mode → Stand
stand_in between = outside
stand_in in_word = outside
stand_in in_string = in_text
stand_in in_escape = escaped

-- a word has no quote
abbrev IsAligned : Mode → List ℕ → Type 0
IsAligned between xs = Unit {0}
IsAligned in_word xs = IsUnquoted xs
IsAligned in_string xs = Unit {0}
IsAligned in_escape xs = Unit {0}

text-good : (c : ℕ) (xs : List ℕ) (ls : List Lexeme) → IsUtf8 xs → AreGoodLexemes c ls → AreGoodLexemes c (token (string_token (content plain xs)) ∷ ls)
text-good c xs ls u g = elim (content plain xs) as (λ o. content plain xs ≡ o → AreGoodLexemes c (token (string_token o) ∷ ls)) [
  | None ↦ λ e. tt
  | Some s ↦ λ e. (content-utf8 xs s u e, g)
] refl

-- what has to be proved of the lexemes after a byte
abbrev Goes : List ℕ → Type 0
Goes xs = (m : Mode) (c : ℕ) → IsAligned m xs → is_too_deep (stand_in m) c xs ≡ false → AreGoodLexemes c (lex m xs)

-- a byte inside a text that ends nothing
inside : (c x : ℕ) (xs : List ℕ) → (x == 34) ≡ false → (x == 92) ≡ false → IsShallow in_text c x xs → is_too_deep in_text c xs ≡ false
inside c x xs q s h =
    let place : place_after in_text x ≡ in_text = rw (s, q) refl in
    (λ i. is_too_deep (sym place i) c xs) ∙ (either_false (nat_lt 100 c) (is_too_deep (place_after in_text x) c xs) h).1

byte-good : (m : Mode) (k : Class) (c x : ℕ) (xs : List ℕ) → IsOf k x → IsTail (x ∷ xs) → IsAligned m (x ∷ xs) → IsShallow (stand_in m) c x xs → Goes xs → AreGoodLexemes c (lex_byte m k x xs (λ next. lex next xs))
byte-good between quote c x xs is t a h more =
    let f = either_false (nat_lt 100 c) (is_too_deep in_text c xs) (subst (λ y. IsShallow outside c y xs) is h) in
    text-good c xs (lex in_string xs) (tail-after x xs (omega arith) t) (more in_string c tt f.1)
byte-good between backslash c x xs is t a h more = tt
byte-good between operator c x xs is t a h more = operator-good c x xs (lex between xs) is.0 h (λ k e. more between k tt e)
byte-good between space c x xs is t a h more = more between c tt (passed c x xs is.0 is.2 h)
byte-good between other c x xs is t a h more =
    word-good (x ∷ xs) c (lex in_word xs) (λ u. more in_word c (u (λ i. is.2 i || is.3 i)).1 (passed c x xs is.0 is.2 h))
byte-good in_word quote c x xs is t a h more =
    absurd (let f = (subst (λ y. IsUnquoted (y ∷ xs)) is a) refl in let g = f.0 in cc)
byte-good in_word backslash c x xs is t a h more =
    let f = either_false (nat_lt 100 c) (is_too_deep outside c xs) (subst (λ y. IsShallow outside c y xs) is h) in
    more in_word c ((subst (λ y. IsUnquoted (y ∷ xs)) is a) refl).1 f.1
byte-good in_word operator c x xs is t a h more = operator-good c x xs (lex between xs) is.0 h (λ k e. more between k tt e)
byte-good in_word space c x xs is t a h more = more between c tt (passed c x xs is.0 is.2 h)
byte-good in_word other c x xs is t a h more = more in_word c (a (λ i. is.2 i || is.3 i)).1 (passed c x xs is.0 is.2 h)
byte-good in_string quote c x xs is t a h more =
    more between c tt (either_false (nat_lt 100 c) (is_too_deep outside c xs) (subst (λ y. IsShallow in_text c y xs) is h)).1
byte-good in_string backslash c x xs is t a h more =
    more in_escape c tt (either_false (nat_lt 100 c) (is_too_deep escaped c xs) (subst (λ y. IsShallow in_text c y xs) is h)).1
byte-good in_string operator c x xs is t a h more = more in_string c tt (inside c x xs is.0 is.1 h)
byte-good in_string space c x xs is t a h more = more in_string c tt (inside c x xs is.0 is.1 h)
byte-good in_string other c x xs is t a h more = more in_string c tt (inside c x xs is.0 is.1 h)
byte-good in_escape k c x xs is t a h more = more in_string c tt (either_false (nat_lt 100 c) (is_too_deep in_text c xs) h).1

lex-good : (xs : List ℕ) → IsTail xs → Goes xs
unfolding lex
lex-good [] t m c a h = tt
lex-good (x ∷ xs) t m c a h = byte-good m (class x) c x xs (class-is x) t a h (lex-good xs (tail-next x xs t))

-- TOKENS

allowed : (b : Bool) (c : ℕ) (t : Token) (k : Place → List Token) (next : Place) → AreGood c (t ∷ k next) → AreGood c (if_allowed b t k next)
allowed true c t k next g = g
allowed false c t k next g = tt

-- a token in its place is good, if all that may follow it is
place-good : (p : Place) (t : Token) (b : Bool) (c : ℕ) (ls : List Lexeme) (k : Place → List Token) → AreGoodLexemes c (token t ∷ ls) → ((next : Place) (d : ℕ) → AreGoodLexemes d ls → AreGood d (k next)) → AreGood c (place_token p t b k)
place-good p Token.begin_object b c ls k g more = allowed (may_begin p) c Token.begin_object k fresh (g.0, more fresh (c + 1) g.1)
place-good p Token.end_object b c ls k g more = allowed (may_close p) c Token.end_object k after_value (more after_value (c - 1) g)
place-good p Token.begin_array b c ls k g more = allowed (may_begin p) c Token.begin_array k fresh (g.0, more fresh (c + 1) g.1)
place-good p Token.end_array b c ls k g more = allowed (may_close p) c Token.end_array k after_value (more after_value (c - 1) g)
place-good p (Token.key s) b c ls k g more = tt
place-good p (Token.string s) true c ls k g more = allowed (may_begin p) c (Token.key s) k after_key (g.0, more after_key c g.1)
place-good p (Token.string s) false c ls k g more = allowed (may_begin p) c (Token.string s) k after_value (g.0, more after_value c g.1)
place-good p (Token.number s) b c ls k g more = allowed (may_begin p) c (Token.number s) k after_value (more after_value c g)
place-good p (Token.boolean t) b c ls k g more = allowed (may_begin p) c (Token.boolean t) k after_value (more after_value c g)
place-good p Token.null b c ls k g more = allowed (may_begin p) c Token.null k after_value (more after_value c g)
place-good p Token.bad b c ls k g more = tt

punctuate-good : (p : Place) (c : ℕ) (ls : List Lexeme) → AreGoodLexemes c ls → AreGood c (punctuate p ls)
unfolding punctuate
punctuate-good fresh c [] g = tt
punctuate-good after_value c [] g = tt
punctuate-good after_comma c [] g = tt
punctuate-good after_key c [] g = tt
punctuate-good fresh c (token t ∷ ls) g = place-good fresh t (begins_colon ls) c ls (λ next. punctuate next ls) g (λ next d h. punctuate-good next d ls h)
punctuate-good after_value c (token t ∷ ls) g = place-good after_value t (begins_colon ls) c ls (λ next. punctuate next ls) g (λ next d h. punctuate-good next d ls h)
punctuate-good after_comma c (token t ∷ ls) g = place-good after_comma t (begins_colon ls) c ls (λ next. punctuate next ls) g (λ next d h. punctuate-good next d ls h)
punctuate-good after_key c (token t ∷ ls) g = place-good after_key t (begins_colon ls) c ls (λ next. punctuate next ls) g (λ next d h. punctuate-good next d ls h)
punctuate-good fresh c (comma ∷ ls) g = tt
punctuate-good after_value c (comma ∷ ls) g = punctuate-good after_comma c ls g
punctuate-good after_comma c (comma ∷ ls) g = tt
punctuate-good after_key c (comma ∷ ls) g = tt
punctuate-good fresh c (colon ∷ ls) g = tt
punctuate-good after_value c (colon ∷ ls) g = tt
punctuate-good after_comma c (colon ∷ ls) g = tt
punctuate-good after_key c (colon ∷ ls) g = punctuate-good fresh c ls g

-- the tokens of a UTF-8 text in which no more than a hundred brackets are open at once
pub tokens-good : (text : List ℕ) → IsUtf8 text → is_too_deep outside 0 text ≡ false → AreGood 0 (tokens text)
tokens-good text u h = punctuate-good fresh 0 (lex between text) (lex-good text ([], u) between 0 tt h)
