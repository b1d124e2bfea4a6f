-- Each token of a text is one that a printed text may hold.
use Rattle.std.proofs.Common.{◌≡◌, ◌≤◌, ℕ, pos, List, [], ◌∷◌, take, arith, refl, subst, ap, ap₂, ◌∙◌, Option, Some, None, Bool, true, false}
use Rattle.std.proofs.lemmas.Grind.{common_steps}
use Rattle.std.specs.Prelude.{◌==◌, ◌&&◌, ◌||◌, is_some, if◌then◌else◌, nat_lt, option_and_then, option_map}
use Rattle.std.specs.List.{list_all}
use Rattle.index_tokens.specs.declared.token.Token.{Token}
use Rattle.index_tokens.specs.declared.token.Token.TheVariants as t
use Rattle.index_tokens.specs.Spelling.{is_letter, is_digit, is_name_byte, max_number, number_from, number_or_bad, number_of, meant_by, is_raw, value_of, single, double, mark_of, where_true, spelled_by}
use Rattle.index_tokens.specs.Tokens.{tokens_of, IsFirst, spelled, bad, AreTokens, ends, blank, token}
use Rattle.index_tokens.specs.Words.{Tokens}
use Rattle.index_tokens.proofs.TurnLemmas.{all_longest}
use Rattle.index_print.specs.Print.{escape_letter}
use Rattle.index_print.specs.Spellable.{IsName, IsNumber, is_quotable, IsQuotable}

abbrev pub IsSound : Token → Type 0
IsSound (t.Word w) = IsName w
IsSound (t.Number n) = IsNumber n
IsSound (t.Quoted v) = IsQuotable v
IsSound _ = Unit {0}

abbrev pub AllSound : Tokens → Type 0
AllSound [] = Unit {0}
AllSound (x ∷ xs) = IsSound x.token × AllSound xs

-- P holds of what is there
record IfThere {A : Type 0} (P : A → Type 0) (o : Option A) : Type 0 where
  holds : (a : A) → o ≡ Some a → P a

there : {A : Type 0} {P : A → Type 0} (a : A) → P a → IfThere P (Some a)
there {P = P} a h = record { holds = λ b e. let same : a ≡ b = cc in subst P same h }

not_there : {A : Type 0} {P : A → Type 0} → IfThere P None
not_there = record { holds = λ b e. cc }

if_there : {A : Type 0} {P : A → Type 0} (h : Bool) (a : A) (o : Option A) → P a → IfThere P o → IfThere P (if h then Some a else o)
if_there true a o p q = there a p
if_there false a o p q = q

-- ---- texts

meant_sound : (c : ℕ) → IfThere (λ x. is_quotable x ≡ true) (meant_by c)
meant_sound c =
    if_there (c == 34) 34 _ refl (if_there (c == 92) 92 _ refl (if_there (c == 110) 10 _ refl (if_there (c == 114) 13 _ refl (if_there (c == 116) 9 _ refl not_there))))

or_true : (x : Bool) → (x || true) ≡ true
or_true true = refl
or_true false = refl

raw_quotable : (b : ℕ) → is_raw b ≡ true → is_quotable b ≡ true
raw_quotable b raw = ap (λ z. is_some (escape_letter b) || z) raw ∙ or_true (is_some (escape_letter b))

one_more : (x : ℕ) (o : Option (List ℕ)) → is_quotable x ≡ true → IfThere IsQuotable o → IfThere IsQuotable (option_map (λ v. x ∷ v) o)
one_more x None h q = not_there
one_more x (Some v) h q = there (x ∷ v) (ap₂ (λ (y z : Bool). y && z) h (q.holds v refl))

escape_more : (o : Option ℕ) (v : Option (List ℕ)) → IfThere (λ x. is_quotable x ≡ true) o → IfThere IsQuotable v → IfThere IsQuotable (option_and_then (λ x. option_map (λ v. x ∷ v) v) o)
escape_more None v h q = not_there
escape_more (Some x) v h q = one_more x v (h.holds x refl) q

raw_more : (raw : Bool) (b : ℕ) (v : Option (List ℕ)) → is_raw b ≡ raw → IfThere IsQuotable v → IfThere IsQuotable (if raw then option_map (λ v. b ∷ v) v else None)
raw_more true b v is q = one_more b v (raw_quotable b is) q
raw_more false b v is q = not_there

either : (h : Bool) (v w : Option (List ℕ)) → IfThere IsQuotable v → IfThere IsQuotable w → IfThere IsQuotable (if h then v else w)
either true v w p q = p
either false v w p q = q

value_sound : (bs : List ℕ) → IfThere IsQuotable (value_of bs)
value_sound [] = not_there
value_sound (b ∷ []) = if_there (b == 34) [] None refl not_there
value_sound (b ∷ c ∷ bs) = either (b == 92) _ _ (escape_more (meant_by c) (value_of bs) (meant_sound c) (value_sound bs)) (raw_more (is_raw b) b (value_of (c ∷ bs)) refl (value_sound (c ∷ bs)))

quoted_sound : (o : Option (List ℕ)) → IfThere IsQuotable o → IfThere IsSound (option_map t.Quoted o)
quoted_sound None q = not_there
quoted_sound (Some v) q = there (t.Quoted v) (q.holds v refl)

-- ---- names, numbers and marks

word_sound : (all : Bool) (b : ℕ) (bs : List ℕ) → list_all is_name_byte bs ≡ all → is_letter b ≡ true → IfThere IsSound (where_true all (t.Word (b ∷ bs)))
word_sound true b bs is letter = there (t.Word (b ∷ bs)) (letter, is)
word_sound false b bs is letter = not_there

not_greater : (n : ℕ) → nat_lt max_number n ≡ false → n ≤ max_number
not_greater n h = grind (arith, common_steps)

number_by : (greater : Bool) (n : ℕ) → nat_lt max_number n ≡ greater → IsSound (number_or_bad (if greater then None else Some n))
number_by true n is = tt
number_by false n is = not_greater n is

digits_sound : (all : Bool) (ds : List ℕ) → IfThere IsSound (where_true all (number_of ds))
digits_sound true ds = there (number_of ds) (number_by (nat_lt max_number (number_from 0 ds)) (number_from 0 ds) refl)
digits_sound false ds = not_there

single_sound : (b : ℕ) → IfThere IsSound (single b)
single_sound b =
    if_there (b == 123) t.OpenBrace _ tt (if_there (b == 125) t.CloseBrace _ tt (if_there (b == 40) t.Open _ tt (if_there (b == 41) t.Close _ tt (
    if_there (b == 44) t.Comma _ tt (if_there (b == 46) t.Point _ tt (if_there (b == 61) t.Assign _ tt (if_there (b == 63) t.Question _ tt (
    if_there (b == 58) t.Colon _ tt (if_there (b == 60) t.Below _ tt (if_there (b == 62) t.Above _ tt (if_there (b == 43) t.Plus _ tt (
    if_there (b == 45) t.Dash _ tt (if_there (b == 42) t.Star _ tt (if_there (b == 47) t.Slash _ tt (if_there (b == 37) t.Percent _ tt (
    if_there (b == 33) t.Bang _ tt not_there))))))))))))))))

double_sound : (a b : ℕ) → IfThere IsSound (double a b)
double_sound a b =
    if_there ((a == 61) && (b == 61)) t.Equals _ tt (if_there ((a == 33) && (b == 61)) t.NotEquals _ tt (if_there ((a == 60) && (b == 61)) t.AtMost _ tt (
    if_there ((a == 62) && (b == 61)) t.AtLeast _ tt (if_there ((a == 61) && (b == 62)) t.Arrow _ tt (if_there ((a == 124) && (b == 124)) t.OrOr _ tt (
    if_there ((a == 38) && (b == 38)) t.AndAnd _ tt not_there))))))

mark_sound : (b : ℕ) (bs : List ℕ) → IfThere IsSound (mark_of (b ∷ bs))
mark_sound b [] = single_sound b
mark_sound b (c ∷ []) = double_sound b c
mark_sound b (c ∷ d ∷ bs) = not_there

-- ---- tokens

spelled_case : (letter digit quote : Bool) (b : ℕ) (bs : List ℕ) → is_letter b ≡ letter
    → IfThere IsSound (if letter then where_true (list_all is_name_byte bs) (t.Word (b ∷ bs)) else (
    if digit then where_true (list_all is_digit bs) (number_of (b ∷ bs)) else (if quote then option_map t.Quoted (value_of bs) else mark_of (b ∷ bs))))
spelled_case true digit quote b bs is = word_sound (list_all is_name_byte bs) b bs refl is
spelled_case false true quote b bs is = digits_sound (list_all is_digit bs) (b ∷ bs)
spelled_case false false true b bs is = quoted_sound (value_of bs) (value_sound bs)
spelled_case false false false b bs is = mark_sound b bs

spelled_sound : (bs : List ℕ) → IfThere IsSound (spelled_by bs)
spelled_sound [] = not_there
spelled_sound (b ∷ bs) = spelled_case (is_letter b) (is_digit b) (b == 34) b bs refl

first_sound : {s : List ℕ} {x : Token} {n : ℕ} → IsFirst s x n → IsSound x
first_sound (spelled {s = s} {x = x} {n = n} fits is longest) = (spelled_sound (take n s)).holds x is
first_sound (bad none whole) = tt

tokens_sound : {place : ℕ} {s : List ℕ} {xs : Tokens} → AreTokens place s xs → AllSound xs
tokens_sound ends = (tt, tt)
tokens_sound (blank is more) = tokens_sound more
tokens_sound (token is found more) = (first_sound found, tokens_sound more)

pub all_sound : (bytes : List ℕ) → AllSound (tokens_of bytes)
all_sound bytes = tokens_sound (all_longest bytes (tokens_of bytes) refl)
