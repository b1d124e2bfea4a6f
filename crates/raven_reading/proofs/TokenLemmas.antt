-- The names and texts in the tokens of a UTF-8 text are UTF-8.
use Rattle.std.proofs.Common.{◌≡◌, ◌≢◌, ◌⊎◌, ℕ, zero, suc, ◌+◌, ◌-◌, ◌<◌, List, [], ◌∷◌, ◌++◌, Bool, true, false, cond, ◌&&◌, ◌==◌, length, take, drop, Option, Some, None, option_map, option_and_then, IsUtf8, refl, sym, ap, subst, arith, inl, inr}
use Rattle.std.proofs.lemmas.Bool.{cases_eq, eqb-true}
use Rattle.std.proofs.lemmas.Bool.Decides.{nat_tests}
use Rattle.std.specs.List.{list_all}
use Rattle.exact_tokens.specs.Bytes.{is_blank, is_digit, is_letter, is_name_byte, magnitude}
use Rattle.exact_tokens.specs.Passes.{run}
use Rattle.exact_tokens.specs.Texts.{is_raw, meant_by, are_ascii}
use Rattle.exact_tokens.specs.Tokens.{or_shorter}
use Rattle.exact_tokens.proofs.FirstLemmas.{letter_name}
use Rattle.exact_tokens.proofs.QuotedLemmas.{closed_utf8, drop_more, drop_two, escape_utf8, meant_ascii, raw_utf8, value_utf8}
use Rattle.exact_tokens.proofs.RunLemmas.{behind_name, name_fits, run_more}
use Rattle.exact_tokens.proofs.Seams.{before_text, behind_all, behind_ascii}
use Rattle.rql_tokens.specs.declared.key_words.KeyWord.{KeyWord}
use Rattle.rql_tokens.specs.declared.token.Placed.{Placed}
use Rattle.rql_tokens.specs.declared.token.Token.{Token}
use Rattle.rql_tokens.specs.declared.token.Token.TheVariants as t
use Rattle.rql_tokens.specs.KeyWords.{key_of}
use Rattle.rql_tokens.specs.Passes.{mark_prefix, negative_prefix, number_prefix, quoted_prefix, text_from, word_prefix}
use Rattle.rql_tokens.specs.Spelling.{double, escapes, is_number_byte, is_quote, key_or_name, negative, number_of, number_or_bad, single}
use Rattle.rql_tokens.specs.Tokens.{first_token, or_all, placed_before, tokens_from, tokens_of}
use Rattle.rql_tokens.specs.Words.{Is, Tokens, part}
use Rattle.rql_tokens.proofs.PrefixLemmas.{marks, negatives, numbers, texts, words}
use Rattle.rql_tokens.proofs.QuoteLemmas.{escapes_ascii, quote_ascii}
use Rattle.rql_tokens.proofs.RunLemmas.{behind_minus, behind_number}
use Rattle.rql_tokens.proofs.WordLemmas.{part_is}
use Rattle.spec_store.proofs.StoreLemmas.{both_true}

-- a name or a text is UTF-8
abbrev pub HasUtf8 : Token → Type 0
HasUtf8 (t.Name n) = IsUtf8 n
HasUtf8 (t.Quoted v) = IsUtf8 v
HasUtf8 _ = Unit {0}

abbrev pub HaveUtf8 : Tokens → Type 0
HaveUtf8 [] = Unit {0}
HaveUtf8 (x ∷ s) = HasUtf8 x.token × HaveUtf8 s

-- the first token, and what follows it
record IsGoodFirst (s : List ℕ) (found : Token × ℕ) : Type 0 where
  pub good : HasUtf8 found.0
  pub rest : IsUtf8 (drop found.1 s)
  pub some : 0 < found.1

-- WORDS AND NUMBERS

word-good : (o : Option KeyWord) (w : List ℕ) → IsUtf8 w → HasUtf8 (key_or_name o w)
word-good (Some key) w u = tt
word-good None w u = u

words-first : (b : ℕ) (bs : List ℕ) → is_letter b ≡ true → IsUtf8 (b ∷ bs) → IsGoodFirst (b ∷ bs) (word_prefix (b ∷ bs))
words-first b bs letter u =
    let s = b ∷ bs in
    let n = run is_name_byte s in
    let rest = behind_name s u in
    let more = run_more is_name_byte b bs (letter_name b letter) in
    record { good = word-good (key_of (take n s)) (take n s) (before_text s n u (name_fits s) rest); rest = rest; some = omega arith }

bad-or-number : (sign : ℕ → _) (o : Option ℕ) → HasUtf8 (number_or_bad sign o)
bad-or-number sign None = tt
bad-or-number sign (Some n) = tt

number-good : (most : ℕ) (sign : ℕ → _) (bytes : List ℕ) → HasUtf8 (number_of most sign bytes)
number-good most sign bytes = elim (list_all is_digit bytes) as (λ d. HasUtf8 (cond d (number_or_bad sign (magnitude most bytes)) t.BadNumber)) [ true ↦ bad-or-number sign (magnitude most bytes) | false ↦ tt ]

digit-number : (b : ℕ) → is_digit b ≡ true → is_number_byte b ≡ true
digit-number b is = grind (arith, nat_tests, is)

numbers-first : (b : ℕ) (bs : List ℕ) → is_digit b ≡ true → IsUtf8 (b ∷ bs) → IsGoodFirst (b ∷ bs) (number_prefix (b ∷ bs))
numbers-first b bs digit u =
    let more = run_more is_number_byte b bs (digit-number b digit) in
    record { good = number-good _ _ (take (run is_number_byte (b ∷ bs)) (b ∷ bs)); rest = behind_number (b ∷ bs) u; some = omega arith }

all-bad : (b : ℕ) (bs : List ℕ) → IsGoodFirst (b ∷ bs) (t.Bad, length (b ∷ bs))
all-bad b bs = record { good = tt; rest = behind_all (b ∷ bs); some = omega arith }

minus-first : (bs : List ℕ) → IsUtf8 (45 ∷ bs) → IsGoodFirst (45 ∷ bs) (negative_prefix (45 ∷ bs) bs)
minus-first [] u = all-bad 45 []
minus-first (b ∷ bs) u =
    let n = run is_number_byte (b ∷ bs) in
    elim (is_digit b) as (λ d. IsGoodFirst (45 ∷ b ∷ bs) (or_all (45 ∷ b ∷ bs) (cond d (Some (negative (take n (b ∷ bs)), n + 1)) None))) [
      | true ↦ record { good = number-good _ _ (take n (b ∷ bs)); rest = behind_minus (45 ∷ b ∷ bs) (b ∷ bs) n refl (behind_number (b ∷ bs)) u; some = omega arith }
      | false ↦ all-bad 45 (b ∷ bs)
    ]

-- TEXTS

-- the value, and what follows the closing quote
record IsClosed (whole : List ℕ) (p : List ℕ × ℕ) : Type 0 where
  pub value : IsUtf8 p.0
  pub rest : IsUtf8 (drop p.1 whole)

same_pair : (a b : List ℕ × ℕ) → Some a ≡ Some b → a ≡ b
same_pair a b h = cc

module _ (quote : ℕ) (small : quote < 128) (table : are_ascii (escapes quote) ≡ true) (whole : List ℕ) where
  closing : (value s bs : List ℕ) (b n : ℕ) → s ≡ b ∷ bs → s ≡ drop n whole → IsUtf8 (value ++ s) → (b == quote) ≡ true → (p : List ℕ × ℕ) → Some (value, n + 1) ≡ Some p → IsClosed whole p
  closing value s bs b n is left u e p h =
      let low : b < 128 = subst (λ x. x < 128) (sym (eqb-true b quote e)) small in
      subst (IsClosed whole) (same_pair (value, n + 1) p h) (record { value = value_utf8 value s bs b is low u; rest = closed_utf8 value s bs whole b n is low left u })

  text-closed : (value : List ℕ) (n : ℕ) (s : List ℕ) → s ≡ drop n whole → IsUtf8 (value ++ s) → (p : List ℕ × ℕ) → text_from quote value n s ≡ Some p → IsClosed whole p
  text-closed value n [] left u p h = absurd cc
  text-closed value n (b ∷ []) left u p h = elim (b == quote) as (λ d. (b == quote) ≡ d → cond d (Some (value, n + 1)) None ≡ Some p → IsClosed whole p) [
    | true ↦ λ e g. closing value (b ∷ []) [] b n refl left u e p g
    | false ↦ λ e g. absurd cc
  ] refl h
  text-closed value n (b ∷ c ∷ bs) left u p h =
      let escaped = option_and_then (λ x. text_from quote (value ++ x ∷ []) (n + 2) bs) (meant_by (escapes quote) c) in
      let raw = cond (is_raw quote b) (text_from quote (value ++ b ∷ []) (n + 1) (c ∷ bs)) None in
      elim (b == quote) as (λ d. (b == quote) ≡ d → cond d (Some (value, n + 1)) (cond (b == 92) escaped raw) ≡ Some p → IsClosed whole p) [
        | true ↦ λ e g. closing value (b ∷ c ∷ bs) (c ∷ bs) b n refl left u e p g
        | false ↦ λ e g. elim (b == 92) as (λ d. (b == 92) ≡ d → cond d escaped raw ≡ Some p → IsClosed whole p) [
          | true ↦ λ slash k. elim (meant_by (escapes quote) c) as (λ o. meant_by (escapes quote) c ≡ o → option_and_then (λ x. text_from quote (value ++ x ∷ []) (n + 2) bs) o ≡ Some p → IsClosed whole p) [
            | None ↦ λ m l. absurd cc
            | Some x ↦ λ m l.
                let low = meant_ascii (escapes quote) c x table m in
                text-closed (value ++ x ∷ []) (n + 2) bs (drop_two (b ∷ c ∷ bs) (c ∷ bs) bs whole b c n refl refl left)
                (escape_utf8 value (b ∷ c ∷ bs) (c ∷ bs) bs b c x refl refl (eqb-true b 92 slash) low.0 low.1 u) p l
          ] refl k
          | false ↦ λ slash k. elim (is_raw quote b) as (λ d. cond d (text_from quote (value ++ b ∷ []) (n + 1) (c ∷ bs)) None ≡ Some p → IsClosed whole p) [
            | true ↦ λ l. text-closed (value ++ b ∷ []) (n + 1) (c ∷ bs) (sym (drop_more (b ∷ c ∷ bs) (c ∷ bs) whole b n refl left)) (raw_utf8 value (b ∷ c ∷ bs) (c ∷ bs) b refl u) p l
            | false ↦ λ l. absurd cc
          ] k
        ] refl g
      ] refl h

drop-behind : (b : ℕ) (bs : List ℕ) (n : ℕ) → IsUtf8 (drop n bs) → IsUtf8 (drop (n + 1) (b ∷ bs))
drop-behind b bs n u = let same : n + 1 ≡ suc n = omega arith in subst (λ k. IsUtf8 (drop k (b ∷ bs))) (sym same) u

quoted-first : (b : ℕ) (bs : List ℕ) → is_quote b ≡ true → IsUtf8 (b ∷ bs) → IsGoodFirst (b ∷ bs) (quoted_prefix b (b ∷ bs) bs)
quoted-first b bs is u =
    let low = quote_ascii b is in
    elim (text_from b [] 0 bs) as (λ o. text_from b [] 0 bs ≡ o → IsGoodFirst (b ∷ bs) (or_all (b ∷ bs) (option_map (λ p. (t.Quoted p.0, p.1 + 1)) o))) [
      | None ↦ λ e. all-bad b bs
      | Some p ↦ λ e. let c = text-closed b low (escapes_ascii b is) bs [] 0 bs refl (behind_ascii b bs low u) p e in record { good = c.value; rest = drop-behind b bs p.1 c.rest; some = omega arith }
    ] refl

-- MARKS

abbrev IsMark : ℕ → Option Token → Type 0
IsMark b None = Unit {0}
IsMark b (Some x) = (b < 128) × HasUtf8 x

abbrev IsMarkOfTwo : ℕ → ℕ → Option Token → Type 0
IsMarkOfTwo a b None = Unit {0}
IsMarkOfTwo a b (Some x) = (a < 128) × (b < 128) × HasUtf8 x

or-mark : (b k : ℕ) (x : Token) (o : Option Token) → k < 128 → HasUtf8 x → IsMark b o → IsMark b (cond (b == k) (Some x) o)
or-mark b k x o low u g = elim (b == k) as (λ d. (b == k) ≡ d → IsMark b (cond d (Some x) o)) [ true ↦ λ e. (subst (λ y. y < 128) (sym (eqb-true b k e)) low, u) | false ↦ λ e. g ] refl

or-two : (a b k l : ℕ) (x : Token) (o : Option Token) → k < 128 → l < 128 → HasUtf8 x → IsMarkOfTwo a b o → IsMarkOfTwo a b (cond ((a == k) && (b == l)) (Some x) o)
or-two a b k l x o low high u g = elim ((a == k) && (b == l)) as (λ d. (a == k) && (b == l) ≡ d → IsMarkOfTwo a b (cond d (Some x) o)) [
  | true ↦ λ e. let f = both_true (a == k) (b == l) e in (subst (λ y. y < 128) (sym (eqb-true a k f.0)) low, subst (λ y. y < 128) (sym (eqb-true b l f.1)) high, u)
  | false ↦ λ e. g
] refl

single-is : (b : ℕ) → IsMark b (single b)
single-is b =
    or-mark b 40 t.Open _ (omega arith) tt (or-mark b 41 t.Close _ (omega arith) tt (or-mark b 44 t.Comma _ (omega arith) tt (or-mark b 46 t.Point _ (omega arith) tt
    (or-mark b 36 t.Dollar _ (omega arith) tt (or-mark b 61 t.Equal _ (omega arith) tt (or-mark b 60 t.Below _ (omega arith) tt (or-mark b 62 t.Above None (omega arith) tt tt)))))))

double-is : (a b : ℕ) → IsMarkOfTwo a b (double a b)
double-is a b =
    or-two a b 61 61 t.Equal _ (omega arith) (omega arith) tt (or-two a b 33 61 t.NotEqual _ (omega arith) (omega arith) tt (or-two a b 60 62 t.NotEqual _ (omega arith) (omega arith) tt
    (or-two a b 60 61 t.AtMost _ (omega arith) (omega arith) tt (or-two a b 62 61 t.AtLeast None (omega arith) (omega arith) tt tt))))

one-mark : (b : ℕ) (bs : List ℕ) (o : Option Token) → IsUtf8 (b ∷ bs) → IsMark b o → IsGoodFirst (b ∷ bs) (or_all (b ∷ bs) (or_shorter 1 o None))
one-mark b bs None u m = all-bad b bs
one-mark b bs (Some x) u m = record { good = m.1; rest = behind_ascii b bs m.0 u; some = omega arith }

two-mark : (a b : ℕ) (bs : List ℕ) (o : Option Token) → IsUtf8 (a ∷ b ∷ bs) → IsMarkOfTwo a b o → IsGoodFirst (a ∷ b ∷ bs) (or_all (a ∷ b ∷ bs) (or_shorter 2 o (or_shorter 1 (single a) None)))
two-mark a b bs None u m = one-mark a (b ∷ bs) (single a) u (single-is a)
two-mark a b bs (Some x) u m = record { good = m.2; rest = behind_ascii b bs m.1 (behind_ascii a (b ∷ bs) m.0 u); some = omega arith }

marks-first : (b : ℕ) (bs : List ℕ) → IsUtf8 (b ∷ bs) → IsGoodFirst (b ∷ bs) (mark_prefix (b ∷ bs))
marks-first b [] u = one-mark b [] (single b) u (single-is b)
marks-first b (c ∷ bs) u = two-mark b c bs (double b c) u (double-is b c)

-- THE TOKENS

first-good : (b : ℕ) (bs : List ℕ) → IsUtf8 (b ∷ bs) → IsGoodFirst (b ∷ bs) (first_token (b ∷ bs))
first-good b bs u = by (is_letter b) refl
  where
    s : List ℕ
    s = b ∷ bs

    by_quote : (d : Bool) → is_letter b ≡ false → is_digit b ≡ false → b ≢ 45 → is_quote b ≡ d → IsGoodFirst (b ∷ bs) (first_token (b ∷ bs))
    by_quote true letter digit other e = subst (IsGoodFirst (b ∷ bs)) (texts (b ∷ bs) bs b (quoted_prefix b (b ∷ bs) bs) refl e refl) (quoted-first b bs e u)
    by_quote false letter digit other e = subst (IsGoodFirst (b ∷ bs)) (marks (b ∷ bs) bs b (mark_prefix (b ∷ bs)) refl letter digit other e refl) (marks-first b bs u)

    by_minus : (b ≡ 45) ⊎ (b ≢ 45) → is_letter b ≡ false → is_digit b ≡ false → IsGoodFirst (b ∷ bs) (first_token (b ∷ bs))
    by_minus (inl is) letter digit =
        subst (IsGoodFirst (b ∷ bs)) (negatives (b ∷ bs) bs b (negative_prefix (b ∷ bs) bs) refl is refl)
        (subst (λ x. IsGoodFirst (x ∷ bs) (negative_prefix (x ∷ bs) bs)) (sym is) (minus-first bs (subst (λ x. IsUtf8 (x ∷ bs)) is u)))
    by_minus (inr other) letter digit = by_quote (is_quote b) letter digit other refl

    by_digit : (d : Bool) → is_letter b ≡ false → is_digit b ≡ d → IsGoodFirst (b ∷ bs) (first_token (b ∷ bs))
    by_digit true letter e = subst (IsGoodFirst (b ∷ bs)) (numbers (b ∷ bs) bs b (number_prefix (b ∷ bs)) refl letter e refl) (numbers-first b bs e u)
    by_digit false letter e = by_minus (cases_eq b 45) letter e

    by : (d : Bool) → is_letter b ≡ d → IsGoodFirst (b ∷ bs) (first_token (b ∷ bs))
    by true e = subst (IsGoodFirst (b ∷ bs)) (words (b ∷ bs) bs b (word_prefix (b ∷ bs)) refl e refl) (words-first b bs e u)
    by false e = by_digit (is_digit b) e refl

blank-ascii : (b : ℕ) → is_blank b ≡ true → b < 128
blank-ascii b h = grind (arith, nat_tests, h)

less-dropped : (b : ℕ) (bs : List ℕ) (n : ℕ) → 0 < n → drop n (b ∷ bs) ≡ drop (n - 1) bs
less-dropped b bs zero some = absurd (omega arith)
less-dropped b bs (suc n) some = let same : suc n - 1 ≡ n = omega arith in ap (λ k. drop k bs) (sym same)

tokens-utf8 : (place inside : ℕ) (s : List ℕ) → IsUtf8 (drop inside s) → HaveUtf8 (tokens_from place inside s)
tokens-utf8 place inside [] u = (tt, tt)
tokens-utf8 place (suc inside) (b ∷ bs) u = tokens-utf8 (place + 1) inside bs u
tokens-utf8 place zero (b ∷ bs) u =
    let found = first_token (b ∷ bs) in
    elim (is_blank b) as (λ d. is_blank b ≡ d → HaveUtf8 (cond d (tokens_from (place + 1) 0 bs) (placed_before place found.0 (drop found.1 (b ∷ bs)) ∷ tokens_from (place + 1) (found.1 - 1) bs))) [
      | true ↦ λ e. tokens-utf8 (place + 1) 0 bs (behind_ascii b bs (blank-ascii b e) u)
      | false ↦ λ e. let f = first-good b bs u in (f.good, tokens-utf8 (place + 1) (found.1 - 1) bs (subst IsUtf8 (less-dropped b bs found.1 f.some) f.rest))
    ] refl

pub text-utf8 : (text : List ℕ) → IsUtf8 text → HaveUtf8 (tokens_of text)
text-utf8 text u = tokens-utf8 0 0 text u

pub part-utf8 : (x : Placed) (n : List ℕ) → HasUtf8 x.token → part x ≡ Some n → IsUtf8 n
part-utf8 x n u h = by (part_is x n h)
  where
    by : Is (t.Name n) x ⊎ Is (t.Quoted n) x → IsUtf8 n
    by (inl e) = subst HasUtf8 e u
    by (inr e) = subst HasUtf8 e u
