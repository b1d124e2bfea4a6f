-- A text is split at its first space, and a number is read from its digits.
use Rattle.std.proofs.Common.{◌≡◌, ℕ, zero, suc, ◌<◌, ◌≤◌, ◌^◌, List, [], ◌∷◌, ◌++◌, length, true, false, cond, ◌&&◌, ◌||◌, ◌==◌, nat_lt, nat_le, Option, Some, None, refl, sym, ap, ◌∙◌, subst, arith, ◌↔◌}
use Rattle.std.proofs.lemmas.Bool.{and_from, and_parts, eqb-true, le-leb, leb-true, lt-ltb, ltb-true, or_from}
use Rattle.std.proofs.lemmas.Fmt.{decimal-digits_value, decimal_is_IsNumeral, digits_decimal, digits_value-decimal}
use Rattle.std.proofs.lemmas.Str.Parse.{IsDigitsTest, IsNumeralModel, digits_value_short, numerals_by_fold}
use Rattle.std.specs.Fmt.{decimal}
use Rattle.std.specs.List.{list_all}
use Rattle.spec_server.specs.Words.{after_space, before_space, both_parts, has_byte, is_digit, number_from, number_of, argument_and_rest}
use Rattle.raven_laws.specs.Words.{IsNumber, IsSplit, zeros}

-- THE FIRST SPACE

at_space : (text rest : List ℕ) → after_space text ≡ Some rest → text ≡ before_space text ++ 32 ∷ rest
at_space [] rest h = absurd cc
at_space (b ∷ bs) rest h = elim (b == 32) as (λ t. b == 32 ≡ t → cond t (Some bs) (after_space bs) ≡ Some rest → b ∷ bs ≡ cond t [] (b ∷ before_space bs) ++ 32 ∷ rest) [
  | true ↦ λ e f. let same : bs ≡ rest = cc in ap (λ x. x ∷ bs) (eqb-true b 32 e) ∙ ap (λ xs. 32 ∷ xs) same
  | false ↦ λ e f. ap (λ xs. b ∷ xs) (at_space bs rest f)
] refl h

no_space : (text : List ℕ) → has_byte 32 (before_space text) ≡ false
no_space [] = refl
no_space (b ∷ bs) = elim (b == 32) as (λ t. b == 32 ≡ t → has_byte 32 (cond t [] (b ∷ before_space bs)) ≡ false) [
  | true ↦ λ e. refl
  | false ↦ λ e. or_from (b == 32) (has_byte 32 (before_space bs)) e (no_space bs)
] refl

both-Some : (word : List ℕ) (found : Option (List ℕ)) (w r : List ℕ) → both_parts word found ≡ Some (w, r) → (word ≡ w) × (found ≡ Some r) × (0 < length w) × (0 < length r)
both-Some [] found w r h = absurd cc
both-Some (b ∷ bs) None w r h = absurd cc
both-Some (b ∷ bs) (Some []) w r h = absurd cc
both-Some (b ∷ bs) (Some (c ∷ cs)) w r h =
    let same : (let x : List ℕ × List ℕ = (b ∷ bs, c ∷ cs) in x) ≡ (w, r) = cc in
    let word : b ∷ bs ≡ w = ap (λ (x : List ℕ × List ℕ). x.0) same in
    let rest : c ∷ cs ≡ r = ap (λ (x : List ℕ × List ℕ). x.1) same in
    (word, ap Some rest, subst (λ xs. 0 < length xs) word (omega arith), subst (λ xs. 0 < length xs) rest (omega arith))

split-from : (text w r : List ℕ) → argument_and_rest text ≡ Some (w, r) → IsSplit text w r
split-from text w r h =
    let b = both-Some (before_space text) (after_space text) w r h in
    record {
      parts = at_space text r b.1 ∙ ap (λ xs. xs ++ 32 ∷ r) b.0;
      spaceless = subst (λ xs. has_byte 32 xs ≡ false) b.0 (no_space text);
      word_has_bytes = b.2;
      rest_has_bytes = b.3;
    }

before-append : (w r : List ℕ) → has_byte 32 w ≡ false → before_space (w ++ 32 ∷ r) ≡ w
before-append [] r h = refl
before-append (b ∷ bs) r h = elim (b == 32) as (λ t. t || has_byte 32 bs ≡ false → cond t [] (b ∷ before_space (bs ++ 32 ∷ r)) ≡ b ∷ bs) [
  | true ↦ λ e. absurd cc
  | false ↦ λ e. ap (λ xs. b ∷ xs) (before-append bs r e)
] h

after-append : (w r : List ℕ) → has_byte 32 w ≡ false → after_space (w ++ 32 ∷ r) ≡ Some r
after-append [] r h = refl
after-append (b ∷ bs) r h = elim (b == 32) as (λ t. t || has_byte 32 bs ≡ false → cond t (Some (bs ++ 32 ∷ r)) (after_space (bs ++ 32 ∷ r)) ≡ Some r) [
  | true ↦ λ e. absurd cc
  | false ↦ λ e. after-append bs r e
] h

both-of : (w r : List ℕ) → 0 < length w → 0 < length r → both_parts w (Some r) ≡ Some (w, r)
both-of [] r h g = absurd (omega arith)
both-of (b ∷ bs) [] h g = absurd (omega arith)
both-of (b ∷ bs) (c ∷ cs) h g = refl

split-to : (text w r : List ℕ) → IsSplit text w r → argument_and_rest text ≡ Some (w, r)
split-to text w r s =
    ap argument_and_rest s.parts
    ∙ ap (λ x. both_parts x (after_space (w ++ 32 ∷ r))) (before-append w r s.spaceless)
    ∙ ap (both_parts w) (after-append w r s.spaceless)
    ∙ both-of w r s.word_has_bytes s.rest_has_bytes

pub word-split : (text w r : List ℕ) → (argument_and_rest text ≡ Some (w, r)) ↔ IsSplit text w r
word-split text w r = (split-from text w r, split-to text w r)

-- NUMBERS

abbrev AreDigits : List ℕ → Type 0
AreDigits ds = list_all is_digit ds ≡ true

digits-test : IsDigitsTest AreDigits
digits-test = record {
  empty = refl;
  parts = λ c cs e. let k = and_parts (is_digit c) (list_all is_digit cs) e in let m = and_parts (nat_le 48 c) (nat_le c 57) k.0 in ((leb-true 48 c m.0, leb-true c 57 m.1), k.1);
  more = λ c cs k e. and_from (is_digit c) (list_all is_digit cs) (and_from (nat_le 48 c) (nat_le c 57) (le-leb 48 c k.0) (le-leb c 57 k.1)) e;
}

numerals : IsNumeralModel AreDigits (number_from 0)
numerals = numerals_by_fold AreDigits digits-test number_from (record { empty = λ n. refl; more = λ n c cs k. refl })

-- digits are the number that they write, with zeros before it
with_zeros : (ds : List ℕ) → AreDigits ds → 0 < length ds → length ds ≤ 16 → (k : ℕ) × (ds ≡ zeros k ++ decimal (number_from 0 ds))
with_zeros [] d some short = absurd (omega arith)
with_zeros (c ∷ []) d some short =
    (0, sym (decimal-digits_value numerals (c ∷ []) d some (λ _. refl) (let small = digits_value_short numerals (c ∷ []) 16 d short in omega arith)))
with_zeros (c ∷ e ∷ cs) d some short = elim (c == 48) as (λ t. c == 48 ≡ t → (k : ℕ) × (c ∷ e ∷ cs ≡ zeros k ++ decimal (number_from 0 (c ∷ e ∷ cs)))) [
  | true ↦ λ f.
      let is = eqb-true c 48 f in
      let rest = with_zeros (e ∷ cs) (and_parts (is_digit c) (list_all is_digit (e ∷ cs)) d).1 (omega arith) (omega arith) in
      (suc rest.0, subst (λ x. x ∷ e ∷ cs ≡ 48 ∷ zeros rest.0 ++ decimal (number_from 0 (x ∷ e ∷ cs))) (sym is) (ap (λ xs. 48 ∷ xs) rest.1))
  | false ↦ λ f. (
    0,
    sym (decimal-digits_value numerals (c ∷ e ∷ cs) d some (λ is. absurd (not_zero is f))
        (let small = digits_value_short numerals (c ∷ e ∷ cs) 16 d short in omega arith)),
  )
] refl
  where
    not_zero : c ≡ 48 → c == 48 ≡ false → ⊥
    not_zero is f = let g : c == 48 ≡ true = subst (λ x. x == 48 ≡ true) (sym is) refl in cc

number-from : (text : List ℕ) (n : ℕ) → number_of text ≡ Some n → IsNumber text n
number-from text n h =
    elim (nat_lt 0 (length text) && nat_le (length text) 16 && list_all is_digit text) as (λ t. nat_lt 0 (length text) && nat_le (length text) 16 && list_all is_digit text ≡ t
    → cond t (Some (number_from 0 text)) None ≡ Some n → IsNumber text n) [
      | true ↦ λ e f.
          let all = and_parts (nat_lt 0 (length text) && nat_le (length text) 16) (list_all is_digit text) e in
          let size = and_parts (nat_lt 0 (length text)) (nat_le (length text) 16) all.0 in
          let short = leb-true (length text) 16 size.1 in
          let is : number_from 0 text ≡ n = cc in
          let z = with_zeros text all.1 (ltb-true 0 (length text) size.0) short in
          record {
            leading = z.0;
            digits = subst (λ m. text ≡ zeros z.0 ++ decimal m) is z.1;
            short = short;
            below = subst (λ m. m < 10 ^ 16) is (digits_value_short numerals text 16 all.1 short);
          }
      | false ↦ λ e f. absurd cc
    ] refl h

zeros-digits : (k : ℕ) (ds : List ℕ) → AreDigits ds → AreDigits (zeros k ++ ds)
zeros-digits zero ds h = h
zeros-digits (suc k) ds h = zeros-digits k ds h

zeros-value : (k : ℕ) (ds : List ℕ) → number_from 0 (zeros k ++ ds) ≡ number_from 0 ds
zeros-value zero ds = refl
zeros-value (suc k) ds = zeros-value k ds

zeros-some : (k : ℕ) (ds : List ℕ) → 0 < length ds → 0 < length (zeros k ++ ds)
zeros-some zero ds h = h
zeros-some (suc k) ds h = omega arith

number-to : (text : List ℕ) (n : ℕ) → IsNumber text n → number_of text ≡ Some n
number-to text n s =
    let small : n < 2 ^ 64 = let a = s.below in omega arith in
    let ds = decimal n in
    let all : AreDigits text = subst AreDigits (sym s.digits) (zeros-digits s.leading ds (digits_decimal numerals n small)) in
    let some : 0 < length text = subst (λ xs. 0 < length xs) (sym s.digits) (zeros-some s.leading ds (decimal_is_IsNumeral n small).0.0) in
    let passed = and_from (nat_lt 0 (length text) && nat_le (length text) 16) (list_all is_digit text)
    (and_from (nat_lt 0 (length text)) (nat_le (length text) 16) (lt-ltb 0 (length text) some) (le-leb (length text) 16 s.short)) all in
    ap (λ t. cond t (Some (number_from 0 text)) None) passed
    ∙ ap Some (ap (number_from 0) s.digits ∙ zeros-value s.leading ds ∙ digits_value-decimal numerals n small)

pub number-read : (text : List ℕ) (n : ℕ) → (number_of text ≡ Some n) ↔ IsNumber text n
number-read text n = (number-from text n, number-to text n)
