-- The texts of a JSON text are UTF-8, if it is.
use Rattle.std.proofs.Common.{◌≡◌, ℕ, zero, suc, ◌+◌, ◌*◌, ◌/◌, ◌%◌, ◌<◌, ◌≤◌, List, [], ◌∷◌, ◌++◌, true, false, cond, ◌&&◌, ◌==◌, nat_lt, length, Option, Some, None, option_and_then, IsUtf8, refl, sym, ap, ◌∙◌, subst, arith}
use Rattle.std.proofs.Math.Utf8.{encode, encodes, scalar, scalars, low_scalar}
use Rattle.std.proofs.lemmas.Bool.{ltb-false, ltb-true, eqb-true, ne_eqb}
use Rattle.std.proofs.lemmas.Bool.Decides.{nat_tests}
use Rattle.std.proofs.lemmas.List.{length-append}
use Rattle.std.proofs.lemmas.Str.{IsUtf8-append, IsUtf8-encode, IsUtf8-nil, IsUtf8-past_char, encode_ascii, length-encode, len_utf8_bounds}
use Rattle.std.specs.Char.{IsScalar, is_digit, digit_value}
use Rattle.json.specs.Text.{Within, plain, after_backslash, after_u, after_high, content, prepend, code_unit, short_escape, is_high_surrogate, is_low_surrogate, surrogate_pair}
use Rattle.raven_json.proofs.Bools.{both_true}

-- BYTES OF ONE CHARACTER

pub utf8-past : (b : ℕ) (bs : List ℕ) → b < 128 → IsUtf8 (b ∷ bs) → IsUtf8 bs
utf8-past b bs low u = IsUtf8-past_char (b ∷ bs) bs b u (ap (λ xs. xs ++ bs) (sym (encode_ascii b low)))

pub utf8-one : (b : ℕ) → b < 128 → IsUtf8 (b ∷ [])
utf8-one b low = subst IsUtf8 (encode_ascii b low) (IsUtf8-encode b (low_scalar b (omega arith)))

-- no byte is ASCII
abbrev pub AreHigh : List ℕ → Type 0
AreHigh [] = Unit {0}
AreHigh (b ∷ bs) = (128 ≤ b) × AreHigh bs

pub encode-high : (c : ℕ) → 128 ≤ c → AreHigh (encode c)
unfolding encode
encode-high c high =
    let last : ℕ → ℕ = λ bits. 128 + bits % 64 in
    elim (nat_lt c 128) as (λ t. nat_lt c 128 ≡ t → AreHigh (cond t (c ∷ [])
    (cond (nat_lt c 2048) ((192 + c / 64) ∷ last c ∷ [])
    (cond (nat_lt c 65536) ((224 + c / 4096) ∷ last (c / 64) ∷ last c ∷ []) ((240 + c / 262144) ∷ last (c / 4096) ∷ last (c / 64) ∷ last c ∷ []))))) [
      | true ↦ λ e. absurd (let low = ltb-true c 128 e in omega arith)
      | false ↦ λ e. elim (nat_lt c 2048) as (λ t. AreHigh (cond t ((192 + c / 64) ∷ last c ∷ [])
          (cond (nat_lt c 65536) ((224 + c / 4096) ∷ last (c / 64) ∷ last c ∷ []) ((240 + c / 262144) ∷ last (c / 4096) ∷ last (c / 64) ∷ last c ∷ [])))) [
            | true ↦ (omega arith, (omega arith, tt))
            | false ↦ elim (nat_lt c 65536) as (λ t. AreHigh (cond t ((224 + c / 4096) ∷ last (c / 64) ∷ last c ∷ []) ((240 + c / 262144) ∷ last (c / 4096) ∷ last (c / 64) ∷ last c ∷ []))) [
              | true ↦ (omega arith, (omega arith, (omega arith, tt)))
              | false ↦ (omega arith, (omega arith, (omega arith, (omega arith, tt))))
            ]
          ]
    ] refl

-- WHAT A TEXT HOLDS

same_text : (a b : List ℕ) → Some a ≡ Some b → a ≡ b
same_text a b h = cc

prepended : (bs s : List ℕ) (o : Option (List ℕ)) → ((t : List ℕ) → o ≡ Some t → IsUtf8 t) → IsUtf8 bs → prepend bs o ≡ Some s → IsUtf8 s
prepended bs s None more u h = absurd cc
prepended bs s (Some t) more u h = subst IsUtf8 (same_text (bs ++ t) s h) (IsUtf8-append bs t u (more t refl))

prepend-none : (o : Option (List ℕ)) → o ≡ prepend [] o
prepend-none None = refl
prepend-none (Some t) = refl

prepend-more : (b : ℕ) (bs : List ℕ) (o : Option (List ℕ)) → prepend (b ∷ []) (prepend bs o) ≡ prepend (b ∷ bs) o
prepend-more b bs None = refl
prepend-more b bs (Some t) = refl

-- bytes that are not ASCII stand for themselves
content-high : (bs xs : List ℕ) → AreHigh bs → content plain (bs ++ xs) ≡ prepend bs (content plain xs)
unfolding content
content-high [] xs h = prepend-none (content plain xs)
content-high (b ∷ bs) xs h =
    let high = h.0 in
    let no_quote : (b == 34) ≡ false = ne_eqb b 34 (λ e. omega arith) in
    let no_slash : (b == 92) ≡ false = ne_eqb b 92 (λ e. omega arith) in
    let no_control : nat_lt b 32 ≡ false = grind (arith, nat_tests, high) in
    rw (no_quote, no_slash, no_control) (ap (prepend (b ∷ [])) (content-high bs xs h.1) ∙ prepend-more b bs (content plain xs))

short-low : (x c : ℕ) → short_escape x ≡ Some c → (x < 128) × (c < 128)
unfolding short_escape
short-low x c h = (grind (arith, nat_tests, h), grind (arith, nat_tests, h))

hex-low : (a : ℕ) → is_digit a 16 ≡ true → (a < 128) × (digit_value a < 16)
hex-low a h = (grind (arith, nat_tests, h), ltb-true (digit_value a) 16 h)

-- four hex digits are ASCII, and spell a number of 16 bits
record IsUnit (a b c d u : ℕ) : Type 0 where
  pub first : a < 128
  pub second : b < 128
  pub third : c < 128
  pub fourth : d < 128
  pub small : u < 65536

same_number : (a b : ℕ) → Some a ≡ Some b → a ≡ b
same_number a b h = cc

code_unit-is : (a b c d u : ℕ) → code_unit a b c d ≡ Some u → IsUnit a b c d u
unfolding code_unit
code_unit-is a b c d u h =
    elim (is_digit a 16 && is_digit b 16 && is_digit c 16 && is_digit d 16) as (λ t. is_digit a 16 && is_digit b 16 && is_digit c 16 && is_digit d 16 ≡ t
    → cond t (Some (digit_value a * 4096 + digit_value b * 256 + digit_value c * 16 + digit_value d)) None ≡ Some u → IsUnit a b c d u) [
      | true ↦ λ e g.
          let abc = both_true (is_digit a 16 && is_digit b 16 && is_digit c 16) (is_digit d 16) e in
          let ab = both_true (is_digit a 16 && is_digit b 16) (is_digit c 16) abc.0 in
          let one = both_true (is_digit a 16) (is_digit b 16) ab.0 in
          let p = hex-low a one.0 in
          let q = hex-low b one.1 in
          let r = hex-low c ab.1 in
          let s = hex-low d abc.1 in
          let is = same_number (digit_value a * 4096 + digit_value b * 256 + digit_value c * 16 + digit_value d) u g in
          record { first = p.0; second = q.0; third = r.0; fourth = s.0; small = let k = p.1 in let l = q.1 in let m = r.1 in let n = s.1 in omega arith }
      | false ↦ λ e g. absurd cc
    ] refl h

unit-scalar : (u : ℕ) → u < 65536 → is_high_surrogate u ≡ false → is_low_surrogate u ≡ false → IsScalar u
unit-scalar u small high low = grind (arith, nat_tests, small, high, low)

pair-scalar : (h l : ℕ) → is_high_surrogate h ≡ true → is_low_surrogate l ≡ true → IsScalar (surrogate_pair h l)
pair-scalar h l high low = grind (arith, nat_tests, high, low)

-- if a surrogate waits for its other half, it is one
abbrev IsWaiting : Within → Type 0
IsWaiting plain = Unit {0}
IsWaiting after_backslash = Unit {0}
IsWaiting after_u = Unit {0}
IsWaiting (after_high h) = is_high_surrogate h ≡ true

abbrev Holds : ℕ → Type 0
Holds n = (w : Within) (xs s : List ℕ) → length xs ≤ n → IsWaiting w → IsUtf8 xs → content w xs ≡ Some s → IsUtf8 s

ascii-plain : (n : ℕ) (x : ℕ) (xs s : List ℕ) → Holds n → x < 128 → length xs ≤ n → IsUtf8 (x ∷ xs) → content plain (x ∷ xs) ≡ Some s → IsUtf8 s
unfolding content
ascii-plain n x xs s more low le u h =
    let rest = utf8-past x xs low u in
    elim (x == 34) as (λ t. cond t (Some []) (cond (x == 92) (content after_backslash xs) (cond (nat_lt x 32) None (prepend (x ∷ []) (content plain xs)))) ≡ Some s → IsUtf8 s) [
      | true ↦ λ g. subst IsUtf8 (same_text [] s g) IsUtf8-nil
      | false ↦ λ g. elim (x == 92) as (λ t. cond t (content after_backslash xs) (cond (nat_lt x 32) None (prepend (x ∷ []) (content plain xs))) ≡ Some s → IsUtf8 s) [
        | true ↦ λ f. more after_backslash xs s le tt rest f
        | false ↦ λ f. elim (nat_lt x 32) as (λ t. cond t None (prepend (x ∷ []) (content plain xs)) ≡ Some s → IsUtf8 s) [
          | true ↦ λ k. absurd cc
          | false ↦ λ k. prepended (x ∷ []) s (content plain xs) (λ t e. more plain xs t le tt rest e) (utf8-one x low) k
        ] f
      ] g
    ] h

content-none : (w : Within) (s : List ℕ) → content w [] ≡ Some s → ⊥
unfolding content
content-none plain s h = cc
content-none after_backslash s h = cc
content-none after_u s h = cc
content-none (after_high h) s g = cc

plain-utf8 : (n : ℕ) (xs s : List ℕ) → Holds n → length xs ≤ suc n → IsUtf8 xs → content plain xs ≡ Some s → IsUtf8 s
plain-utf8 n xs s more le u h = by u.0 u.1.0 u.1.1
  where
    by : (cs : List ℕ) → scalars cs ≡ true → encodes cs ≡ xs → IsUtf8 s
    by [] ok e = absurd (content-none plain s (subst (λ ys. content plain ys ≡ Some s) (sym e) h))
    by (c ∷ cs) ok e =
        let each = both_true (scalar c) (scalars cs) ok in
        let long : length xs ≡ length (encode c) + length (encodes cs) = ap length (sym e) ∙ length-append (encode c) (encodes cs) in
        let some = len_utf8_bounds c in
        let wide = length-encode c in
        elim (nat_lt c 128) as (λ t. nat_lt c 128 ≡ t → IsUtf8 s) [
          | true ↦ λ low.
              let is : c ∷ encodes cs ≡ xs = ap (λ ys. ys ++ encodes cs) (sym (encode_ascii c (ltb-true c 128 low))) ∙ e in
              ascii-plain n c (encodes cs) s more (ltb-true c 128 low) (let a = some.0 in omega arith) (subst IsUtf8 (sym is) u) (subst (λ ys. content plain ys ≡ Some s) (sym is) h)
          | false ↦ λ high.
              let bytes = encode-high c (ltb-false c 128 high) in
              let at = sym (content-high (encode c) (encodes cs) bytes) ∙ ap (content plain) e ∙ h in
              prepended (encode c) s (content plain (encodes cs)) (λ t f. more plain (encodes cs) t (let a = some.0 in omega arith) tt (cs, (each.1, refl)) f) (IsUtf8-encode c each.0) at
        ] refl

backslash-utf8 : (n : ℕ) (xs s : List ℕ) → Holds n → length xs ≤ suc n → IsUtf8 xs → content after_backslash xs ≡ Some s → IsUtf8 s
unfolding content
backslash-utf8 n [] s more le u h = absurd cc
backslash-utf8 n (x ∷ xs) s more le u h =
    elim (x == 117) as (λ t. x == 117 ≡ t → cond t (content after_u xs) (option_and_then (λ c. prepend (c ∷ []) (content plain xs)) (short_escape x)) ≡ Some s → IsUtf8 s) [
      | true ↦ λ e g. more after_u xs s (omega arith) tt (utf8-past x xs (let is = eqb-true x 117 e in omega arith) u) g
      | false ↦ λ e g. elim (short_escape x) as (λ o. short_escape x ≡ o → option_and_then (λ c. prepend (c ∷ []) (content plain xs)) o ≡ Some s → IsUtf8 s) [
        | None ↦ λ f k. absurd cc
        | Some c ↦ λ f k.
            let low = short-low x c f in
            prepended (c ∷ []) s (content plain xs) (λ t a. more plain xs t (omega arith) tt (utf8-past x xs low.0 u) a) (utf8-one c low.1) k
      ] refl g
    ] refl h

four-past : (a b c d u : ℕ) (xs : List ℕ) → IsUnit a b c d u → IsUtf8 (a ∷ b ∷ c ∷ d ∷ xs) → IsUtf8 xs
four-past a b c d u xs i h = utf8-past d xs i.fourth (utf8-past c (d ∷ xs) i.third (utf8-past b (c ∷ d ∷ xs) i.second (utf8-past a (b ∷ c ∷ d ∷ xs) i.first h)))

u-utf8 : (n : ℕ) (xs s : List ℕ) → Holds n → length xs ≤ suc n → IsUtf8 xs → content after_u xs ≡ Some s → IsUtf8 s
unfolding content
u-utf8 n [] s more le u h = absurd cc
u-utf8 n (a ∷ []) s more le u h = absurd cc
u-utf8 n (a ∷ b ∷ []) s more le u h = absurd cc
u-utf8 n (a ∷ b ∷ c ∷ []) s more le u h = absurd cc
u-utf8 n (a ∷ b ∷ c ∷ d ∷ xs) s more le u h =
    elim (code_unit a b c d) as (λ o. code_unit a b c d ≡ o
    → option_and_then (λ v. cond (is_high_surrogate v) (content (after_high v) xs) (cond (is_low_surrogate v) None (prepend (encode v) (content plain xs)))) o ≡ Some s → IsUtf8 s) [
      | None ↦ λ e g. absurd cc
      | Some v ↦ λ e g.
          let i = code_unit-is a b c d v e in
          let rest = four-past a b c d v xs i u in
          elim (is_high_surrogate v) as (λ t. is_high_surrogate v ≡ t → cond t (content (after_high v) xs) (cond (is_low_surrogate v) None (prepend (encode v) (content plain xs))) ≡ Some s → IsUtf8 s) [
            | true ↦ λ high f. more (after_high v) xs s (omega arith) high rest f
            | false ↦ λ high f. elim (is_low_surrogate v) as (λ t. is_low_surrogate v ≡ t → cond t None (prepend (encode v) (content plain xs)) ≡ Some s → IsUtf8 s) [
              | true ↦ λ low k. absurd cc
              | false ↦ λ low k. prepended (encode v) s (content plain xs) (λ t r. more plain xs t (omega arith) tt rest r) (IsUtf8-encode v (unit-scalar v i.small high low)) k
            ] refl f
          ] refl g
    ] refl h

high-utf8 : (n h : ℕ) (xs s : List ℕ) → Holds n → length xs ≤ suc n → is_high_surrogate h ≡ true → IsUtf8 xs → content (after_high h) xs ≡ Some s → IsUtf8 s
unfolding content
high-utf8 n h [] s more le high u g = absurd cc
high-utf8 n h (x ∷ []) s more le high u g = absurd cc
high-utf8 n h (x ∷ y ∷ []) s more le high u g = absurd cc
high-utf8 n h (x ∷ y ∷ a ∷ []) s more le high u g = absurd cc
high-utf8 n h (x ∷ y ∷ a ∷ b ∷ []) s more le high u g = absurd cc
high-utf8 n h (x ∷ y ∷ a ∷ b ∷ c ∷ []) s more le high u g = absurd cc
high-utf8 n h (x ∷ y ∷ a ∷ b ∷ c ∷ d ∷ xs) s more le high u g =
    elim ((x == 92) && (y == 117)) as (λ t. (x == 92) && (y == 117) ≡ t
    → cond t (option_and_then (λ l. cond (is_low_surrogate l) (prepend (encode (surrogate_pair h l)) (content plain xs)) None) (code_unit a b c d)) None ≡ Some s → IsUtf8 s) [
      | true ↦ λ e f. elim (code_unit a b c d) as (λ o. code_unit a b c d ≡ o
          → option_and_then (λ l. cond (is_low_surrogate l) (prepend (encode (surrogate_pair h l)) (content plain xs)) None) o ≡ Some s → IsUtf8 s) [
            | None ↦ λ k r. absurd cc
            | Some l ↦ λ k r. elim (is_low_surrogate l) as (λ t. is_low_surrogate l ≡ t → cond t (prepend (encode (surrogate_pair h l)) (content plain xs)) None ≡ Some s → IsUtf8 s) [
              | true ↦ λ low q.
                  let both = both_true (x == 92) (y == 117) e in
                  let p = eqb-true x 92 both.0 in
                  let v = eqb-true y 117 both.1 in
                  let rest = four-past a b c d l xs (code_unit-is a b c d l k) (utf8-past y (a ∷ b ∷ c ∷ d ∷ xs) (omega arith) (utf8-past x (y ∷ a ∷ b ∷ c ∷ d ∷ xs) (omega arith) u)) in
                  prepended (encode (surrogate_pair h l)) s (content plain xs) (λ t m. more plain xs t (omega arith) tt rest m) (IsUtf8-encode (surrogate_pair h l) (pair-scalar h l high low)) q
              | false ↦ λ low q. absurd cc
            ] refl r
          ] refl f
      | false ↦ λ e f. absurd cc
    ] refl g

content-holds : (n : ℕ) → Holds n
content-holds zero w [] s le wait u h = absurd (content-none w s h)
content-holds zero w (x ∷ xs) s le wait u h = absurd (omega arith)
content-holds (suc n) plain xs s le wait u h = plain-utf8 n xs s (content-holds n) le u h
content-holds (suc n) after_backslash xs s le wait u h = backslash-utf8 n xs s (content-holds n) le u h
content-holds (suc n) after_u xs s le wait u h = u-utf8 n xs s (content-holds n) le u h
content-holds (suc n) (after_high h) xs s le wait u g = high-utf8 n h xs s (content-holds n) le wait u g

-- the content of a text is UTF-8, if what follows its quote is
pub content-utf8 : (xs s : List ℕ) → IsUtf8 xs → content plain xs ≡ Some s → IsUtf8 s
content-utf8 xs s u h = content-holds (length xs) plain xs s (omega arith) tt u h
