-- What is decoded with U+FFFD for malformed bytes is UTF-8.
use Rattle.std.proofs.Common.{◌≡◌, ◌++◌, ℕ, zero, suc, ◌+◌, ◌<◌, ◌≤◌, List, [], ◌∷◌, Bool, true, false, cond, ◌==◌, nat_lt, Option, Some, None, unwrap_or, length, take, drop, IsUtf8, refl, subst, arith}
use Rattle.std.proofs.Math.Utf8.{encode}
use Rattle.std.proofs.lemmas.Bool.{eqb-false, eqb-true}
use Rattle.std.proofs.lemmas.List.{length-drop, take_all}
use Rattle.std.proofs.lemmas.Str.{IsUtf8-append, IsUtf8-from_is_utf8, IsUtf8-nil, utf8_valid_len_le}
use Rattle.std.specs.Int.{is_in_range}
use Rattle.std.specs.Prelude.{slice_index}
use Rattle.std.specs.Str.{is_utf8}
use Rattle.std.specs.Str.Lossy.{after_first_chunk, error_len_after_one, error_len_after_two, error_len_of_some, replacement_bytes, second_byte_max, second_byte_min, utf8_error_len, utf8_invalid_len, utf8_lossy, utf8_lossy_within, utf8_valid_len, valid_len_up_to}

-- WHAT IS LEFT IS SHORTER

either : (P : Option ℕ → Type 0) (b : Bool) (x y : Option ℕ) → P x → P y → P (cond b x y)
either P true x y f g = f
either P false x y f g = g

-- a malformed sequence has a byte
invalid-some : (bs : List ℕ) → 0 < length bs → 0 < utf8_invalid_len bs
unfolding utf8_error_len
invalid-some bs some =
    let P : Option ℕ → Type 0 = λ o. 0 < unwrap_or o (length bs) in
    let one : P (Some 1) = omega arith in
    let two : P (Some 2) = omega arith in
    let three : P (Some 3) = omega arith in
    let x = slice_index bs 0 in
    let third = is_in_range 0x80 0xBF (slice_index bs 2) in
    let after_three = either P (nat_lt (length bs) 4) None (Some 3) some three in
    let after_two : P (error_len_after_two bs) =
    either P (nat_lt (length bs) 3) None (cond third (cond (nat_lt (length bs) 4) None (Some 3)) (Some 2)) some
    (either P third (cond (nat_lt (length bs) 4) None (Some 3)) (Some 2) after_three two) in
    let second = is_in_range (second_byte_min x) (second_byte_max x) (slice_index bs 1) in
    let after_one : P (error_len_after_one bs) =
    either P (nat_lt (length bs) 2) None (cond second (error_len_after_two bs) (Some 1)) some
    (either P second (error_len_after_two bs) (Some 1) after_two one) in
    either P (length bs == 0) None (error_len_of_some bs) some (either P (is_in_range 0xC2 0xF4 x) (error_len_after_one bs) (Some 1) after_one one)

left-shorter : (bs : List ℕ) → (utf8_valid_len bs ≡ length bs → ⊥) → length (after_first_chunk bs) < length bs
left-shorter bs faulty =
    let n = utf8_valid_len bs in
    let within = utf8_valid_len_le bs in
    let long = length-drop n bs in
    let invalid = invalid-some (drop n bs) (omega arith) in
    let left = length-drop (n + utf8_invalid_len (drop n bs)) bs in
    omega arith

-- EACH PART IS UTF-8

up-to-utf8 : (bs : List ℕ) (n : ℕ) → IsUtf8 (take (valid_len_up_to bs n) bs)
up-to-utf8 bs zero = IsUtf8-nil
up-to-utf8 bs (suc n) = elim (is_utf8 (take (suc n) bs)) as (λ b. is_utf8 (take (suc n) bs) ≡ b → IsUtf8 (take (cond b (suc n) (valid_len_up_to bs n)) bs)) [
  | true ↦ λ e. IsUtf8-from_is_utf8 (take (suc n) bs) e
  | false ↦ λ e. up-to-utf8 bs n
] refl

front-utf8 : (bs : List ℕ) → IsUtf8 (take (utf8_valid_len bs) bs)
unfolding utf8_valid_len
front-utf8 bs = up-to-utf8 bs (length bs)

replacement-utf8 : IsUtf8 replacement_bytes
unfolding encode
replacement-utf8 = (0xFFFD ∷ [], (refl, refl))

whole-utf8 : (bs : List ℕ) → utf8_valid_len bs ≡ length bs → IsUtf8 bs
whole-utf8 bs e = subst IsUtf8 (take_all (utf8_valid_len bs) bs (omega arith)) (front-utf8 bs)

within-utf8 : (k : ℕ) (bs : List ℕ) → length bs ≤ k → IsUtf8 (utf8_lossy_within k bs)
within-utf8 zero [] le = IsUtf8-nil
within-utf8 zero (b ∷ bs) le = absurd (omega arith)
within-utf8 (suc k) bs le = elim (utf8_valid_len bs == length bs) as (λ b. (utf8_valid_len bs == length bs) ≡ b → IsUtf8 (cond b bs (take (utf8_valid_len bs) bs ++ (replacement_bytes ++ utf8_lossy_within k (after_first_chunk bs))))) [
  | true ↦ λ e. whole-utf8 bs (eqb-true (utf8_valid_len bs) (length bs) e)
  | false ↦ λ e.
      let less = left-shorter bs (eqb-false (utf8_valid_len bs) (length bs) e) in
      IsUtf8-append (take (utf8_valid_len bs) bs) (replacement_bytes ++ utf8_lossy_within k (after_first_chunk bs)) (front-utf8 bs)
      (IsUtf8-append replacement_bytes (utf8_lossy_within k (after_first_chunk bs)) replacement-utf8 (within-utf8 k (after_first_chunk bs) (omega arith)))
] refl

pub lossy-utf8 : (bs : List ℕ) → IsUtf8 (utf8_lossy bs)
unfolding utf8_lossy
lossy-utf8 bs = within-utf8 (length bs) bs (omega arith)
