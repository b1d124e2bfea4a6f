-- Reading a text in quotes.
use Rattle.std.proofs.Common.{◌≡◌, ◌<◌, ◌+◌, ℕ, suc, zero, List, [], ◌∷◌, ◌++◌, length, take, drop, get_or, IsUtf8, arith, refl, subst, sym, add-one, append_assoc, Some, None, Bool, true, false, ap, ◌∙◌, ne_eqb, lt-ltb, ◌≢◌}
use Rattle.std.proofs.lemmas.Bool.{eq-eqb, and_parts}
use Rattle.std.proofs.lemmas.Grind.{common_steps}
use Rattle.std.proofs.lemmas.Str.{encode_ascii, IsUtf8-encode, IsUtf8-append, IsUtf8-take, IsUtf8-drop, IsCharBoundary-after_ascii, IsCharBoundary-before_ascii}
use Rattle.std.specs.Prelude.{◌==◌, ◌&&◌, nat_lt, if◌then◌else◌, option_and_then}
use Rattle.exact_tokens.specs.Texts.{is_raw, meant_by, are_ascii}
use Rattle.exact_tokens.specs.Passes.{text_from}
use Rattle.exact_tokens.proofs.Seams.{behind_ascii}

-- THE STEPS

module _ (quote : ℕ) (escapes : List (ℕ × ℕ)) where
  pub at_end : (value s : List ℕ) (n : ℕ) → s ≡ [] → text_from quote escapes value n s ≡ None
  at_end value s n is = ap (text_from quote escapes value n) is

  pub at_quote : (value s bs : List ℕ) (n b : ℕ) → s ≡ b ∷ bs → b ≡ quote → text_from quote escapes value n s ≡ Some (value, n + 1)
  at_quote value s bs n b is closes = ap (text_from quote escapes value n) is ∙ closed bs
    where
      closed : (bs : List ℕ) → text_from quote escapes value n (b ∷ bs) ≡ Some (value, n + 1)
      closed [] = rw (eq-eqb b quote closes) refl
      closed (c ∷ bs) = rw (eq-eqb b quote closes) refl

  pub at_open : (value s bs : List ℕ) (n b : ℕ) → s ≡ b ∷ bs → b ≢ quote → b ≡ 92 → bs ≡ [] → text_from quote escapes value n s ≡ None
  at_open value s bs n b is other slash none = ap (text_from quote escapes value n) (is ∙ ap (λ z. b ∷ z) none) ∙ rw (ne_eqb b quote other) refl

  behind_slash : (value s bs rest : List ℕ) (n b c : ℕ) → s ≡ b ∷ bs → b ≢ quote → b ≡ 92 → bs ≡ c ∷ rest →
      text_from quote escapes value n s ≡ option_and_then (λ x. text_from quote escapes (value ++ x ∷ []) (n + 2) rest) (meant_by escapes c)
  behind_slash value s bs rest n b c is other slash goes =
      ap (text_from quote escapes value n) (is ∙ ap (λ z. b ∷ z) goes) ∙ rw (ne_eqb b quote other, eq-eqb b 92 slash) refl

  pub at_escape : (value s bs rest : List ℕ) (n b c x : ℕ) → s ≡ b ∷ bs → b ≢ quote → b ≡ 92 → bs ≡ c ∷ rest → meant_by escapes c ≡ Some x →
      text_from quote escapes value n s ≡ text_from quote escapes (value ++ x ∷ []) (n + 2) rest
  at_escape value s bs rest n b c x is other slash goes meant =
      behind_slash value s bs rest n b c is other slash goes ∙ ap (option_and_then (λ x. text_from quote escapes (value ++ x ∷ []) (n + 2) rest)) meant

  pub at_wrong_escape : (value s bs rest : List ℕ) (n b c : ℕ) → s ≡ b ∷ bs → b ≢ quote → b ≡ 92 → bs ≡ c ∷ rest → meant_by escapes c ≡ None → text_from quote escapes value n s ≡ None
  at_wrong_escape value s bs rest n b c is other slash goes meant =
      behind_slash value s bs rest n b c is other slash goes ∙ ap (option_and_then (λ x. text_from quote escapes (value ++ x ∷ []) (n + 2) rest)) meant

  pub at_raw : (value s bs : List ℕ) (n b : ℕ) → s ≡ b ∷ bs → b ≢ quote → b ≢ 92 → is_raw quote b ≡ true →
      text_from quote escapes value n s ≡ text_from quote escapes (value ++ b ∷ []) (n + 1) bs
  at_raw value s bs n b is other slash raw = ap (text_from quote escapes value n) is ∙ goes bs
    where
      goes : (bs : List ℕ) → text_from quote escapes value n (b ∷ bs) ≡ text_from quote escapes (value ++ b ∷ []) (n + 1) bs
      goes [] = rw (ne_eqb b quote other) refl
      goes (c ∷ bs) = rw raw (rw (ne_eqb b quote other, ne_eqb b 92 slash) refl)

  pub at_control : (value s bs : List ℕ) (n b : ℕ) → s ≡ b ∷ bs → b ≢ quote → b ≢ 92 → is_raw quote b ≡ false → text_from quote escapes value n s ≡ None
  at_control value s bs n b is other slash raw = ap (text_from quote escapes value n) is ∙ goes bs
    where
      goes : (bs : List ℕ) → text_from quote escapes value n (b ∷ bs) ≡ None
      goes [] = rw (ne_eqb b quote other) refl
      goes (c ∷ bs) = rw raw (rw (ne_eqb b quote other, ne_eqb b 92 slash) refl)

-- ESCAPES

-- the bytes of an entry of a table, and of those behind it
pub first_ascii : (escape : ℕ × ℕ) (escapes : List (ℕ × ℕ)) → are_ascii (escape ∷ escapes) ≡ true → (escape.0 < 128) × (escape.1 < 128)
first_ascii escape escapes h =
    let parts = and_parts (nat_lt escape.0 128 && nat_lt escape.1 128) (are_ascii escapes) h in
    let both = and_parts (nat_lt escape.0 128) (nat_lt escape.1 128) parts.0 in (grind (arith, common_steps), grind (arith, common_steps))

pub others_ascii : (escape : ℕ × ℕ) (escapes : List (ℕ × ℕ)) → are_ascii (escape ∷ escapes) ≡ true → are_ascii escapes ≡ true
others_ascii escape escapes h = (and_parts (nat_lt escape.0 128 && nat_lt escape.1 128) (are_ascii escapes) h).1

-- where the table has an entry
pub meant_ascii : (escapes : List (ℕ × ℕ)) (letter x : ℕ) → are_ascii escapes ≡ true → meant_by escapes letter ≡ Some x → (letter < 128) × (x < 128)
meant_ascii [] letter x h e = cc
meant_ascii (escape ∷ escapes) letter x h e = by (letter == escape.0) refl e (λ e. meant_ascii escapes letter x (others_ascii escape escapes h) e)
  where
    by : (d : Bool) → (letter == escape.0) ≡ d → (if d then Some escape.1 else meant_by escapes letter) ≡ Some x → (meant_by escapes letter ≡ Some x → (letter < 128) × (x < 128)) → (letter < 128) × (x < 128)
    by true is e ih = let small = first_ascii escape escapes h in let same : escape.1 ≡ x = cc in (grind (arith, common_steps, small, is), grind (arith, common_steps, small, same))
    by false is e ih = ih e

-- UTF-8

one_utf8 : (x : ℕ) → x < 128 → IsUtf8 (x ∷ [])
one_utf8 x small = subst IsUtf8 (encode_ascii x small) (IsUtf8-encode x (rw (lt-ltb x 55296 (omega arith)) refl))

pub drop_more : (s bs whole : List ℕ) (b n : ℕ) → s ≡ b ∷ bs → s ≡ drop n whole → drop (n + 1) whole ≡ bs
drop_more s bs whole b n is left = rw add-one (drop_suc whole n bs b (sym left ∙ is))
  where
    drop_suc : (whole : List ℕ) (n : ℕ) (bs : List ℕ) (b : ℕ) → drop n whole ≡ b ∷ bs → drop (suc n) whole ≡ bs
    drop_suc [] zero bs b h = absurd (let e : 0 ≡ length (b ∷ bs) = ap length h in omega (arith, e))
    drop_suc [] (suc n) bs b h = absurd (let e : 0 ≡ length (b ∷ bs) = ap length h in omega (arith, e))
    drop_suc (x ∷ whole) zero bs b h = ap (drop 1) h
    drop_suc (x ∷ whole) (suc n) bs b h = drop_suc whole n bs b h

pub drop_two : (s bs rest whole : List ℕ) (b c n : ℕ) → s ≡ b ∷ bs → bs ≡ c ∷ rest → s ≡ drop n whole → rest ≡ drop (n + 2) whole
drop_two s bs rest whole b c n is goes left =
    let once : drop (n + 1) whole ≡ bs = drop_more s bs whole b n is left in
    let twice : drop (n + 1 + 1) whole ≡ rest = drop_more bs rest whole c (n + 1) goes (sym once) in
    let more : n + 1 + 1 ≡ n + 2 = omega arith in
    sym twice ∙ ap (λ k. drop k whole) more

-- what is at the seam of two lists
at_seam : (value bs : List ℕ) (b : ℕ) → get_or (value ++ b ∷ bs) (length value) 0 ≡ b
at_seam [] bs b = refl
at_seam (x ∷ value) bs b = at_seam value bs b

seam_inside : (value bs : List ℕ) (b : ℕ) → length value < length (value ++ b ∷ bs)
seam_inside [] bs b = omega arith
seam_inside (x ∷ value) bs b = omega (arith, seam_inside value bs b)

prefix_of : (value rest : List ℕ) → take (length value) (value ++ rest) ≡ value
prefix_of [] rest = refl
prefix_of (x ∷ value) rest = ap (λ z. x ∷ z) (prefix_of value rest)

behind_of : (value bs : List ℕ) (b : ℕ) → drop (suc (length value)) (value ++ b ∷ bs) ≡ bs
behind_of [] bs b = refl
behind_of (x ∷ value) bs b = behind_of value bs b

-- an ASCII byte parts a text into two
pub before_ascii : (value bs : List ℕ) (b : ℕ) → b < 128 → IsUtf8 (value ++ b ∷ bs) → IsUtf8 value
before_ascii value bs b small u =
    let whole = value ++ b ∷ bs in
    let less : get_or whole (length value) 0 < 128 = rw (at_seam value bs b) small in
    subst IsUtf8 (prefix_of value (b ∷ bs)) (IsUtf8-take whole (length value) u (IsCharBoundary-before_ascii whole (length value) (seam_inside value bs b) less))

pub after_ascii : (value bs : List ℕ) (b : ℕ) → b < 128 → IsUtf8 (value ++ b ∷ bs) → IsUtf8 bs
after_ascii value bs b small u =
    let whole = value ++ b ∷ bs in
    let less : get_or whole (length value) 0 < 128 = rw (at_seam value bs b) small in
    let cut : IsUtf8 (drop (length value + 1) whole) = IsUtf8-drop whole (length value + 1) u (IsCharBoundary-after_ascii whole (length value) u (seam_inside value bs b) less) in
    subst IsUtf8 (behind_of value bs b) (subst (λ n. IsUtf8 (drop n whole)) (add-one (length value)) cut)

-- an escape is replaced by what it means
pub escape_utf8 : (value s bs rest : List ℕ) (b c x : ℕ) → s ≡ b ∷ bs → bs ≡ c ∷ rest → b ≡ 92 → c < 128 → x < 128 → IsUtf8 (value ++ s) → IsUtf8 ((value ++ x ∷ []) ++ rest)
escape_utf8 value s bs rest b c x is goes slash letter small u =
    let whole : IsUtf8 (value ++ b ∷ bs) = subst (λ z. IsUtf8 (value ++ z)) is u in
    let found : IsUtf8 value = before_ascii value bs b (omega arith) whole in
    let more : IsUtf8 (c ∷ rest) = subst IsUtf8 goes (after_ascii value bs b (omega arith) whole) in
    let behind : IsUtf8 rest = behind_ascii c rest letter more in
    IsUtf8-append (value ++ x ∷ []) rest (IsUtf8-append value (x ∷ []) found (one_utf8 x small)) behind

pub raw_utf8 : (value s bs : List ℕ) (b : ℕ) → s ≡ b ∷ bs → IsUtf8 (value ++ s) → IsUtf8 ((value ++ b ∷ []) ++ bs)
raw_utf8 value s bs b is u = subst IsUtf8 (ap (λ z. value ++ z) is ∙ sym (append_assoc value (b ∷ []) bs)) u

pub value_utf8 : (value s bs : List ℕ) (b : ℕ) → s ≡ b ∷ bs → b < 128 → IsUtf8 (value ++ s) → IsUtf8 value
value_utf8 value s bs b is small u = before_ascii value bs b small (subst (λ z. IsUtf8 (value ++ z)) is u)

-- what follows the closing quote
pub closed_utf8 : (value s bs whole : List ℕ) (b n : ℕ) → s ≡ b ∷ bs → b < 128 → s ≡ drop n whole → IsUtf8 (value ++ s) → IsUtf8 (drop (n + 1) whole)
closed_utf8 value s bs whole b n is small left u =
    let behind : IsUtf8 bs = after_ascii value bs b small (subst (λ z. IsUtf8 (value ++ z)) is u) in
    subst IsUtf8 (sym (drop_more s bs whole b n is left)) behind

pub ruleset quoted = (at_end, at_quote, at_open, at_escape, at_wrong_escape, at_raw, at_control)
