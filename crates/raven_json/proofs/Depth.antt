-- The brackets of a text are those of its value.
use Rattle.std.proofs.Common.{◌≡◌, ℕ, suc, ◌+◌, ◌-◌, ◌/◌, ◌%◌, ◌<◌, ◌≤◌, ℤ, pos, negsuc, List, [], ◌∷◌, ◌++◌, Bool, true, false, ◌==◌, nat_lt, inl, inr, refl, sym, ap, ◌∙◌, append_assoc, append-nil, flat_map, ne_eqb, lt-ltb, arith, FitsSigned, w64, decimal}
use Rattle.std.proofs.lemmas.Bool.{cases_eq, cases_lt}
use Rattle.std.proofs.lemmas.Fmt.{decimal_is_IsNumeral}
use Rattle.std.proofs.lemmas.Grind.{common_steps}
use Rattle.std.proofs.lemmas.Str.Parse.{digit_from_value}
use Rattle.std.specs.Prelude.{codes, if◌then◌else◌}
use Rattle.std.specs.Char.{digit_char, digit_value}
use Rattle.std.specs.Str.Parse.{AllDigits}
use Rattle.spec_data.specs.Data.{Data, null, flag, num, text, array, object, Items, no_items, item, Entries, no_entries, entry, depth, items_depth, entries_depth}
use Rattle.spec_data.specs.Scan.{is_too_deep, outside, in_text, max_depth}
use Rattle.spec_data.specs.Sound.{IsSound, AreSound, HasSound}
use Rattle.spec_data.specs.Written.{escaped, quoted, comma_if, text_of, items_text, entries_text}

ge-ltb : (a b : ℕ) → b ≤ a → nat_lt a b ≡ false
ge-ltb a b h = grind (arith, common_steps)

few : (c : ℕ) → c ≤ 100 → nat_lt max_depth c ≡ false
few c h = grind (arith, common_steps)

-- ---- outside texts

-- neither a quote nor a bracket
record IsPlain (x : ℕ) : Type 0 where
  pub quote : (x == 34) ≡ false
  pub open_brace : (x == 123) ≡ false
  pub open_bracket : (x == 91) ≡ false
  pub close_brace : (x == 125) ≡ false
  pub close_bracket : (x == 93) ≡ false

plain_digit : (x : ℕ) → digit_value x < 10 → IsPlain x
plain_digit x h =
    let range = digit_from_value x h in
    record {
      quote = ne_eqb x 34 (λ e. omega arith);
      open_brace = ne_eqb x 123 (λ e. omega arith);
      open_bracket = ne_eqb x 91 (λ e. omega arith);
      close_brace = ne_eqb x 125 (λ e. omega arith);
      close_bracket = ne_eqb x 93 (λ e. omega arith);
    }

pass_plain : (x c : ℕ) (rest : List ℕ) → IsPlain x → nat_lt max_depth c ≡ false → is_too_deep outside c (x ∷ rest) ≡ is_too_deep outside c rest
pass_plain x c rest p h = rw (p.quote, p.open_brace, p.open_bracket, p.close_brace, p.close_bracket, h) refl

pass_digits : (ds : List ℕ) (c : ℕ) (rest : List ℕ) → AllDigits 10 ds → nat_lt max_depth c ≡ false → is_too_deep outside c (ds ++ rest) ≡ is_too_deep outside c rest
pass_digits [] c rest a h = refl
pass_digits (x ∷ ds) c rest a h = pass_plain x c (ds ++ rest) (plain_digit x a.0) h ∙ pass_digits ds c rest a.1 h

pass_number : (z : ℤ) (c : ℕ) (rest : List ℕ) → FitsSigned w64 z → nat_lt max_depth c ≡ false → is_too_deep outside c (text_of (num z) ++ rest) ≡ is_too_deep outside c rest
pass_number (pos n) c rest f h = pass_digits (decimal n) c rest (decimal_is_IsNumeral n (omega (arith, f.sfits))).0.1 h
pass_number (negsuc n) c rest f h = rw h (pass_digits (decimal (suc n)) c rest (decimal_is_IsNumeral (suc n) (omega (arith, f.sfits))).0.1 h)

pass_flag : (b : Bool) (c : ℕ) (rest : List ℕ) → nat_lt max_depth c ≡ false → is_too_deep outside c (text_of (flag b) ++ rest) ≡ is_too_deep outside c rest
pass_flag true c rest h = rw h refl
pass_flag false c rest h = rw h refl

pass_comma : (later : Bool) (c : ℕ) (rest : List ℕ) → nat_lt max_depth c ≡ false → is_too_deep outside c (comma_if later ++ rest) ≡ is_too_deep outside c rest
pass_comma true c rest h = rw h refl
pass_comma false c rest h = refl

-- ---- in texts

-- neither a quote nor a backslash
hex_plain : (n : ℕ) → n < 16 → ((digit_char n == 92) ≡ false) × ((digit_char n == 34) ≡ false)
hex_plain n h = (grind arith, grind arith)

pass_hex : (b c : ℕ) (rest : List ℕ) → b < 32 → nat_lt max_depth c ≡ false
    → is_too_deep in_text c (92 ∷ 117 ∷ 48 ∷ 48 ∷ digit_char (b / 16) ∷ digit_char (b % 16) ∷ rest) ≡ is_too_deep in_text c rest
pass_hex b c rest small h =
    let high = hex_plain (b / 16) (omega arith) in
    let low = hex_plain (b % 16) (omega arith) in
    rw (high.0, high.1, low.0, low.1, h) refl

pass_other : (b c : ℕ) (rest : List ℕ) → (b ≡ 34 → ⊥) → (b ≡ 92 → ⊥) → nat_lt max_depth c ≡ false
    → is_too_deep in_text c ((if nat_lt b 32 then codes "\\u00" ++ digit_char (b / 16) ∷ digit_char (b % 16) ∷ [] else b ∷ []) ++ rest) ≡ is_too_deep in_text c rest
pass_other b c rest n34 n92 h = elim (cases_lt b 32) [
  | inl small ↦ rw (lt-ltb b 32 small) (pass_hex b c rest small h)
  | inr big ↦ rw (ge-ltb b 32 big) (rw (ne_eqb b 92 n92, ne_eqb b 34 n34, h) refl)
]

pass_byte : (b c : ℕ) (rest : List ℕ) → nat_lt max_depth c ≡ false → is_too_deep in_text c (escaped b ++ rest) ≡ is_too_deep in_text c rest
pass_byte b c rest h = elim (cases_eq b 34) [
  | inl e ↦ rw (e, h) refl
  | inr n34 ↦ elim (cases_eq b 92) [
    | inl e ↦ rw (e, h) refl
    | inr n92 ↦ elim (cases_eq b 8) [
      | inl e ↦ rw (e, h) refl
      | inr n8 ↦ elim (cases_eq b 9) [
        | inl e ↦ rw (e, h) refl
        | inr n9 ↦ elim (cases_eq b 10) [
          | inl e ↦ rw (e, h) refl
          | inr n10 ↦ elim (cases_eq b 12) [
            | inl e ↦ rw (e, h) refl
            | inr n12 ↦ elim (cases_eq b 13) [
              | inl e ↦ rw (e, h) refl
              | inr n13 ↦ rw (ne_eqb b 34 n34, ne_eqb b 92 n92, ne_eqb b 8 n8, ne_eqb b 9 n9, ne_eqb b 10 n10, ne_eqb b 12 n12, ne_eqb b 13 n13) (pass_other b c rest n34 n92 h)
            ]
          ]
        ]
      ]
    ]
  ]
]

pass_bytes : (s : List ℕ) (c : ℕ) (rest : List ℕ) → nat_lt max_depth c ≡ false → is_too_deep in_text c (flat_map escaped s ++ 34 ∷ rest) ≡ is_too_deep outside c rest
pass_bytes [] c rest h = rw h refl
pass_bytes (b ∷ s) c rest h =
    ap (is_too_deep in_text c) (append_assoc (escaped b) (flat_map escaped s) (34 ∷ rest))
    ∙ pass_byte b c (flat_map escaped s ++ 34 ∷ rest) h
    ∙ pass_bytes s c rest h

pass_quoted : (s : List ℕ) (c : ℕ) (rest : List ℕ) → nat_lt max_depth c ≡ false → is_too_deep outside c (quoted s ++ rest) ≡ is_too_deep outside c rest
pass_quoted s c rest h = rw h (ap (is_too_deep in_text c) (append_assoc (flat_map escaped s) (34 ∷ []) rest) ∙ pass_bytes s c rest h)

-- ---- values

closed : (c : ℕ) → c + 1 - 1 ≡ c
closed c = omega arith

pass_brackets : (x y c : ℕ) (inner rest : List ℕ) → nat_lt max_depth (c + 1) ≡ false → nat_lt max_depth c ≡ false
    → ((more : List ℕ) → is_too_deep outside c (x ∷ more) ≡ is_too_deep outside (c + 1) more)
    → ((more : List ℕ) → is_too_deep outside (c + 1) (y ∷ more) ≡ is_too_deep outside c more)
    → is_too_deep outside (c + 1) (inner ++ y ∷ rest) ≡ is_too_deep outside (c + 1) (y ∷ rest)
    → is_too_deep outside c ((x ∷ (inner ++ y ∷ [])) ++ rest) ≡ is_too_deep outside c rest
pass_brackets x y c inner rest h k opens closes inside =
    opens ((inner ++ y ∷ []) ++ rest)
    ∙ ap (is_too_deep outside (c + 1)) (append_assoc inner (y ∷ []) rest)
    ∙ inside ∙ closes rest

mutual
  pass : (d : Data) (c : ℕ) (rest : List ℕ) → IsSound d → c + depth d ≤ 100 → is_too_deep outside c (text_of d ++ rest) ≡ is_too_deep outside c rest
  pass null c rest f h = rw (few c (omega arith)) refl
  pass (flag b) c rest f h = pass_flag b c rest (few c (omega arith))
  pass (num z) c rest f h = pass_number z c rest f (few c (omega arith))
  pass (text s) c rest f h = pass_quoted s c rest (few c (omega arith))
  pass (array ds) c rest f h =
      let here = few c (omega arith) in
      let inner = few (c + 1) (omega arith) in
      pass_brackets 91 93 c (items_text false ds) rest inner here
      (λ more. rw inner refl) (λ more. rw (closed c, here) refl)
      (pass_items false ds (c + 1) (93 ∷ rest) f (omega arith))
  pass (object ms) c rest f h =
      let here = few c (omega arith) in
      let inner = few (c + 1) (omega arith) in
      pass_brackets 123 125 c (entries_text false ms) rest inner here
      (λ more. rw inner refl) (λ more. rw (closed c, here) refl)
      (pass_entries false ms (c + 1) (125 ∷ rest) f.1 (omega arith))

  pass_items : (later : Bool) (ds : Items) (c : ℕ) (rest : List ℕ) → AreSound ds → c + items_depth ds ≤ 100 → is_too_deep outside c (items_text later ds ++ rest) ≡ is_too_deep outside c rest
  pass_items later no_items c rest f h = refl
  pass_items later (item d ds) c rest f h =
      let more = items_text true ds ++ rest in
      ap (is_too_deep outside c) (append_assoc (comma_if later) (text_of d ++ items_text true ds) rest ∙ ap (λ s. comma_if later ++ s) (append_assoc (text_of d) (items_text true ds) rest))
      ∙ pass_comma later c (text_of d ++ more) (few c (omega arith))
      ∙ pass d c more f.0 (omega arith)
      ∙ pass_items true ds c rest f.1 (omega arith)

  pass_entries : (later : Bool) (ms : Entries) (c : ℕ) (rest : List ℕ) → HasSound ms → c + entries_depth ms ≤ 100 → is_too_deep outside c (entries_text later ms ++ rest) ≡ is_too_deep outside c rest
  pass_entries later no_entries c rest f h = refl
  pass_entries later (entry k d ms) c rest f h =
      let here = few c (omega arith) in
      let more = entries_text true ms ++ rest in
      let colon : is_too_deep outside c (58 ∷ (text_of d ++ more)) ≡ is_too_deep outside c (text_of d ++ more) = rw here refl in
      ap (is_too_deep outside c) (append_assoc (comma_if later) (quoted k ++ 58 ∷ (text_of d ++ entries_text true ms)) rest ∙ ap (λ s. comma_if later ++ s) (append_assoc (quoted k) (58 ∷ (text_of d ++ entries_text true ms)) rest ∙ ap (λ s. quoted k ++ 58 ∷ s) (append_assoc (text_of d) (entries_text true ms) rest)))
      ∙ pass_comma later c (quoted k ++ 58 ∷ (text_of d ++ more)) here
      ∙ pass_quoted k c (58 ∷ (text_of d ++ more)) here
      ∙ colon
      ∙ pass d c more f.1.0 (omega arith)
      ∙ pass_entries true ms c rest f.1.1 (omega arith)

pub shallow : (d : Data) → IsSound d → depth d ≤ 100 → is_too_deep outside 0 (text_of d) ≡ false
shallow d f h = ap (is_too_deep outside 0) (sym (append-nil (text_of d))) ∙ pass d 0 [] f (omega arith)
