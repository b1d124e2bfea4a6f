-- A printed text is read as its value.
use Rattle.std.proofs.Common.{◌≡◌, ◌≢◌, ◌<◌, ◌+◌, ℕ, List, [], ◌∷◌, ◌++◌, length, arith, refl, sym, ap, ap₂, ◌∙◌, append_assoc, append-nil, Option, Some, None, true, false, inl, inr, ne_eqb, flat_map}
use Rattle.std.proofs.lemmas.Bool.{cases_eq, and_parts}
use Rattle.std.proofs.lemmas.List.{length-append}
use Rattle.std.specs.Prelude.{◌||◌, is_some, option_and_then}
use Rattle.std.specs.List.{list_all}
use Rattle.index_tokens.specs.Spelling.{meant_by, is_raw}
use Rattle.index_tokens.specs.Passes.{text_from}
use Rattle.index_print.specs.Print.{escape_letter, behind_backslash, escaped}
use Rattle.index_print.specs.Spellable.{is_quotable, IsQuotable}

settled : (b letter n m : ℕ) → b ≡ n → escape_letter b ≡ Some letter → escape_letter n ≡ Some m → meant_by m ≡ Some n → meant_by letter ≡ Some b
settled b letter n m is e known meant =
    let both : Some m ≡ Some letter = sym known ∙ ap escape_letter (sym is) ∙ e in
    let same : m ≡ letter = cc in
    ap meant_by (sym same) ∙ meant ∙ ap Some (sym is)

none : (b : ℕ) → b ≢ 34 → b ≢ 92 → b ≢ 10 → b ≢ 13 → b ≢ 9 → escape_letter b ≡ None
none b quote slash feed return tab = rw (ne_eqb b 34 quote) (rw (ne_eqb b 92 slash) (rw (ne_eqb b 10 feed) (rw (ne_eqb b 13 return) (rw (ne_eqb b 9 tab) refl))))

-- an escape means its byte
means : (b letter : ℕ) → escape_letter b ≡ Some letter → meant_by letter ≡ Some b
means b letter e = elim (cases_eq b 34) [
  | inl is ↦ settled b letter 34 34 is e refl refl
  | inr quote ↦ elim (cases_eq b 92) [
    | inl is ↦ settled b letter 92 92 is e refl refl
    | inr slash ↦ elim (cases_eq b 10) [
      | inl is ↦ settled b letter 10 110 is e refl refl
      | inr feed ↦ elim (cases_eq b 13) [
        | inl is ↦ settled b letter 13 114 is e refl refl
        | inr return ↦ elim (cases_eq b 9) [
          | inl is ↦ settled b letter 9 116 is e refl refl
          | inr tab ↦ let never : None ≡ Some letter = sym (none b quote slash feed return tab) ∙ e in cc
        ]
      ]
    ]
  ]
]

not_quote : (b : ℕ) → is_raw b ≡ true → b ≢ 34
not_quote b raw is = let never : false ≡ true = ap is_raw (sym is) ∙ raw in cc

not_slash : (b : ℕ) → is_raw b ≡ true → b ≢ 92
not_slash b raw is = let never : false ≡ true = ap is_raw (sym is) ∙ raw in cc

raw_step : (before : List ℕ) (k b : ℕ) (rest : List ℕ) → is_raw b ≡ true → 0 < length rest → text_from before k (b ∷ rest) ≡ text_from (before ++ b ∷ []) (k + 1) rest
raw_step before k b [] raw some = absurd (omega arith)
raw_step before k b (c ∷ rest) raw some = rw raw (rw (ne_eqb b 34 (not_quote b raw)) (rw (ne_eqb b 92 (not_slash b raw)) refl))

escape_step : (before : List ℕ) (k b letter : ℕ) (rest : List ℕ) → meant_by letter ≡ Some b → text_from before k (92 ∷ letter ∷ rest) ≡ text_from (before ++ b ∷ []) (k + 2) rest
escape_step before k b letter rest meant = ap (option_and_then (λ x. text_from (before ++ x ∷ []) (k + 2) rest)) meant

closes : (before : List ℕ) (k : ℕ) (s : List ℕ) → text_from before k (34 ∷ s) ≡ Some (before, k + 1)
closes before k [] = refl
closes before k (b ∷ s) = refl

one_more : (before value : List ℕ) (b k l m : ℕ) → k + l + 1 ≡ m → ◌≡◌ {A = Option (List ℕ × ℕ)} (Some ((before ++ b ∷ []) ++ value, k + l + 1)) (Some (before ++ b ∷ value, m))
one_more before value b k l m size = ap₂ (λ (x : List ℕ) (y : ℕ). Some (x, y)) (append_assoc before (b ∷ []) value) size

abbrev ReadBack : List ℕ → Type 0
ReadBack value = (before : List ℕ) (k : ℕ) (s : List ℕ) → text_from before k (flat_map escaped value ++ 34 ∷ s) ≡ Some (before ++ value, k + length (flat_map escaped value) + 1)

next_back : (o : Option ℕ) (b : ℕ) (value before : List ℕ) (k : ℕ) (s : List ℕ) → escape_letter b ≡ o → is_quotable b ≡ true → ReadBack value
    → text_from before k ((behind_backslash b o ++ flat_map escaped value) ++ 34 ∷ s) ≡ Some (before ++ b ∷ value, k + length (behind_backslash b o ++ flat_map escaped value) + 1)
next_back (Some letter) b value before k s is quotable more =
    let text = flat_map escaped value in
    escape_step before k b letter (text ++ 34 ∷ s) (means b letter is) ∙ more (before ++ b ∷ []) (k + 2) s ∙ one_more before value b (k + 2) (length text) (k + length (92 ∷ letter ∷ text) + 1) (omega arith)
next_back None b value before k s is quotable more =
    let text = flat_map escaped value in
    let raw : is_raw b ≡ true = ap (λ o. is_some o || is_raw b) (sym is) ∙ quotable in
    raw_step before k b (text ++ 34 ∷ s) raw (omega (arith, length-append text (34 ∷ s))) ∙ more (before ++ b ∷ []) (k + 1) s
    ∙ one_more before value b (k + 1) (length text) (k + length (b ∷ text) + 1) (omega arith)

pub read_back : (value : List ℕ) → IsQuotable value → ReadBack value
read_back [] h before k s = closes before k s ∙ ap₂ (λ (x : List ℕ) (y : ℕ). Some (x, y)) (sym (append-nil before)) (omega arith)
read_back (b ∷ value) h before k s =
    let parts = and_parts (is_quotable b) (list_all is_quotable value) h in
    next_back (escape_letter b) b value before k s refl parts.0 (read_back value parts.1)
