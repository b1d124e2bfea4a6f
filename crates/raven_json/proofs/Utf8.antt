-- The text of a sound value is UTF-8.
use Rattle.std.proofs.Common.{ℕ, List, [], ◌∷◌, Bool, true, false, IsUtf8, refl, sym, subst, arith}
use Rattle.std.proofs.lemmas.Fmt.{IsAscii-signed}
use Rattle.std.proofs.lemmas.Str.{IsUtf8-append, IsUtf8-nil, IsUtf8-from_ascii}
use Rattle.json.proofs.Printed.Utf8.{IsUtf8-are_ascii, IsUtf8-quoted}
use Rattle.spec_data.specs.Data.{Data, null, flag, num, text, array, object, Items, no_items, item, Entries, no_entries, entry}
use Rattle.spec_data.specs.Sound.{IsSound, AreSound, HasSound}
use Rattle.spec_data.specs.Written.{quoted, comma_if, text_of, items_text, entries_text}
use Rattle.raven_json.proofs.Compact.{quoted_same}

utf8_flag : (b : Bool) → IsUtf8 (text_of (flag b))
utf8_flag true = IsUtf8-are_ascii _ refl
utf8_flag false = IsUtf8-are_ascii _ refl

utf8_comma : (later : Bool) → IsUtf8 (comma_if later)
utf8_comma true = IsUtf8-are_ascii (44 ∷ []) refl
utf8_comma false = IsUtf8-nil

utf8_quoted : (s : List ℕ) → IsUtf8 s → IsUtf8 (quoted s)
utf8_quoted s h = subst IsUtf8 (sym (quoted_same s)) (IsUtf8-quoted s h)

mutual
  pub utf8_text : (d : Data) → IsSound d → IsUtf8 (text_of d)
  utf8_text null h = IsUtf8-are_ascii _ refl
  utf8_text (flag b) h = utf8_flag b
  utf8_text (num z) h = IsUtf8-from_ascii _ (IsAscii-signed z (omega (arith, h.sfits)))
  utf8_text (text s) h = utf8_quoted s h
  utf8_text (array ds) h = IsUtf8-append (91 ∷ []) _ (IsUtf8-are_ascii (91 ∷ []) refl) (IsUtf8-append _ (93 ∷ []) (utf8_items false ds h) (IsUtf8-are_ascii (93 ∷ []) refl))
  utf8_text (object ms) h = IsUtf8-append (123 ∷ []) _ (IsUtf8-are_ascii (123 ∷ []) refl) (IsUtf8-append _ (125 ∷ []) (utf8_entries false ms h.1) (IsUtf8-are_ascii (125 ∷ []) refl))

  utf8_items : (later : Bool) (ds : Items) → AreSound ds → IsUtf8 (items_text later ds)
  utf8_items later no_items h = IsUtf8-nil
  utf8_items later (item d ds) h = IsUtf8-append _ _ (utf8_comma later) (IsUtf8-append _ _ (utf8_text d h.0) (utf8_items true ds h.1))

  utf8_entries : (later : Bool) (ms : Entries) → HasSound ms → IsUtf8 (entries_text later ms)
  utf8_entries later no_entries h = IsUtf8-nil
  utf8_entries later (entry k d ms) h =
      IsUtf8-append _ _ (utf8_comma later)
      (IsUtf8-append _ _ (utf8_quoted k h.0)
      (IsUtf8-append (58 ∷ []) _ (IsUtf8-are_ascii (58 ∷ []) refl) (IsUtf8-append _ _ (utf8_text d h.1.0) (utf8_entries true ms h.1.1))))
