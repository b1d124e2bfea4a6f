-- What is written of a sound value is read as that value.
use Rattle.std.proofs.Common.{◌≡◌, ◌≤◌, ℕ, List, Ok, IsUtf8, sym, ap, ◌∙◌, subst, arith}
use Rattle.spec_data.specs.Data.{Data, depth}
use Rattle.spec_data.specs.Json.{reading, or_refusal, number_not_whole}
use Rattle.spec_data.specs.Sound.{IsSound}
use Rattle.spec_data.specs.Written.{text_of}
use Rattle.serde_json.specs.Read as json
use Rattle.raven_json.proofs.Back.{converted, read_text}
use Rattle.raven_json.proofs.Compact.{json_of, text_same}
use Rattle.raven_json.proofs.Depth.{shallow}
use Rattle.raven_json.proofs.Readings.{is_json}
use Rattle.raven_json.proofs.Utf8.{utf8_text}

pub reading-text_of : (d : Data) → IsSound d → depth d ≤ 100 → reading (text_of d) ≡ Ok d
reading-text_of d h few =
    is_json (text_of d) (json_of d) (shallow d h few) (utf8_text d h) (ap json.read (text_same d) ∙ read_text d h (omega arith))
    ∙ ap (or_refusal number_not_whole) (converted d h)

pub read_back : (bytes : List ℕ) (d : Data) → bytes ≡ text_of d → IsSound d → depth d ≤ 100 → reading bytes ≡ Ok d
read_back bytes d e h few = ap reading e ∙ reading-text_of d h few

pub written_utf8 : (bytes : List ℕ) (d : Data) → bytes ≡ text_of d → IsSound d → IsUtf8 bytes
written_utf8 bytes d e h = subst IsUtf8 (sym e) (utf8_text d h)
