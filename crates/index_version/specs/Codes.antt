-- Codes of what a map gives, by which it can be the value of a Rust type.
use Rattle.std.specs.Prelude.{◌≡◌, ℕ, List, Option, Some, None, refl}
use Rattle.std.specs.Coded.{Coded, coded_list, coded×, coded_option, code_by}
use Rattle.spec_data.specs.Codes.{text_code, scalar_code}
use Rattle.index_tree.specs.Meaning.{Fields, Outcome, Entry, NoEntry, Failed, Mapped}

abbrev outcome_parts : Outcome → Option (Option Fields)
outcome_parts (Entry fields) = Some (Some fields)
outcome_parts NoEntry = Some None
outcome_parts Failed = None

abbrev parts_outcome : Option (Option Fields) → Outcome
parts_outcome (Some (Some fields)) = Entry fields
parts_outcome (Some None) = NoEntry
parts_outcome None = Failed

pub outcome_back : (o : Outcome) → parts_outcome (outcome_parts o) ≡ o
outcome_back (Entry fields) = refl
outcome_back NoEntry = refl
outcome_back Failed = refl

abbrev pub outcome_code : Coded Outcome
outcome_code = code_by (Option (Option Fields)) (coded_option (coded_option (coded_list (coded× text_code scalar_code)))) outcome_parts parts_outcome outcome_back

abbrev pub mapped_code : Coded Mapped
mapped_code = code_by (Outcome × List (List ℕ)) (coded× outcome_code (coded_list text_code)) (λ m. (m.outcome, m.loads)) (λ p. record { outcome = p.0; loads = p.1 }) (λ _. refl)
