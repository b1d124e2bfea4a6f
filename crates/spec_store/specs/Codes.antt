-- Codes of stores and settings: a Rust type needs them if contracts see it as one.
use Rattle.std.specs.Prelude.{ℕ, List, refl}
use Rattle.std.specs.Coded.{Coded, coded_ℕ, coded_list, coded×, code_by}
use Rattle.spec_data.specs.Codes.{text_code, row_code}
use Rattle.spec_data.specs.Rows.{Row}
use Rattle.spec_store.specs.Store.{Store}
use Rattle.spec_store.specs.Commit.{Setting}

abbrev pub store_code : Coded Store
store_code = code_by (List Row × ℕ) (coded× (coded_list row_code) coded_ℕ) (λ S. (S.rows, S.cleaned)) (λ p. record { rows = p.0; cleaned = p.1 }) (λ _. refl)

abbrev pub setting_code : Coded Setting
setting_code = code_by (List ℕ × (ℕ × (ℕ × ℕ))) (coded× text_code (coded× coded_ℕ (coded× coded_ℕ coded_ℕ)))
    (λ s. (s.base, (s.max_rows, (s.max_slots, s.max_notes)))) (λ p. record { base = p.0; max_rows = p.1.0; max_slots = p.1.1.0; max_notes = p.1.1.1 }) (λ _. refl)
