-- Codes of versions, slots, notes and worlds: a Rust type needs them if contracts see it as one.
use Rattle.std.specs.Prelude.{ℕ, List, refl}
use Rattle.std.specs.Coded.{Coded, coded_ℕ, coded_list, coded×, code_by}
use Rattle.spec_data.specs.Codes.{text_code, table_code}
use Rattle.spec_store.specs.Store.{Store}
use Rattle.spec_data.specs.Tables.{Table}
use Rattle.index_tree.specs.Definitions.{Definition, definition_code}
use Rattle.spec_store.specs.Commit.{Setting}
use Rattle.spec_index.specs.World.{Version, Slot, Note, World}
use Rattle.spec_store.specs.Codes.{store_code, setting_code}

abbrev pub version_code : Coded Version
version_code = code_by (Definition × (ℕ × (Table × ℕ))) (coded× definition_code (coded× coded_ℕ (coded× table_code coded_ℕ)))
    (λ v. (v.definition, (v.etag, (v.table, v.cleaned)))) (λ p. record { definition = p.0; etag = p.1.0; table = p.1.1.0; cleaned = p.1.1.1 }) (λ _. refl)

abbrev pub slot_code : Coded Slot
slot_code = code_by (ℕ × (List ℕ × (Version × ℕ))) (coded× coded_ℕ (coded× text_code (coded× version_code coded_ℕ)))
    (λ s. (s.number, (s.name, (s.version, s.row)))) (λ p. record { number = p.0; name = p.1.0; version = p.1.1.0; row = p.1.1.1 }) (λ _. refl)

abbrev pub note_code : Coded Note
note_code = code_by (ℕ × (List ℕ × (ℕ × (ℕ × (ℕ × ℕ))))) (coded× coded_ℕ (coded× text_code (coded× coded_ℕ (coded× coded_ℕ (coded× coded_ℕ coded_ℕ)))))
    (λ n. (n.etag, (n.name, (n.old, (n.new, (n.index_etag, n.newest))))))
    (λ p. record { etag = p.0; name = p.1.0; old = p.1.1.0; new = p.1.1.1.0; index_etag = p.1.1.1.1.0; newest = p.1.1.1.1.1 }) (λ _. refl)

abbrev pub world_code : Coded World
world_code = code_by (Setting × (Store × (List Slot × List Note))) (coded× setting_code (coded× store_code (coded× (coded_list slot_code) (coded_list note_code))))
    (λ w. (w.setting, (w.store, (w.slots, w.notes)))) (λ p. record { setting = p.0; store = p.1.0; slots = p.1.1.0; notes = p.1.1.1 }) (λ _. refl)
