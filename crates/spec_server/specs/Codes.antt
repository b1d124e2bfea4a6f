-- Codes of the machine and of parts of replies: a Rust type needs them if contracts see it as one.
use Rattle.std.specs.Prelude.{ℕ, List, Bool, refl}
use Rattle.std.specs.Coded.{Coded, coded_ℕ, coded_bool, coded_list, coded×, code_by}
use Rattle.spec_data.specs.Codes.{text_code}
use Rattle.spec_data.specs.DataCode.{data_code}
use Rattle.spec_data.specs.Data.{Data}
use Rattle.spec_index.specs.World.{Version, World}
use Rattle.spec_server.specs.Replies.{Pumping, Listing}
use Rattle.spec_server.specs.Courses.{Held, Machine}
use Rattle.spec_index.specs.Codes.{version_code, world_code}

abbrev pub held_code : Coded Held
held_code = code_by (ℕ × (ℕ × Version)) (coded× coded_ℕ (coded× coded_ℕ version_code))
    (λ h. (h.worker, (h.number, h.version))) (λ p. record { worker = p.0; number = p.1.0; version = p.1.1 }) (λ _. refl)

abbrev pub machine_code : Coded Machine
machine_code = code_by (World × List Held) (coded× world_code (coded_list held_code)) (λ m. (m.world, m.held)) (λ p. record { world = p.0; held = p.1 }) (λ _. refl)

abbrev pub pumping_code : Coded Pumping
pumping_code = code_by (ℕ × (List ℕ × ℕ)) (coded× coded_ℕ (coded× text_code coded_ℕ))
    (λ p. (p.from, (p.index, p.to))) (λ q. record { from = q.0; index = q.1.0; to = q.1.1 }) (λ _. refl)

abbrev pub listing_code : Coded Listing
listing_code = code_by (Data × (ℕ × (ℕ × (ℕ × (Bool × List ℕ))))) (coded× data_code (coded× coded_ℕ (coded× coded_ℕ (coded× coded_ℕ (coded× coded_bool text_code)))))
    (λ l. (l.definition, (l.entries, (l.errors, (l.etag, (l.is_stale, l.name))))))
    (λ p. record { definition = p.0; entries = p.1.0; errors = p.1.1.0; etag = p.1.1.1.0; is_stale = p.1.1.1.1.0; name = p.1.1.1.1.1 }) (λ _. refl)
