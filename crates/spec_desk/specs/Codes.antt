-- Codes of changes, of the value on which requests are answered, and of what a look takes away: a Rust type needs them if contracts see it as one.
use Rattle.std.specs.Prelude.{ℕ, List, Option, refl}
use Rattle.std.specs.Coded.{Coded, coded_ℕ, coded_list, coded×, coded_option, code_by}
use Rattle.raven_ports.specs.Plan.{Plan}
use Rattle.raven_ports.specs.States.{KeeperState}
use Rattle.spec_data.specs.Codes.{row_code}
use Rattle.spec_data.specs.Kept.{KeptRow, kept_code}
use Rattle.spec_data.specs.Rows.{Row}
use Rattle.spec_index.specs.Codes.{world_code}
use Rattle.spec_index.specs.World.{World}
use Rattle.spec_server.specs.Courses.{Change}
use Rattle.spec_desk.specs.Lived.{Lived, Seen}

abbrev pub change_code : Coded Change
change_code = code_by (List Row × (Option ℕ × World)) (coded× (coded_list row_code) (coded× (coded_option coded_ℕ) world_code))
    (λ c. (c.rows, (c.cleans, c.world))) (λ p. record { rows = p.0; cleans = p.1.0; world = p.1.1 }) (λ _. refl)

abbrev pub plan_code : Coded Plan
plan_code = code_by (List ℕ × ℕ) (coded× (coded_list coded_ℕ) coded_ℕ) (λ p. (p.fails, p.calls)) (λ q. record { fails = q.0; calls = q.1 }) (λ _. refl)

abbrev pub keeper_code : Coded KeeperState
keeper_code = code_by (Option (List KeptRow) × (Option Plan × ℕ)) (coded× (coded_option (coded_list kept_code)) (coded× (coded_option plan_code) coded_ℕ))
    (λ k. (k.held, (k.plan, k.count))) (λ p. record { held = p.0; plan = p.1.0; count = p.1.1 }) (λ _. refl)

abbrev pub lived_code : Coded Lived
lived_code = code_by (World × (KeeperState × ℕ)) (coded× world_code (coded× keeper_code coded_ℕ))
    (λ l. (l.world, (l.keeper, l.fronts))) (λ p. record { world = p.0; keeper = p.1.0; fronts = p.1.1 }) (λ _. refl)

abbrev pub seen_code : Coded Seen
seen_code = code_by (World × (ℕ × ℕ)) (coded× world_code (coded× coded_ℕ coded_ℕ)) (λ s. (s.world, (s.fronts, s.faults))) (λ p. record { world = p.0; fronts = p.1.0; faults = p.1.1 }) (λ _. refl)
