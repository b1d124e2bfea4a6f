-- Codes of doors, jobs and what jobs leave: a Rust type needs them if contracts see it as one.
use Rattle.std.specs.Prelude.{ℕ, List, Bool, Option, refl}
use Rattle.std.specs.Coded.{Coded, coded_ℕ, coded_bool, coded_list, coded×, coded_option, code_by}
use Rattle.raven_ports.specs.Plan.{Plan}
use Rattle.raven_ports.specs.States.{SinkState, SourceState}
use Rattle.raven_turn.specs.Passes.{Knowledge, knowledge_code}
use Rattle.spec_desk.specs.Codes.{lived_code, plan_code}
use Rattle.spec_desk.specs.Lived.{Lived}
use Rattle.serve_ports.specs.Doors.{Doorway, Ends}
use Rattle.raven_serve.specs.Works.{Post, Report}

abbrev pub source_code : Coded SourceState
source_code = code_by (Option (List ℕ) × ℕ) (coded× (coded_option (coded_list coded_ℕ)) coded_ℕ) (λ s. (s.left, s.faults)) (λ p. record { left = p.0; faults = p.1 }) (λ _. refl)

abbrev pub sink_code : Coded SinkState
sink_code = code_by (Option (List ℕ) × ℕ) (coded× (coded_option (coded_list coded_ℕ)) coded_ℕ) (λ s. (s.held, s.faults)) (λ p. record { held = p.0; faults = p.1 }) (λ _. refl)

abbrev pub ends_code : Coded Ends
ends_code = code_by (SourceState × SinkState) (coded× source_code sink_code) (λ c. (c.source, c.sink)) (λ p. record { source = p.0; sink = p.1 }) (λ _. refl)

abbrev pub doorway_code : Coded Doorway
doorway_code = code_by (Option (List Ends) × (Option (List Ends) × (Option ℕ × (Option Plan × (Bool × ℕ)))))
    (coded× (coded_option (coded_list ends_code)) (coded× (coded_option (coded_list ends_code)) (coded× (coded_option coded_ℕ) (coded× (coded_option plan_code) (coded× coded_bool coded_ℕ)))))
    (λ d. (d.left, (d.back, (d.out, (d.plan, (d.closed, d.faults))))))
    (λ p. record { left = p.0; back = p.1.0; out = p.1.1.0; plan = p.1.1.1.0; closed = p.1.1.1.1.0; faults = p.1.1.1.1.1 }) (λ _. refl)

abbrev pub post_code : Coded Post
post_code = code_by (Knowledge Lived × (Option ℕ × (List ℕ × Option Doorway))) (coded× (knowledge_code lived_code) (coded× (coded_option coded_ℕ) (coded× (coded_list coded_ℕ) (coded_option doorway_code))))
    (λ w. (w.pass, (w.clock, (w.name, w.door)))) (λ p. record { pass = p.0; clock = p.1.0; name = p.1.1.0; door = p.1.1.1 }) (λ _. refl)

abbrev pub report_code : Coded Report
report_code = code_by (Knowledge Lived × (Option Doorway × Bool)) (coded× (knowledge_code lived_code) (coded× (coded_option doorway_code) coded_bool))
    (λ o. (o.pass, (o.door, o.failed))) (λ p. record { pass = p.0; door = p.1.0; failed = p.1.1 }) (λ _. refl)
