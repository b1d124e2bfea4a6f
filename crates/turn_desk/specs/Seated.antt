-- What contracts see of a desk over a turn.
use Rattle.std.specs.Prelude.{ℕ, Option, refl}
use Rattle.std.specs.Coded.{Coded, coded_ℕ, coded×, coded_option, code_by}
use Rattle.raven_turn.specs.Passes.{Knowledge, knowledge_code}
use Rattle.spec_desk.specs.Codes.{lived_code}
use Rattle.spec_desk.specs.Lived.{Lived}
use Rattle.spec_desk.specs.Receipts.{Standing}

-- its pass, and the one moment of its clock if that stands still
pub record Seated : Type 0 where
  pub pass : Knowledge Lived
  pub moment : Option ℕ

abbrev pub seated : Knowledge Lived → Option ℕ → Seated
seated pass moment = record { pass = pass; moment = moment }

-- It has seen and made what its pass has, and makes no batches after requests.
abbrev pub stands_at : Option ℕ → Knowledge Lived → Standing
stands_at moment pass = record { seen = pass.seen; made = pass.made; clock = moment; pump = 0 }

abbrev pub stands_seated : Seated → Standing
stands_seated d = stands_at d.moment d.pass

abbrev pub seated_code : Coded Seated
seated_code = code_by (Knowledge Lived × Option ℕ) (coded× (knowledge_code lived_code) (coded_option coded_ℕ)) (λ d. (d.pass, d.moment)) (λ p. record { pass = p.0; moment = p.1 }) (λ _. refl)
