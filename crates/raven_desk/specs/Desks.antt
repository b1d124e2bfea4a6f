-- What contracts see of desks.
use Rattle.std.specs.Prelude.{ℕ, [], ◌∷◌, Option, refl}
use Rattle.std.specs.Coded.{Coded, coded_ℕ, coded×, coded_option, code_by}
use Rattle.spec_desk.specs.Codes.{lived_code}
use Rattle.spec_desk.specs.Lived.{Lived, etags}
use Rattle.spec_desk.specs.Receipts.{Standing}

-- one of one caller: its value, the one moment of its clock if that stands still, and the size of the batches that it makes behind requests
pub record Alone : Type 0 where
  pub live : Lived
  pub moment : Option ℕ
  pub pump : ℕ

abbrev pub alone : Lived → Option ℕ → ℕ → Alone
alone live moment pump = record { live = live; moment = moment; pump = pump }

-- it has seen its value, and made the etags of it
abbrev pub stands_alone : Alone → Standing
stands_alone d = record { seen = d.live ∷ []; made = etags d.live; clock = d.moment; pump = d.pump }

abbrev pub alone_code : Coded Alone
alone_code = code_by (Lived × (Option ℕ × ℕ)) (coded× lived_code (coded× (coded_option coded_ℕ) coded_ℕ)) (λ d. (d.live, (d.moment, d.pump)))
    (λ p. record { live = p.0; moment = p.1.0; pump = p.1.1 }) (λ _. refl)
