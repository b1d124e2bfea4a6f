-- That it holds of no call and of several, if it does of each.
use Rattle.std.proofs.Common.{ℕ, List, refl, ◌∙◌}
use Rattle.spec_desk.specs.Receipts.{Standing}
use Rattle.spec_desk.proofs.Onwards.{goes_on_itself, goes_on_then}
use Rattle.http_desk.specs.Answers.{Keeps}

module _ {D : Type 0} (Same : D → D → Type 0) (stands : D → Standing) where
  pub keeps-none : ((x : D) → Same x x) → (a : D × List ℕ) → Keeps Same stands a a
  keeps-none here a = record { same = here a.0; goes_on = goes_on_itself (stands a.0); name = refl }

  pub keeps-more : ((x y z : D) → Same x y → Same y z → Same x z) → (a b c : D × List ℕ) → Keeps Same stands a b → Keeps Same stands b c → Keeps Same stands a c
  keeps-more on a b c h k = record { same = on a.0 b.0 c.0 h.same k.same; goes_on = goes_on_then (stands a.0) (stands b.0) (stands c.0) h.goes_on k.goes_on; name = k.name ∙ h.name }
