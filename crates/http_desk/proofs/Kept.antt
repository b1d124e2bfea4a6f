-- What holds of a desk with the name of its database, which stays.
use Rattle.std.proofs.Common.{◌≡◌, ℕ, List, refl, subst}
use Rattle.spec_desk.specs.Receipts.{GoesOn, Standing}
use Rattle.http_desk.specs.Answers.{Keeps}

pub keeps-here : {D : Type 0} (Same : D → D → Type 0) (stands : D → Standing) (a : D × List ℕ) (x y : D) (name : List ℕ) → (x, name) ≡ a → Same x y → GoesOn (stands x) (stands y)
    → Keeps Same stands a (y, name)
keeps-here {D = D} Same stands a x y name e s goes_on =
    subst (λ (z : D × List ℕ). Keeps Same stands z (y, name)) e (record { same = s; goes_on = goes_on; name = refl })
