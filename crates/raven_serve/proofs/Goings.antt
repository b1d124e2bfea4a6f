-- What the desks of a door's calls have seen goes on.
use Rattle.std.proofs.Common.{◌≡◌, ℕ, zero, suc, List, [], ◌∷◌, refl, sym, ◌∙◌, subst}
use Rattle.spec_desk.specs.Lived.{Follows, Lived}
use Rattle.spec_desk.specs.Receipts.{AllLink, Onward}
use Rattle.spec_desk.specs.Receipts.Onward.{same, on}
use Rattle.spec_desk.proofs.Later.{Follows-itself}
use Rattle.spec_desk.proofs.Onwards.{head}
use Rattle.http_desk.specs.Keeping.{keeps-more, keeps-none}
use Rattle.turn_desk.specs.Seated.{Seated, stands_seated}
use Rattle.serve_ports.specs.Doors.{Doorway}
use Rattle.raven_serve.specs.Chains.{Chain}
use Rattle.raven_serve.specs.Fronts.{AnswersSeated, KeepsSeated, SamePass}

same_on : (x y z : Seated) → SamePass x.pass y.pass → SamePass y.pass z.pass → SamePass x.pass z.pass
same_on x y z a b = (b.0 ∙ a.0, b.1 ∙ a.1)

pub kept : (n : ℕ) (first : Seated × List ℕ) (before : Doorway) (last : Seated × List ℕ) (after : Doorway) → Chain AnswersSeated KeepsSeated n first before last after → KeepsSeated first last
kept zero first before last after c =
    subst (λ (d : Seated × List ℕ). KeepsSeated first d) (sym c.0) (keeps-none (λ (d e : Seated). SamePass d.pass e.pass) stands_seated (λ x. (refl, refl)) first)
kept (suc n) first before last after c =
    keeps-more (λ (d e : Seated). SamePass d.pass e.pass) stands_seated same_on first c.0 last (kept n first before c.0 c.1 c.2) c.3.serves.session.kept

single : (x : Lived) (a b : List Lived) → a ≡ x ∷ [] → Onward a b → (y : Lived) × (b ≡ y ∷ []) × Follows x y
single x a b e (same f) = (x, f ∙ e, Follows-itself x)
single x a b e (on y linked f) = (y, f, head Follows x y (subst (λ (l : List Lived). AllLink Follows l y) e linked))

pub goes_later : (n : ℕ) (first : Seated × List ℕ) (before : Doorway) (last : Seated × List ℕ) (after : Doorway) (x : Lived) → Chain AnswersSeated KeepsSeated n first before last after → first.0.pass.seen ≡ x ∷ []
    → (y : Lived) × (last.0.pass.seen ≡ y ∷ []) × Follows x y
goes_later n first before last after x c e = single x first.0.pass.seen last.0.pass.seen e (kept n first before last after c).goes_on.onward
