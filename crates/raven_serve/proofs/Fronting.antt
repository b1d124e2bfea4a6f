-- Fronts.
use Rattle.std.proofs.Common.{◌≡◌, ◌-◌, ℕ, List, [], ◌∷◌, Bool, sym, ◌∙◌, subst, arith}
use Rattle.std.specs.Prelude.{Option}
use Rattle.raven_turn.specs.Passes.{Knowledge}
use Rattle.spec_desk.specs.Lived.{Follows, Lived, lived}
use Rattle.spec_desk.specs.Receipts.{AllLink}
use Rattle.spec_desk.proofs.Later.{Follows-itself}
use Rattle.turn_desk.specs.Seated.{Seated, seated}
use Rattle.serve_ports.specs.Doors.{Doorway}
use Rattle.raven_serve.specs.Chains.{Runs}
use Rattle.raven_serve.specs.Fronts.{AnswersSeated, EndsFront, IsFront, KeepsSeated, SamePass}

-- to end a front leaves a later value
pub one_less : (x y : Lived) → y ≡ lived x.world x.keeper (x.fronts - 1) → Follows x y
one_less x y e = subst (λ (z : Lived). Follows x z) (sym e) (let same = Follows-itself x in record { world = same.world; fronts = omega arith; faults = same.faults })

-- the calls of a front, and the hold that ends it
pub front_done : (clock : Option ℕ) (name : List ℕ) (pass mid pass' : Knowledge Lived) (begun last : Seated × List ℕ) (desk end_desk : Seated) (door left : Doorway) (failed : Bool) (u z : Lived)
    → desk ≡ seated pass clock → begun ≡ (desk, name) → end_desk ≡ last.0 → mid ≡ end_desk.pass → Runs AnswersSeated KeepsSeated begun door failed last left
    → AllLink Follows mid.seen u → Follows u z → EndsFront u z → pass'.seen ≡ z ∷ [] → IsFront clock name pass door failed left pass'
front_done clock name pass mid pass' begun last desk end_desk door left failed u z d b e m runs found later ended seen = record {
  last = last;
  runs = subst (λ (x : Seated). Runs AnswersSeated KeepsSeated (x, name) door failed last left) d (subst (λ (x : Seated × List ℕ). Runs AnswersSeated KeepsSeated x door failed last left) b runs);
  found = u;
  end = z;
  follows = subst (λ (x : Seated). AllLink Follows x.pass.seen u) e (subst (λ (k : Knowledge Lived). AllLink Follows k.seen u) m found);
  ended = ended;
  later = later;
  now_seen = seen;
}

-- and its pass is of the same turn, with the same shares
pub front_pass : (clock : Option ℕ) (name : List ℕ) (pass mid pass' : Knowledge Lived) (begun last : Seated × List ℕ) (desk end_desk : Seated) → desk ≡ seated pass clock → begun ≡ (desk, name) → end_desk ≡ last.0
    → mid ≡ end_desk.pass → KeepsSeated begun last → SamePass mid pass' → SamePass pass pass'
front_pass clock name pass mid pass' begun last desk end_desk d b e m kept held =
    let k : SamePass pass last.0.pass = subst (λ (x : Seated). SamePass x.pass last.0.pass) d (subst (λ (x : Seated × List ℕ). SamePass x.0.pass last.0.pass) b kept.same) in
    let h : SamePass last.0.pass pass' = subst (λ (x : Seated). SamePass x.pass pass') e (subst (λ (p : Knowledge Lived). SamePass p pass') m held) in
    (h.0 ∙ k.0, h.1 ∙ k.1)
