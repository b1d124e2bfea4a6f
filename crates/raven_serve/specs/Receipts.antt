-- The receipts of sessions over a desk of a turn.
use Rattle.std.specs.Prelude.{◌≡◌, ℕ, ◌+◌, List, [], ◌∷◌, Option}
use Rattle.spec_desk.specs.Lived.{Follows, Lived}
use Rattle.spec_desk.specs.Receipts.{AllLink, IsTrueReceipt}
use Rattle.http_desk.specs.Chains.{Given}
use Rattle.turn_desk.specs.Seated.{Seated}

-- A desk that had seen these values was asked a request, and its receipt is true. Its looks begin with a value that follows all of these, and the desk
-- has then seen exactly what the last of them left. They took n etags.
pub record Leads (clock : Option ℕ) (seen : List Lived) (g : Given) (seen' : List Lived) (n : ℕ) : Type 0 where
  pub first : Lived
  pub left : Lived
  pub after : AllLink Follows seen first
  pub receipt : IsTrueReceipt Follows clock g.request first g.receipt left n
  pub now_seen : seen' ≡ left ∷ []

-- These were asked one after another. They took n etags together.
abbrev pub Receipts : Option ℕ → List Lived → List Given → List Lived → ℕ → Type 0
Receipts clock seen [] seen' n = (seen' ≡ seen) × (n ≡ 0)
Receipts clock seen (g ∷ more) seen' n = (mid : List Lived) × (k m : ℕ) × Leads clock seen g mid k × Receipts clock mid more seen' m × (n ≡ k + m)

-- the requests that reached a desk have true receipts, and the etags that these took are all that it made
pub record HasReceipts (first last : Seated) : Type 0 where
  pub given : List Given
  pub took : ℕ
  pub receipts : Receipts first.moment first.pass.seen given last.pass.seen took
  pub made : last.pass.made ≡ first.pass.made + took
  pub clock : last.moment ≡ first.moment
