-- The receipts of a session over the desk of one caller.
use Rattle.std.specs.Prelude.{◌≡◌, ℕ, ◌+◌, ◌-◌, List, [], ◌∷◌, Bool, Option, IfSome}
use Rattle.raven_ports.specs.States.{SinkState, SourceState}
use Rattle.http_read.specs.declared.request.HttpRequest.{HttpRequest}
use Rattle.http_session.specs.Sessions.{Finishes}
use Rattle.http_session.specs.declared.why.Why.{Why}
use Rattle.spec_server.specs.Requests.{Request}
use Rattle.spec_desk.specs.Lived.{Follows, Lived, etags}
use Rattle.spec_desk.specs.Receipts.{CatchesUp, IsTrueReceipt, Receipt}
use Rattle.raven_desk.specs.Desks.{Alone, stands_alone}
use Rattle.http_desk.specs.Answers.{AnswersWith, Keeps}

-- where such a desk saw a value last, it finds this very value
abbrev pub Found : Lived → Lived → Type 0
Found x y = y ≡ x

-- with the name of its database
abbrev pub NamedDesk : Type 0
NamedDesk = Alone × List ℕ

-- it answers a request with these bytes
abbrev pub AnswersAlone : NamedDesk → HttpRequest → Bool → List ℕ → NamedDesk → Type 0
AnswersAlone = AnswersWith Found stands_alone

-- and this holds of it and of the name of its database also if memory ran out
abbrev pub KeepsAlone : NamedDesk → NamedDesk → Type 0
KeepsAlone = Keeps (λ d e. Unit {0}) stands_alone

-- a session over it finishes so, if the input reports its bytes
abbrev pub FinishesAlone : SourceState → NamedDesk → SinkState → Why → NamedDesk → SinkState → Type 0
FinishesAlone input first output why last output' = IfSome input.left (λ bytes. Finishes AnswersAlone KeepsAlone first bytes output.held why last output'.held)

-- what a desk was asked, and what it gave
pub record Given : Type 0 where
  pub request : Request
  pub receipt : Receipt

-- A request was asked on x and its receipt is true; then the indexes caught up, which left y. All this took n etags.
pub record Leads (clock : Option ℕ) (pump : ℕ) (x : Lived) (g : Given) (y : Lived) (n : ℕ) : Type 0 where
  pub left : Lived
  pub took : ℕ
  pub receipt : IsTrueReceipt Found clock g.request x g.receipt left took
  pub caught_up : CatchesUp clock pump left y
  pub later : Follows left y
  pub number : n ≡ took + (etags y - etags left)

-- These were asked one after another, the first on x, each on what the one before it left, and y is left. They took n etags together.
abbrev pub Chain : Option ℕ → ℕ → Lived → List Given → Lived → ℕ → Type 0
Chain clock pump x [] y n = (y ≡ x) × (n ≡ 0)
Chain clock pump x (g ∷ more) y n = (z : Lived) × (k m : ℕ) × Leads clock pump x g z k × Chain clock pump z more y m × (n ≡ k + m)

-- The receipts of a session are a chain from the value of its desk to the value that is left, and the etags that they took are all that were made.
pub record IsChained (first last : Alone) : Type 0 where
  pub given : List Given
  pub took : ℕ
  pub chain : Chain first.moment first.pump first.live given last.live took
  pub made : etags last.live ≡ etags first.live + took
  pub clock : last.moment ≡ first.moment
  pub pump : last.pump ≡ first.pump
