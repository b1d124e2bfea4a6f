-- What a desk gives for a request, and what it has then seen.
use Rattle.std.specs.Prelude.{◌≡◌, ℕ, ◌+◌, ◌-◌, ◌≤◌, ◌==◌, List, [], ◌∷◌, length, All, Bool, false, if◌then◌else◌, IsTrue, Option, None, MatchBool}
use Rattle.spec_query.specs.Query.{Ask as QueryAsk}
use Rattle.spec_server.specs.Requests.{Request, Ask, Pump, Tidy}
use Rattle.spec_server.specs.Replies.{Answer, Reply}
use Rattle.spec_server.specs.Sound.{Sound}
use Rattle.spec_desk.specs.Lived.{Follows, Lived, Seen, etags, seen_of}
use Rattle.spec_desk.specs.Stepped.{IsStepAt}

-- how often a query looks at most
abbrev pub looks_in : QueryAsk → ℕ
looks_in ask = if ask.waits then ask.looks else 1

-- and any request: all others look once
abbrev pub looks_of : Request → ℕ
looks_of (Ask ask) = looks_in ask
looks_of other = 1

-- it is the answer of an index that is stale
abbrev pub says_stale : Reply → Bool
says_stale (Answer a) = a.is_stale
says_stale other = false

-- a receipt: what the last look took away and the looks before it, and the reply
pub record Receipt : Type 0 where
  pub shot : Seen
  pub earlier : List Seen
  pub reply : Reply

-- LOOKS. `Link x y` says that a desk which saw x last may find y.

-- One look, where x was seen last: it found a value that is linked to x and whose world is sound, took this away, and the step there gave the reply and left y.
pub record Look (Link : Lived → Lived → Type 0) (clock : Option ℕ) (q : Request) (x found : Lived) (shot : Seen) (reply : Reply) (y : Lived) : Type 0 where
  pub link : Link x found
  pub sound : Sound found.world
  pub shown : shot ≡ seen_of found
  pub step : IsStepAt clock q found reply y
  pub later : Follows found y

-- From x, these looks lead to y and took n etags: each is linked to what the step at the look before left, and its answer was stale.
abbrev pub Waits : (Lived → Lived → Type 0) → Option ℕ → Request → Lived → List Seen → Lived → ℕ → Type 0
Waits Link clock q x [] y n = (y ≡ x) × (n ≡ 0)
Waits Link clock q x (s ∷ more) y n =
    (found : Lived) × (left : Lived) × (reply : Reply) × (m : ℕ) × Look Link clock q x found s reply left × IsTrue (says_stale reply)
    × Waits Link clock q left more y m × (n ≡ (etags left - etags found) + m)

-- A receipt of a request is true: its looks lead from x to y and took n etags; the last one gives the reply; there were no more than were asked, and
-- as many if the reply is stale.
pub record IsTrueReceipt (Link : Lived → Lived → Type 0) (clock : Option ℕ) (q : Request) (x : Lived) (r : Receipt) (y : Lived) (n : ℕ) : Type 0 where
  pub before : Lived
  pub found : Lived
  pub took : ℕ
  pub waits : Waits Link clock q x r.earlier before took
  pub last : Look Link clock q before found r.shot r.reply y
  pub number : n ≡ took + (etags y - etags found)
  pub most : length r.earlier + 1 ≤ looks_of q
  pub waited : IsTrue (says_stale r.reply) → length r.earlier + 1 ≡ looks_of q

-- AFTER A REQUEST

-- Each index catches up by one batch, and then a Tidy is made: what is fresh takes its name. Their replies are dropped, also that for a failed keeper.
pub record MakesBatches (clock : Option ℕ) (pump : ℕ) (x y : Lived) : Type 0 where
  pub pumped : Reply
  pub between : Lived
  pub batch : IsStepAt clock (Pump pump None) x pumped between
  pub tidied : Reply
  pub tidy : IsStepAt clock Tidy between tidied y

-- a desk whose batches have no rows leaves the value as it is
abbrev pub CatchesUp : Option ℕ → ℕ → Lived → Lived → Type 0
CatchesUp clock pump x y = MatchBool (pump == 0) (y ≡ x) (MakesBatches clock pump x y)

-- DESKS, which know the values that they have seen

-- How a desk stands: what it has seen, how many etags it made, the one moment of its clock if that stands still, and the size of the batches that it
-- makes after requests.
pub record Standing : Type 0 where
  pub seen : List Lived
  pub made : ℕ
  pub clock : Option ℕ
  pub pump : ℕ

abbrev pub AllLink : (Lived → Lived → Type 0) → List Lived → Lived → Type 0
AllLink Link seen x = All (λ s. Link s x) seen

-- it has seen the same as before, or exactly one value that follows all that it had seen
pub data Onward (before after : List Lived) : Type 0 where
  same : after ≡ before → Onward before after
  on : (x : Lived) → AllLink Follows before x → after ≡ x ∷ [] → Onward before after

-- whatever a desk that stood so does, it goes on; its clock and the size of its batches are the same
pub record GoesOn (x y : Standing) : Type 0 where
  pub onward : Onward x.seen y.seen
  pub clock : y.clock ≡ x.clock
  pub pump : y.pump ≡ x.pump

-- A desk that stood so was asked: the receipt is true, its looks begin with one that is linked to all that the desk had seen, and the desk has then seen
-- exactly what was left once the indexes caught up. The number of etags that the desk made rises by those of the receipt, and by those of what followed it.
pub record IsAsked (Link : Lived → Lived → Type 0) (x : Standing) (q : Request) (r : Receipt) (y : Standing) : Type 0 where
  pub first : Lived
  pub left : Lived
  pub end : Lived
  pub took : ℕ
  pub after : AllLink Link x.seen first
  pub receipt : IsTrueReceipt Link x.clock q first r left took
  pub caught_up : CatchesUp x.clock x.pump left end
  pub later : Follows left end
  pub now_seen : y.seen ≡ end ∷ []
  pub now_made : y.made ≡ x.made + took + (etags end - etags left)

-- one look of a desk that stood so, in a sound world
pub record LooksOnce (Link : Lived → Lived → Type 0) (x : Standing) (q : Request) (shot : Seen) (reply : Reply) (y : Standing) : Type 0 where
  pub found : Lived
  pub left : Lived
  pub after : AllLink Link x.seen found
  pub sound : Sound found.world
  pub shown : shot ≡ seen_of found
  pub step : IsStepAt x.clock q found reply left
  pub later : Follows found left
  pub now_seen : y.seen ≡ left ∷ []
  pub now_made : y.made ≡ x.made + (etags left - etags found)

-- what a desk that stood so does after a request, which left this value
pub record HasCaughtUp (left : Lived) (x y : Standing) : Type 0 where
  pub end : Lived
  pub caught_up : CatchesUp x.clock x.pump left end
  pub later : Follows left end
  pub now_seen : y.seen ≡ end ∷ []
  pub now_made : y.made ≡ x.made + (etags end - etags left)
