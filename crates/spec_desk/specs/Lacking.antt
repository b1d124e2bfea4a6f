-- What may have happened if memory ran out over a request: no other change was made, and no other row stored or removed.
use Rattle.std.specs.Prelude.{◌≡◌, ◌≢◌, ◌⊎◌, ℕ, ◌+◌, ◌-◌, ◌≤◌, List, [], ◌∷◌, length, Option, None}
use Rattle.spec_server.specs.Requests.{Pump, Request, Tidy}
use Rattle.spec_server.specs.Machine.{course_of}
use Rattle.spec_server.specs.Replies.{Reply}
use Rattle.spec_desk.specs.Keepers.{MayGive}
use Rattle.spec_desk.specs.Lived.{Follows, Lived, Seen, etags}
use Rattle.spec_desk.specs.Stepped.{IsMadeInPart, IsStepAt, Stays}
use Rattle.spec_desk.specs.Receipts.{AllLink, IsTrueReceipt, Receipt, Standing, Waits, looks_of}

-- IN ONE HOLD

-- the request makes several changes, and only the first of them were made
pub record IsCutShort (clock : Option ℕ) (q : Request) (x y : Lived) : Type 0 where
  pub now : ℕ
  pub may : MayGive clock now
  pub several : 2 ≤ length (course_of x.world now q).changes
  pub part : IsMadeInPart (course_of x.world now q).changes x y

-- Memory ran out in a hold with a request, which found x and left y: the world and the rows of its keeper are as before, or the request was cut short.
pub record LacksAt (clock : Option ℕ) (q : Request) (x y : Lived) : Type 0 where
  pub made : Stays x y ⊎ IsCutShort clock q x y
  pub fronts : y.fronts ≡ x.fronts

-- it ran out in the last hold, or only look, of a thread that had seen these, and nothing was changed there
pub record StaysOnce (seen seen' : List Lived) : Type 0 where
  pub found : Lived
  pub left : Lived
  pub after : AllLink Follows seen found
  pub stays : Stays found left
  pub later : Follows found left
  pub now_seen : seen' ≡ left ∷ []

-- OF DESKS

-- one look of a desk that stood so
pub record LacksOnce (Link : Lived → Lived → Type 0) (x : Standing) (q : Request) (y : Standing) : Type 0 where
  pub found : Lived
  pub left : Lived
  pub after : AllLink Link x.seen found
  pub lacks : LacksAt x.clock q found left
  pub later : Follows found left
  pub now_seen : y.seen ≡ left ∷ []
  pub now_made : y.made ≡ x.made + (etags left - etags found)

-- what is done after a request: memory ran out in the batches, or in the Tidy that follows them
pub data StopsBatches (clock : Option ℕ) (pump : ℕ) (x y : Lived) : Type 0 where
  in_batch : LacksAt clock (Pump pump None) x y → StopsBatches clock pump x y
  in_tidy : (pumped : Reply) (between : Lived) → IsStepAt clock (Pump pump None) x pumped between → LacksAt clock Tidy between y → StopsBatches clock pump x y

-- a desk that stood so, after a request which left this value: it makes batches, and memory ran out there
pub record StopsCatchingUp (left : Lived) (x y : Standing) : Type 0 where
  pub end : Lived
  pub some : x.pump ≢ 0
  pub stops : StopsBatches x.clock x.pump left end
  pub later : Follows left end
  pub now_seen : y.seen ≡ end ∷ []
  pub now_made : y.made ≡ x.made + (etags end - etags left)

-- A REQUEST

-- Memory ran out in a look, or just before it. The looks before it are those of a query that waits, and their answers were stale.
pub record StopsInLook (Link : Lived → Lived → Type 0) (x : Standing) (q : Request) (y : Standing) : Type 0 where
  pub first : Lived
  pub earlier : List Seen
  pub before : Lived
  pub took : ℕ
  pub after : AllLink Link x.seen first
  pub waits : Waits Link x.clock q first earlier before took
  pub most : length earlier + 1 ≤ looks_of q
  pub found : Lived
  pub left : Lived
  pub link : Link before found
  pub lacks : LacksAt x.clock q found left
  pub later : Follows found left
  pub now_seen : y.seen ≡ left ∷ []
  pub now_made : y.made ≡ x.made + took + (etags left - etags found)

-- The request was answered, and its receipt is true; memory ran out while the indexes caught up behind it, and the reply is lost.
pub record StopsBehind (Link : Lived → Lived → Type 0) (x : Standing) (q : Request) (y : Standing) : Type 0 where
  pub first : Lived
  pub lost : Receipt
  pub left : Lived
  pub end : Lived
  pub took : ℕ
  pub after : AllLink Link x.seen first
  pub receipt : IsTrueReceipt Link x.clock q first lost left took
  pub some : x.pump ≢ 0
  pub stops : StopsBatches x.clock x.pump left end
  pub later : Follows left end
  pub now_seen : y.seen ≡ end ∷ []
  pub now_made : y.made ≡ x.made + took + (etags end - etags left)

-- a desk that stood so was asked, and ran out of memory
pub data IsUnanswered (Link : Lived → Lived → Type 0) (x : Standing) (q : Request) (y : Standing) : Type 0 where
  in_look : StopsInLook Link x q y → IsUnanswered Link x q y
  behind : StopsBehind Link x q y → IsUnanswered Link x q y
