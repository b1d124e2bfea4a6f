-- How a desk of one caller goes on.
use Rattle.std.proofs.Common.{◌≡◌, refl, subst, arith}
use Rattle.spec_server.specs.Requests.{Request}
use Rattle.spec_desk.specs.Lacking.{LacksAt, LacksOnce}
use Rattle.spec_desk.specs.Lived.{Follows, Lived}
use Rattle.spec_desk.specs.Receipts.{GoesOn}
use Rattle.spec_desk.proofs.Lacking.{lacks_none}
use Rattle.spec_desk.proofs.Later.{etags-more}
use Rattle.spec_desk.proofs.Onwards.{on_one, one}
use Rattle.raven_desk.specs.Desks.{Alone, alone, stands_alone}

-- its value goes on, and its clock and the size of its batches stay
pub goes_on : (inside d : Alone) (y : Lived) → inside ≡ d → Follows inside.live y → GoesOn (stands_alone d) (stands_alone (alone y inside.moment inside.pump))
goes_on inside d y e later = subst (λ (x : Alone). GoesOn (stands_alone x) (stands_alone (alone y inside.moment inside.pump))) e (record { onward = on_one inside.live y later; clock = refl; pump = refl })

abbrev pub Found : Lived → Lived → Type 0
Found x y = y ≡ x

-- memory ran out before anything was done
pub lacks_here : (d : Alone) (q : Request) → LacksOnce Found (stands_alone d) q (stands_alone d)
lacks_here d q = lacks_none Found (stands_alone d) q d.live (stands_alone d) (one Found d.live d.live refl) refl refl

-- or in the step
pub lacks_hold : (inside d : Alone) (q : Request) (y : Lived) → inside ≡ d → LacksAt inside.moment q inside.live y → Follows inside.live y
    → LacksOnce Found (stands_alone d) q (stands_alone (alone y inside.moment inside.pump))
lacks_hold inside d q y e lacks later = subst (λ (x : Alone). LacksOnce Found (stands_alone x) q (stands_alone (alone y inside.moment inside.pump))) e (record {
  found = inside.live;
  left = y;
  after = one Found inside.live inside.live refl;
  lacks = lacks;
  later = later;
  now_seen = refl;
  now_made = let more = etags-more inside.live y later in omega arith;
})
