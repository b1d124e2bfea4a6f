-- Requests that are made one after another.
use Rattle.std.specs.Prelude.{◌≡◌, ℕ, ◌+◌, List, [], ◌∷◌, ◌++◌, Option, map, refl, replicate}
use Rattle.std.specs.Coded.{Coded, coded_ℕ, coded×, code_by}
use Rattle.spec_measure.specs.Requests.{Options, pumping, requests}
use Rattle.spec_measure.specs.Summary.{Timed, after_all, moving}
use Rattle.spec_server.specs.Requests.{Request}
use Rattle.spec_server.specs.Machine.{course_of}
use Rattle.spec_desk.specs.Codes.{lived_code}
use Rattle.spec_desk.specs.Keepers.{MayGive}
use Rattle.spec_desk.specs.Lived.{Follows, Lived, machine_in}
use Rattle.spec_desk.specs.Stepped.{All, Settles, Stopped}
use Rattle.raven_measure.specs.declared.making.Stop.{Stop}
use Rattle.raven_measure.specs.declared.making.Stop.TheVariants.{Kept}

-- a database, and how many batches have moved the etag of its index
pub record State : Type 0 where
  pub live : Lived
  pub moved : ℕ

abbrev pub state_code : Coded State
state_code = code_by (Lived × ℕ) (coded× lived_code coded_ℕ) (λ s. (s.live, s.moved)) (λ p. record { live = p.0; moved = p.1 }) (λ _. refl)

-- the clock may have given each of these moments
abbrev pub AreMoments : Option ℕ → List Timed → Type 0
AreMoments clock [] = Unit {0}
AreMoments clock (t ∷ ts) = MayGive clock t.now × AreMoments clock ts

-- all changes of each request were made, one request after another: the keeper took their rows
abbrev pub AreMade : Lived → List Timed → Lived → Type 0
AreMade x [] y = y ≡ x
AreMade x (t ∷ ts) y = (z : Lived) × Settles (course_of x.world t.now t.request).changes x All z × AreMade z ts y

-- these requests were made, one after another
pub record Does (clock : Option ℕ) (before : State) (requests : List Request) (after : State) : Type 0 where
  pub timed : List Timed
  pub asked : map (λ t. t.request) timed ≡ requests
  pub moments : AreMoments clock timed
  pub made : AreMade before.live timed after.live
  pub left : machine_in after.live ≡ after_all timed (machine_in before.live)
  pub moved : after.moved ≡ before.moved + moving timed (machine_in before.live)
  pub later : Follows before.live after.live

-- the keeper did not take the rows of this request
pub record IsNotTaken (clock : Option ℕ) (request : Request) (x y : Lived) : Type 0 where
  pub now : ℕ
  pub given : MayGive clock now
  pub faults : ℕ × ℕ
  pub settled : Settles (course_of x.world now request).changes x (Stopped faults.0 faults.1) y

-- Of these requests only the first were made, and the next was not: the keeper did not take its rows, or memory ran out. That left the database and
-- what the keeper holds as they were.
pub record Stops (clock : Option ℕ) (before : State) (requests : List Request) (after : State) (why : Stop) : Type 0 where
  pub done : List Request
  pub next : Request
  pub more : List Request
  pub split : requests ≡ done ++ next ∷ more
  pub reached : State
  pub does : Does clock before done reached
  pub world : after.live.world ≡ reached.live.world
  pub held : after.live.keeper.held ≡ reached.live.keeper.held
  pub cause : why ≡ Kept → IsNotTaken clock next reached.live after.live

-- ALL REQUESTS OF A MEASUREMENT

-- batches were made until one moved no etag
pub record CatchesUp (clock : Option ℕ) (o : Options) (before after : State) : Type 0 where
  pub more : ℕ
  pub between : State
  pub batches : Does clock before (replicate more (pumping o)) between
  pub last : Does clock between (pumping o ∷ []) after
  pub still : after.moved ≡ between.moved

-- of some batches only the first were made
pub record StopsCatchingUp (clock : Option ℕ) (o : Options) (before after : State) (why : Stop) : Type 0 where
  pub more : ℕ
  pub stops : Stops clock before (replicate more (pumping o)) after why

-- these requests were made, then those with all orders, and then batches until one moved no etag
pub record Measures (clock : Option ℕ) (o : Options) (first : List Request) (before after : State) : Type 0 where
  pub filled : State
  pub fills : Does clock before (first ++ requests o o.docs) filled
  pub catches : CatchesUp clock o filled after

-- the same requests, with so many batches at the end
abbrev pub with_batches : Options → List Request → ℕ → List Request
with_batches o first more = first ++ (requests o o.docs ++ replicate more (pumping o))

-- of these only the first were made
pub record StopsMeasuring (clock : Option ℕ) (o : Options) (first : List Request) (before after : State) (why : Stop) : Type 0 where
  pub more : ℕ
  pub stops : Stops clock before (with_batches o first more) after why
