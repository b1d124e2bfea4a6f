-- What a query does, by what is answered without a change.
use Rattle.std.proofs.Common.{◌≡◌, ℕ, Option, Some, IfSome, Result, Ok, Err, IfOk, ap, ◌∙◌, subst}
use Rattle.spec_index.specs.Optimiser.{Choice, Make, Shape, Use}
use Rattle.spec_index.specs.World.{World}
use Rattle.spec_server.specs.Asking.{Answered, MustMake, Ready}
use Rattle.spec_query.specs.Query as query
use Rattle.spec_server.specs.Courses.{Course, only_reply}
use Rattle.spec_server.specs.Indexing.{ask_course, use_or_make}
use Rattle.spec_server.specs.Replies.{Index, Reply}
use Rattle.raven_snapshot.specs.AnsweredView.{name_of_choice}
use Rattle.raven_world.specs.WorldView.{answer_view, made_view}
use Rattle.raven_world.specs.declared.world.Change.{Change}
use Rattle.raven_world.specs.declared.world.Made.{Made}
use Rattle.raven_world.specs.declared.world.WorldFault.{WorldFault}
use Rattle.raven_world.specs.declared.world.WorldFault.TheVariants.{Refused, NoMemory}

-- an index was picked, and its name is the reply
pub picks : (W : World) (now : ℕ) (choice : Choice) (reply : Reply) → Ready reply ≡ name_of_choice choice → only_reply reply ≡ use_or_make W now choice
picks W now (Use s) reply e = let same : reply ≡ Index s.name = cc in ap only_reply same
picks W now (Make shape) reply e = absurd cc

-- one of this shape has to be made
makes : (W : World) (now : ℕ) (choice : Choice) (shape : Shape) (course : Course) → MustMake shape ≡ name_of_choice choice → course ≡ use_or_make W now (Make shape) → course ≡ use_or_make W now choice
makes W now (Use s) shape course e is = absurd cc
makes W now (Make other) shape course e is = let same : shape ≡ other = cc in is ∙ ap (λ (x : Shape). use_or_make W now (Make x)) same

pub made_as : {T E : Type 0} (view : T → Course) (r : Result T E) (answer : Result Change WorldFault) (W : World) (now : ℕ) (choice : Choice) (shape : Shape) → MustMake shape ≡ name_of_choice choice
    → IfOk r (λ course. answer_view answer ≡ Some (view course)) → IfSome (answer_view answer) (λ course. course ≡ use_or_make W now (Make shape)) → IfOk r (λ course. view course ≡ use_or_make W now choice)
made_as view (Err fault) answer W now choice shape e told made = tt
made_as view (Ok t) answer W now choice shape e told made =
    makes W now choice shape (view t) e (subst (λ (o : Option Course). IfSome o (λ course. course ≡ use_or_make W now (Make shape))) told made)

pub ruleset picking = (picks)

-- a reply, and nothing is changed
pub replies : (W : World) (now : ℕ) (ask : query.Ask) (answered : Answered) (reply : Reply) → Ready reply ≡ answered → only_reply reply ≡ ask_course W now ask answered
replies W now ask answered reply e = ap (ask_course W now ask) e

-- or an index is made first
pub makes_first : (W : World) (now : ℕ) (ask : query.Ask) (answered : Answered) (shape : Shape) (course : Course) → MustMake shape ≡ answered → course ≡ ask_course W now ask (MustMake shape)
    → course ≡ ask_course W now ask answered
makes_first W now ask answered shape course e is = is ∙ ap (ask_course W now ask) e

pub ruleset asking = (replies, makes_first)

-- if no index was made, it is refused or memory ran out, whatever is told of what is made
pub not_made : (told : Made → Reply) (fault : WorldFault) (P : Course → Type 0) → IfSome (made_view told (Err fault)) P → IfSome (answer_view (Err fault)) P
not_made told (Refused reply) P h = h
not_made told NoMemory P h = h
