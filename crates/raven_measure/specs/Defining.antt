-- The request that defines the index.
use Rattle.std.specs.Prelude.{◌≡◌, ℕ, List, [], ◌∷◌, false, Option, Some, None, Result}
use Rattle.index_lang.specs.Says.{Says}
use Rattle.index_tree.specs.Definitions.{Definition}
use Rattle.index_tree.specs.Language.{LangRefusal}
use Rattle.raven_request.specs.RequestView.{request_view}
use Rattle.raven_request.specs.declared.request.Request.{Request}
use Rattle.spec_index.specs.World.{World}
use Rattle.spec_measure.specs.Requests.{definitions, index_texts}
use Rattle.spec_server.specs.Requests as is
use Rattle.spec_server.specs.Machine as is_machine
use Rattle.spec_server.specs.WellFormed.{IsWellFormed}

-- a well-formed request that changes nothing, whenever and wherever it is made
pub record MakesNothing (q : is.Request) : Type 0 where
  pub formed : IsWellFormed (is.Do q)
  pub unchanged : (W : World) (now : ℕ) → (is_machine.course_of W now q).changes ≡ []

-- a request that a measurement may make: it makes one change at most
abbrev pub MayBeMade : is.Request → Type 0
MayBeMade q = IsWellFormed (is.Do q) × (is.makes_several q ≡ false)

-- one request, or none
abbrev pub requests_view : Option Request → List is.Request
requests_view None = []
requests_view (Some request) = request_view request ∷ []

-- it asks for what the texts of the index say
pub record IsDefining (request : Option Request) : Type 0 where
  pub answer : Result Definition LangRefusal
  pub says : Says index_texts answer
  pub asks : requests_view request ≡ definitions answer
