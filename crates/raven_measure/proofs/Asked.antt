-- The query for all rows of the index.
use Rattle.std.proofs.Common.{◌≡◌, refl, subst, sym}
use Rattle.spec_measure.specs.Requests.{rows_ask}
use Rattle.spec_query.specs.Query as query
use Rattle.spec_server.specs.Requests.{Ask}
use Rattle.raven_measure.specs.Defining.{MakesNothing}

whole : MakesNothing (Ask rows_ask)
whole = record { formed = refl; unchanged = λ W now. refl }

pub makes_nothing : (ask : query.Ask) → ask ≡ rows_ask → MakesNothing (Ask ask)
makes_nothing ask is = subst (λ (a : query.Ask). MakesNothing (Ask a)) (sym is) whole

pub ruleset asking = (makes_nothing)
