-- A pump of one index, and one of each.
use Rattle.std.proofs.Common.{◌≡◌, ℕ, List, [], Some, None, Result, sym, subst}
use Rattle.spec_server.specs.Words.{argument_and_rest}
use Rattle.spec_server.specs.Reading.{pump_of, pump_read}
use Rattle.raven_request.specs.RequestView.{Reads, request_view}
use Rattle.raven_request.specs.declared.request.Request.{Request}
use Rattle.raven_request.specs.declared.request.ReadRefusal.{ReadRefusal}

pub pump-one : (r : Result Request ReadRefusal) (more max index : List ℕ) → argument_and_rest more ≡ Some (max, index) → Reads request_view r (pump_read [] (Some (max, index))) → Reads request_view r (pump_of more)
pump-one r more max index e h = subst (λ w. Reads request_view r (pump_read more w)) (sym e) h

pub pump-all : (r : Result Request ReadRefusal) (more : List ℕ) → argument_and_rest more ≡ None → Reads request_view r (pump_read more None) → Reads request_view r (pump_of more)
pump-all r more e h = subst (λ w. Reads request_view r (pump_read more w)) (sym e) h

pub ruleset pumps = (pump-one, pump-all)
