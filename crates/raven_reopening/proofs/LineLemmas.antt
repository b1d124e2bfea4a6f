-- What is stored after the lines of a script opens again.
use Rattle.std.proofs.Common.{◌<◌, List, [], ◌∷◌, Some, None, Ok, Err, sym, subst}
use Rattle.std.specs.List.{cons_option}
use Rattle.spec_data.specs.Kept.{KeptRow}
use Rattle.spec_data.specs.Moments.{moments_end}
use Rattle.spec_store.specs.Commit.{Setting}
use Rattle.spec_server.specs.Requests.{Event}
use Rattle.spec_server.specs.Courses.{Machine}
use Rattle.spec_server.specs.Words.{LineRead}
use Rattle.spec_server.specs.Script.{Circumstance, Given, after_lines, event_of, events_of}
use Rattle.raven_lines.specs.Lines.{AreLines}
use Rattle.index_lang.specs.Openings.{IsOpened}
use Rattle.raven_laws.proofs.ScriptLemmas.{lines-run}
use Rattle.raven_reading.proofs.LineLemmas.{CanBeKept, line-asked}
use Rattle.raven_reopening.specs.Form.{AreEvents, AreTimely}
use Rattle.raven_reopening.specs.Reopened.{OpensAgain}
use Rattle.raven_reopening.proofs.BackLemmas.{run-opens}

event-asked : (c : Circumstance) (r : LineRead) (es : List Event) → CanBeKept r → c.now < moments_end → AreEvents es → AreEvents (cons_option (event_of c r) es)
event-asked c (Err refusal) es l soon f = f
event-asked c (Ok None) es l soon f = f
event-asked c (Ok (Some line)) es l soon f = (record { moment = soon; valid = l }, f)

lines-asked : (lines : List Given) → AreLines lines → AreTimely lines → AreEvents (events_of lines)
lines-asked [] read t = tt
lines-asked (g ∷ more) read t = event-asked g.circumstance g.read (events_of more) (line-asked g.line g.read read.0) t.0 (lines-asked more read.1 t.1)

pub lines-open : (s : Setting) (held : List KeptRow) (M : Machine) (lines : List Given) → IsOpened s held (Ok M) → AreLines lines → AreTimely lines → OpensAgain s (after_lines lines M).world
lines-open s held M lines h read t =
    subst (λ (N : Machine). OpensAgain s N.world) (sym (lines-run lines M)) (run-opens s held M (events_of lines) h (lines-asked lines read t))
