-- Runs and scripts from a state that stored rows open.
use Rattle.std.proofs.Common.{List, ◌++◌, sym, ◌∙◌, subst}
use Rattle.spec_data.specs.Kept.{KeptRow}
use Rattle.spec_store.specs.Commit.{Setting}
use Rattle.spec_server.specs.Requests.{Event, AreFromClients}
use Rattle.spec_server.specs.Courses.{Machine}
use Rattle.spec_server.specs.Machine.{run}
use Rattle.spec_server.specs.Script.{Given, after_lines, events_of}
use Rattle.spec_server.specs.Sound.{IsMachine, Sound, LaterW}
use Rattle.raven_laws.specs.Claims.{FreshIsFromScratch, FreshIsExact, IdsAreSpelledAsStored}
use Rattle.raven_laws.specs.Flags.{FlagsAreExact}
use Rattle.raven_laws.specs.Opened.{OpenedFaithfully}
use Rattle.raven_laws.proofs.MachineLemmas.{clients-append, run-Steps, run-append}
use Rattle.raven_laws.proofs.MatchLemmas.{Sound-exact}
use Rattle.raven_laws.proofs.AnswerLemmas.{Sound-fresh, Sound-ids}
use Rattle.raven_laws.proofs.FlagLemmas.{Sound-flags}
use Rattle.raven_laws.proofs.ScriptLemmas.{lines-run, lines-append, lines-clients}
use Rattle.raven_laws.proofs.OpenLemmas.{opened_from-IsMachine}

-- FROM ANY SOUND STATE

pub go-IsMachine : (M : Machine) (es : List Event) → IsMachine M → AreFromClients es → IsMachine (run es M)
go-IsMachine M es i from = (run-Steps es M from i).machine

pub go-LaterW : (M : Machine) (es : List Event) → IsMachine M → AreFromClients es → LaterW M.world (run es M).world
go-LaterW M es i from = (run-Steps es M from i).later

pub go-on : (M : Machine) (es more : List Event) → IsMachine M → AreFromClients (es ++ more) → LaterW (run es M).world (run (es ++ more) M).world
go-on M es more i from =
    let both = clients-append es more from in
    subst (λ (N : Machine). LaterW (run es M).world N.world) (sym (run-append es more M)) (go-LaterW (run es M) more (go-IsMachine M es i both.0) both.1)

go-lines : (M : Machine) (all : List Given) → IsMachine M → AreFromClients (events_of all) → IsMachine (after_lines all M)
go-lines M all i from = subst IsMachine (sym (lines-run all M)) (go-IsMachine M (events_of all) i from)

-- FROM STORED ROWS

pub kept-Sound : (setting : Setting) (held : List KeptRow) (M : Machine) (es : List Event) → OpenedFaithfully setting held M → AreFromClients es → Sound (run es M).world
kept-Sound setting held M es h from = (go-IsMachine M es (opened_from-IsMachine setting held M h) from).world

pub kept-LaterW : (setting : Setting) (held : List KeptRow) (M : Machine) (es more : List Event) → OpenedFaithfully setting held M → AreFromClients (es ++ more)
    → LaterW (run es M).world (run (es ++ more) M).world
kept-LaterW setting held M es more h from = go-on M es more (opened_from-IsMachine setting held M h) from

pub kept-fresh : (setting : Setting) (held : List KeptRow) (M : Machine) (es : List Event) → OpenedFaithfully setting held M → AreFromClients es → FreshIsFromScratch (run es M)
kept-fresh setting held M es h from = Sound-fresh (run es M) (kept-Sound setting held M es h from)

pub kept-exact : (setting : Setting) (held : List KeptRow) (M : Machine) (es : List Event) → OpenedFaithfully setting held M → AreFromClients es → FreshIsExact (run es M)
kept-exact setting held M es h from = Sound-exact (run es M) (kept-Sound setting held M es h from)

pub kept-flags : (setting : Setting) (held : List KeptRow) (M : Machine) (es : List Event) → OpenedFaithfully setting held M → AreFromClients es → FlagsAreExact (run es M)
kept-flags setting held M es h from = Sound-flags (run es M) (kept-Sound setting held M es h from)

pub kept-ids : (setting : Setting) (held : List KeptRow) (M : Machine) (es : List Event) → OpenedFaithfully setting held M → AreFromClients es → IdsAreSpelledAsStored (run es M)
kept-ids setting held M es h from = Sound-ids (run es M) (kept-Sound setting held M es h from)

-- SCRIPTS FROM STORED ROWS

lines-IsMachine : (setting : Setting) (held : List KeptRow) (M : Machine) (all : List Given) → OpenedFaithfully setting held M → AreFromClients (events_of all) → IsMachine (after_lines all M)
lines-IsMachine setting held M all h from = go-lines M all (opened_from-IsMachine setting held M h) from

pub lines-Sound : (setting : Setting) (held : List KeptRow) (M : Machine) (all : List Given) → OpenedFaithfully setting held M → AreFromClients (events_of all) → Sound (after_lines all M).world
lines-Sound setting held M all h from = (lines-IsMachine setting held M all h from).world

pub lines-LaterW : (setting : Setting) (held : List KeptRow) (M : Machine) (all more : List Given) → OpenedFaithfully setting held M → AreFromClients (events_of (all ++ more))
    → LaterW (after_lines all M).world (after_lines (all ++ more) M).world
lines-LaterW setting held M all more h from =
    let N = after_lines all M in
    let both = lines-clients all more from in
    subst (λ (P : Machine). LaterW N.world P.world) (sym (lines-append all more M ∙ lines-run more N)) (go-LaterW N (events_of more) (lines-IsMachine setting held M all h both.0) both.1)

pub lines-fresh : (setting : Setting) (held : List KeptRow) (M : Machine) (all : List Given) → OpenedFaithfully setting held M → AreFromClients (events_of all) → FreshIsFromScratch (after_lines all M)
lines-fresh setting held M all h from = Sound-fresh (after_lines all M) (lines-Sound setting held M all h from)

pub lines-exact : (setting : Setting) (held : List KeptRow) (M : Machine) (all : List Given) → OpenedFaithfully setting held M → AreFromClients (events_of all) → FreshIsExact (after_lines all M)
lines-exact setting held M all h from = Sound-exact (after_lines all M) (lines-Sound setting held M all h from)

pub lines-flags : (setting : Setting) (held : List KeptRow) (M : Machine) (all : List Given) → OpenedFaithfully setting held M → AreFromClients (events_of all) → FlagsAreExact (after_lines all M)
lines-flags setting held M all h from = Sound-flags (after_lines all M) (lines-Sound setting held M all h from)

pub lines-ids : (setting : Setting) (held : List KeptRow) (M : Machine) (all : List Given) → OpenedFaithfully setting held M → AreFromClients (events_of all) → IdsAreSpelledAsStored (after_lines all M)
lines-ids setting held M all h from = Sound-ids (after_lines all M) (lines-Sound setting held M all h from)
