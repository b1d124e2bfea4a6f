-- A script is a run.
use Rattle.std.proofs.Common.{◌≡◌, List, [], ◌∷◌, ◌++◌, Some, None, Ok, Err, refl, sym, ◌∙◌, subst}
use Rattle.std.proofs.lemmas.List.Elements.{filter_map-append}
use Rattle.std.specs.List.{cons_option}
use Rattle.spec_store.specs.Commit.{Setting}
use Rattle.spec_server.specs.Requests.{Event, AreFromClients}
use Rattle.spec_server.specs.Courses.{Machine}
use Rattle.spec_server.specs.Machine.{start, run}
use Rattle.spec_server.specs.Sound.{IsMachine, Sound, LaterW}
use Rattle.spec_server.specs.Words.{LineRead}
use Rattle.spec_server.specs.Script.{Circumstance, Given, event_of, left_by, after_line, after_lines, events_of}
use Rattle.raven_laws.specs.Claims.{FreshIsFromScratch, FreshIsExact, IdsAreSpelledAsStored}
use Rattle.raven_laws.specs.Flags.{FlagsAreExact}
use Rattle.raven_laws.proofs.MachineLemmas.{clients-append, run-IsMachine, run-Steps}
use Rattle.raven_laws.proofs.MatchLemmas.{Sound-exact}
use Rattle.raven_laws.proofs.AnswerLemmas.{Sound-fresh, Sound-ids}
use Rattle.raven_laws.proofs.FlagLemmas.{Sound-flags}

-- a line makes one event or none
one_line : (c : Circumstance) (r : LineRead) (events : List Event) (M : Machine) → run (cons_option (event_of c r) events) M ≡ run events (left_by M c r)
one_line c (Err refusal) events M = refl
one_line c (Ok None) events M = refl
one_line c (Ok (Some line)) events M = refl

pub lines-run : (all : List Given) (M : Machine) → after_lines all M ≡ run (events_of all) M
lines-run [] M = refl
lines-run (g ∷ more) M = lines-run more (after_line g M) ∙ sym (one_line g.circumstance g.read (events_of more) M)

pub lines-append : (all more : List Given) (M : Machine) → after_lines (all ++ more) M ≡ after_lines more (after_lines all M)
lines-append [] more M = refl
lines-append (g ∷ all) more M = lines-append all more (after_line g M)

-- of lines from clients, the first ones are from clients, and so are those after them
pub lines-clients : (all more : List Given) → AreFromClients (events_of (all ++ more)) → AreFromClients (events_of all) × AreFromClients (events_of more)
lines-clients all more from =
    clients-append (events_of all) (events_of more) (subst AreFromClients (filter_map-append (λ (g : Given). event_of g.circumstance g.read) all more) from)

lines-IsMachine : (setting : Setting) (all : List Given) → AreFromClients (events_of all) → IsMachine (after_lines all (start setting))
lines-IsMachine setting all from = subst IsMachine (sym (lines-run all (start setting))) (run-IsMachine setting (events_of all) from)

pub lines-Sound : (setting : Setting) (all : List Given) → AreFromClients (events_of all) → Sound (after_lines all (start setting)).world
lines-Sound setting all from = let m = lines-IsMachine setting all from in m.world

pub lines-LaterW : (setting : Setting) (all more : List Given) → AreFromClients (events_of (all ++ more))
    → LaterW (after_lines all (start setting)).world (after_lines (all ++ more) (start setting)).world
lines-LaterW setting all more from =
    let both = lines-clients all more from in
    let m = run-Steps (events_of more) (after_lines all (start setting)) both.1 (lines-IsMachine setting all both.0) in
    subst (λ (N : Machine). LaterW (after_lines all (start setting)).world N.world) (sym (lines-append all more (start setting) ∙ lines-run more (after_lines all (start setting)))) m.later

pub lines-fresh : (setting : Setting) (all : List Given) → AreFromClients (events_of all) → FreshIsFromScratch (after_lines all (start setting))
lines-fresh setting all from = Sound-fresh (after_lines all (start setting)) (lines-Sound setting all from)

pub lines-exact : (setting : Setting) (all : List Given) → AreFromClients (events_of all) → FreshIsExact (after_lines all (start setting))
lines-exact setting all from = Sound-exact (after_lines all (start setting)) (lines-Sound setting all from)

pub lines-flags : (setting : Setting) (all : List Given) → AreFromClients (events_of all) → FlagsAreExact (after_lines all (start setting))
lines-flags setting all from = Sound-flags (after_lines all (start setting)) (lines-Sound setting all from)

pub lines-ids : (setting : Setting) (all : List Given) → AreFromClients (events_of all) → IdsAreSpelledAsStored (after_lines all (start setting))
lines-ids setting all from = Sound-ids (after_lines all (start setting)) (lines-Sound setting all from)
