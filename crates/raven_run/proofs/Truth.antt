-- The laws of runs, of the lines that a run answered.
use Rattle.std.proofs.Common.{◌≡◌, ◌<◌, ℕ, List, [], ◌∷◌, ◌++◌, Bool, Option, Some, Ok, inl, inr, refl, ap, ◌∙◌, sym, subst, arith}
use Rattle.std.proofs.lemmas.List.{append-nil}
use Rattle.spec_data.specs.Kept.{KeptRow}
use Rattle.spec_data.specs.Moments.{moments_end}
use Rattle.spec_store.specs.Commit.{Setting}
use Rattle.spec_server.specs.Requests.{AreFromClients, Do, Request}
use Rattle.spec_server.specs.Courses.{Held, Machine, Replied}
use Rattle.spec_server.specs.Machine.{course_of}
use Rattle.spec_server.specs.Options.{setting_with}
use Rattle.spec_server.specs.Script.{Given, after_line, after_lines, events_of}
use Rattle.spec_server.specs.Sound.{IsMachine, LaterW}
use Rattle.index_lang.specs.Openings.{IsOpened}
use Rattle.raven_lines.specs.Lines.{AreLines, IsLine}
use Rattle.raven_ports.specs.States.{KeeperState}
use Rattle.raven_laws.specs.Opened.{OpenedFaithfully}
use Rattle.raven_laws.proofs.OpenLemmas.{opened_from-IsMachine}
use Rattle.raven_laws.proofs.OpenedRuns.{go-IsMachine, lines-LaterW, lines-exact, lines-flags, lines-fresh, lines-ids}
use Rattle.raven_laws.proofs.ServedLemmas.{step-served}
use Rattle.raven_laws.proofs.WorkerLemmas.{publish-answered, read-answered}
use Rattle.raven_laws.proofs.ScriptLemmas.{lines-clients, lines-run}
use Rattle.raven_reading.proofs.Clients.{lines-client}
use Rattle.raven_reading.proofs.TextLemmas.{opened-told}
use Rattle.raven_reopening.specs.Form.{AreTimely}
use Rattle.raven_reopening.proofs.LineLemmas.{lines-open}
use Rattle.spec_desk.proofs.Parts.{cut_step, cut_takes}
use Rattle.raven_run.specs.Answering.{IsCutAt, IsDoneInPart}
use Rattle.raven_run.specs.Devices.{AreGiven, IsGiven}
use Rattle.raven_run.specs.Runs.{Run}
use Rattle.raven_run.specs.Truth.{AnswersTruly, AreTrue, IsTrueBetween, LeadsTruly, RunsTruly}

-- WHAT IS KNOWN OF THE LINES THAT WERE GIVEN

-- they were read as they are, and each came at a moment before the end
record AreLawful (lines : List Given) : Type 0 where
  pub read : AreLines lines
  pub timely : AreTimely lines

given-line : (clock : Option ℕ) (before after : KeeperState) (M : Machine) (g : Given) → IsGiven clock before after M g → IsLine g.line g.read
given-line clock before after M g h = subst (λ (x : Given). IsLine x.line x.read) (sym h.is) h.means

given-timely : (clock : Option ℕ) (before after : KeeperState) (M : Machine) (g : Given) → IsGiven clock before after M g → g.circumstance.now < moments_end
given-timely clock before after M g h = subst (λ (x : Given). x.circumstance.now < moments_end) (sym h.is) h.moment.below

given-lawful : (clock : Option ℕ) (before after : KeeperState) (M : Machine) (lines : List Given) → AreGiven clock before after M lines → AreLawful lines
given-lawful clock before after M [] h = record { read = tt; timely = tt }
given-lawful clock before after M (g ∷ more) h =
    let rest = given-lawful clock h.0 after (after_line g M) more h.2 in
    record { read = (given-line clock before h.0 M g h.1, rest.read); timely = (given-timely clock before h.0 M g h.1, rest.timely) }

-- so it is of the first of them
earlier-lawful : (earlier later : List Given) → AreLawful (earlier ++ later) → AreLawful earlier
earlier-lawful [] later h = record { read = tt; timely = tt }
earlier-lawful (g ∷ earlier) later h =
    let rest = earlier-lawful earlier later (record { read = h.read.1; timely = h.timely.1 }) in
    record { read = (h.read.0, rest.read); timely = (h.timely.0, rest.timely) }

-- WHAT THE LAWS SAY OF THEM

answers-truly : (setting : Setting) (held : List KeptRow) (M : Machine) (lines : List Given) → OpenedFaithfully setting held M → AreFromClients (events_of lines) → AnswersTruly (after_lines lines M)
answers-truly setting held M lines told from = record {
  sound = sound;
  flags = lines-flags setting held M lines told from;
  fresh = lines-fresh setting held M lines told from;
  exact = lines-exact setting held M lines told from;
  ids = lines-ids setting held M lines told from;
  served = λ k now line. step-served (after_lines lines M) k now line sound;
  reads = λ k now worker max name. read-answered (after_lines lines M) k now worker max name;
  publishes = λ k now worker. publish-answered (after_lines lines M) k now worker;
}
  where
    sound : IsMachine (after_lines lines M)
    sound = subst IsMachine (sym (lines-run lines M)) (go-IsMachine M (events_of lines) (opened_from-IsMachine setting held M told) from)

true-between : (setting : Setting) (held : List KeptRow) (M : Machine) (earlier later : List Given) → IsOpened setting held (Ok M) → AreLawful (earlier ++ later)
    → IsTrueBetween setting M earlier later
true-between setting held M earlier later opened lawful =
    let told = opened-told setting held M opened in
    let all = lines-client (earlier ++ later) lawful.read in
    let both = lines-clients earlier later all in
    let before = earlier-lawful earlier later lawful in
    record {
      truly = answers-truly setting held M earlier told both.0;
      since = λ first between cut. subst (λ (ls : List Given). LaterW (after_lines first M).world (after_lines ls M).world) (sym cut)
          (lines-LaterW setting held M first between told (subst (λ (ls : List Given). AreFromClients (events_of ls)) cut both.0));
      onward = lines-LaterW setting held M earlier later told all;
      again = lines-open setting held M earlier opened before.read before.timely;
    }

lawful-true : (setting : Setting) (held : List KeptRow) (M : Machine) (lines : List Given) → IsOpened setting held (Ok M) → AreLawful lines → AreTrue setting M lines
lawful-true setting held M lines opened lawful earlier later cut = true-between setting held M earlier later opened (subst AreLawful cut lawful)

are-true : (setting : Setting) (held : List KeptRow) (M : Machine) (clock : Option ℕ) (before after : KeeperState) (lines : List Given) → IsOpened setting held (Ok M)
    → AreGiven clock before after M lines → AreTrue setting M lines
are-true setting held M clock before after lines opened given = lawful-true setting held M lines opened (given-lawful clock before after M lines given)

-- A REQUEST THAT WAS CUT, as if the keeper had not taken the rows of the next change

one-more : (done : List Given) (g : Given) → AreLawful done → IsLine g.line g.read → g.circumstance.now < moments_end → AreLawful (done ++ g ∷ [])
one-more [] g h is soon = record { read = (is, tt); timely = (soon, tt) }
one-more (l ∷ done) g h is soon =
    let rest = one-more done g (record { read = h.read.1; timely = h.timely.1 }) is soon in
    record { read = (h.read.0, rest.read); timely = (h.timely.0, rest.timely) }

one-after : (done : List Given) (g : Given) (M : Machine) → after_lines (done ++ g ∷ []) M ≡ after_line g (after_lines done M)
one-after [] g M = refl
one-after (l ∷ done) g M = one-after done g (after_line l M)

no-more : (done : List Given) (M : Machine) → after_lines (done ++ []) M ≡ after_lines done M
no-more done M = ap (λ (ls : List Given). after_lines ls M) (append-nil done)

module _ (M : Machine) (done : List Given) (line : List ℕ) (now : ℕ) (keeper : KeeperState) (N : Machine) (kept : Option (List KeptRow))
    (part : IsDoneInPart (λ (q : Request). IsLine line (Ok (Some (Do q)))) now (after_lines done M) keeper N kept) where
  abbrev between : Machine
  between = after_lines done M

  abbrev takes : List Bool
  takes = cut_takes (course_of between.world now part.request).changes between.world keeper N.world kept part.part

  abbrev as_given : Given
  as_given = record { line = line; read = Ok (Some (Do part.request)); circumstance = record { now = now; keeping = record { takes = takes; before = 0; after = 0 } } }

  cut-after : N ≡ after_line as_given between
  cut-after = ap (λ (h : List Held). (let x : Machine = record { world = N.world; held = h } in x)) part.workers
      ∙ sym (ap (λ (r : Replied). r.machine) (cut_step between now 0 0 part.request keeper N.world kept part.part))

leads-truly : (setting : Setting) (held : List KeptRow) (M : Machine) (done : List Given) (line : List ℕ) (now : ℕ) (keeper : KeeperState) (N : Machine) (kept : Option (List KeptRow))
    → IsOpened setting held (Ok M) → AreLawful done → now < moments_end → IsCutAt line now (after_lines done M) keeper N kept → LeadsTruly setting M done N
leads-truly setting held M done line now keeper N kept opened lawful soon (inl same) = record {
  more = [];
  one = omega arith;
  left = same.0 ∙ sym (no-more done M);
  truly = subst (AreTrue setting M) (sym (append-nil done)) (lawful-true setting held M done opened lawful);
}
leads-truly setting held M done line now keeper N kept opened lawful soon (inr part) =
    let g : Given = as_given M done line now keeper N kept part in
    record {
      more = g ∷ [];
      one = omega arith;
      left = cut-after M done line now keeper N kept part ∙ sym (one-after done g M);
      truly = lawful-true setting held M (done ++ g ∷ []) opened (one-more done g lawful part.asked soon);
    }

-- EVERY RUN

pub runs-truly : (run : Run) → RunsTruly run
runs-truly run = record {
  finished = λ ran. are-true (setting_with run.base) ran.begins.opens.rows ran.first run.clock ran.begun run.after.keeper ran.happened.all ran.begins.opens.opened ran.happened.given;
  stopped = λ ran. are-true (setting_with run.base) ran.begins.opens.rows ran.first run.clock ran.begun run.after.keeper (ran.happened.done ++ ran.happened.line ∷ []) ran.begins.opens.opened
      ran.happened.given;
  stopped_early = λ ran. are-true (setting_with run.base) ran.begins.opens.rows ran.first run.clock ran.begun ran.happened.reached ran.happened.done ran.begins.opens.opened ran.happened.given;
  cut = λ ran. leads-truly (setting_with run.base) ran.begins.opens.rows ran.first ran.happened.done ran.happened.line ran.happened.now ran.happened.reached ran.last run.after.keeper.held
      ran.begins.opens.opened (given-lawful run.clock ran.begun ran.happened.reached ran.first ran.happened.done ran.happened.given) ran.happened.moment.below ran.happened.cut;
}
