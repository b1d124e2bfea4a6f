-- What is true of all that a run answered: the laws of runs hold of each state that its lines reached.
use Rattle.std.specs.Prelude.{◌≡◌, ℕ, ◌≤◌, List, [], ◌∷◌, ◌++◌, length}
use Rattle.spec_store.specs.Commit.{Setting}
use Rattle.spec_server.specs.Requests.{Keeping, Line, Publish, Read}
use Rattle.spec_server.specs.Courses.{Machine}
use Rattle.spec_server.specs.Machine.{step}
use Rattle.spec_server.specs.Options.{setting_with}
use Rattle.spec_server.specs.Script.{Given, after_lines}
use Rattle.spec_server.specs.Sound.{IsMachine, LaterW}
use Rattle.raven_laws.specs.Claims.{FreshIsExact, FreshIsFromScratch, IdsAreSpelledAsStored}
use Rattle.raven_laws.specs.Flags.{FlagsAreExact}
use Rattle.raven_laws.specs.Served.{ServedStays}
use Rattle.raven_laws.specs.Workers.{IsPublishAnswer, IsReadAnswer}
use Rattle.raven_reopening.specs.Reopened.{OpensAgain}
use Rattle.raven_run.specs.Runs.{Finished, Run, Stopped, StoppedEarly}

-- In this state whatever is asked is answered truly.
pub record AnswersTruly (M : Machine) : Type 0 where
  -- the state is sound
  pub sound : IsMachine M
  -- each flag is exact, and each question about an index shows one
  pub flags : FlagsAreExact M
  -- an index that is not stale answers what mapping and grouping all documents from scratch would answer
  pub fresh : FreshIsFromScratch M
  -- and that is exactly the documents that match
  pub exact : FreshIsExact M
  -- ids are spelled as they are stored
  pub ids : IdsAreSpelledAsStored M
  -- the index that serves a name goes on to serve it, whatever line comes, unless it is removed, retired, or the name is switched to a fresh replacement
  pub served : (k : Keeping) (now : ℕ) (line : Line) → ServedStays M k now line
  -- what a worker reads is the next batch of the index, and it holds that
  pub reads : (k : Keeping) (now worker max : ℕ) (name : List ℕ) → IsReadAnswer M worker max name (step M k now (Read worker max name))
  -- what a worker publishes is the batch that it holds, unless the index is gone or as far already or tombstones past the batch were cleaned, and then
  -- it holds nothing
  pub publishes : (k : Keeping) (now worker : ℕ) → IsPublishAnswer M worker (step M k now (Publish worker))

-- The lines from the state `first` on, cut in two: the state after the earlier lines and before the later ones.
pub record IsTrueBetween (setting : Setting) (first : Machine) (earlier later : List Given) : Type 0 where
  pub truly : AnswersTruly (after_lines earlier first)
  -- it is later than each state before it
  pub since : (before between : List Given) → earlier ≡ before ++ between → LaterW (after_lines before first).world (after_lines earlier first).world
  -- and the last state is later than it
  pub onward : LaterW (after_lines earlier first).world (after_lines (earlier ++ later) first).world
  -- the rows of its store open the same database again
  pub again : OpensAgain setting (after_lines earlier first).world

-- so it is wherever these lines are cut
abbrev pub AreTrue : Setting → Machine → List Given → Type 0
AreTrue setting first lines = (earlier later : List Given) → lines ≡ earlier ++ later → IsTrueBetween setting first earlier later

-- It is so between these lines, or between them and a TIDY after them, and they lead to this state.
pub record LeadsTruly (setting : Setting) (first : Machine) (done : List Given) (last : Machine) : Type 0 where
  pub more : List Given
  pub one : length more ≤ 1
  pub left : last ≡ after_lines (done ++ more) first
  pub truly : AreTrue setting first (done ++ more)

-- So it is of the lines that were answered in a run, from the database that was opened on, in whichever way the run came to its end.
pub record RunsTruly (run : Run) : Type 0 where
  pub finished : (ran : Finished run) → AreTrue (setting_with run.base) ran.first ran.happened.all
  pub stopped : (ran : Stopped run) → AreTrue (setting_with run.base) ran.first (ran.happened.done ++ ran.happened.line ∷ [])
  pub stopped_early : (ran : StoppedEarly run) → AreTrue (setting_with run.base) ran.first ran.happened.done
  -- and so it is of the state that was left, also if a TIDY was cut
  pub cut : (ran : StoppedEarly run) → LeadsTruly (setting_with run.base) ran.first ran.happened.done ran.last
