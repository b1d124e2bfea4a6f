-- How a run ends.
use Rattle.std.specs.Prelude.{IsErrOf, OnOk}
use Rattle.std.proofs.Common.{◌≡◌, ◌≤◌, ◌⊎◌, inl, inr, ℕ, List, Option, Some, None, IfSome, [], length, Result, Ok, Err, refl, sym, subst}
use Rattle.raven_ports.specs.Faults.{Rose}
use Rattle.raven_ports.specs.States.{KeeperState}
use Rattle.raven_ports.specs.Taken.{TakesMore, TakesWithin}
use Rattle.raven_ports.specs.declared.ports.SinkFault.{SinkFault}
use Rattle.raven_ports.specs.declared.ports.SinkFault.TheVariants as sink
use Rattle.spec_server.specs.Lines.{max_input}
use Rattle.spec_server.specs.Options.{setting_with}
use Rattle.doc_keeper.specs.declared.loading.LoadFault.{LoadFault}
use Rattle.doc_keeper.specs.declared.loading.LoadFault.TheVariants as load
use Rattle.spec_desk.specs.Keepers.{Keeps}
use Rattle.spec_desk.specs.Lived.{Lived, machine_in, machine_with}
use Rattle.raven_desk.specs.Openings.{Loads, NamesBadRow, Opens}
use Rattle.raven_run.specs.declared.run_end.RunEnd.{RunEnd}
use Rattle.raven_run.specs.declared.run_end.RunEnd.TheVariants as is
use Rattle.raven_run.specs.Answers.{Answers, ServerState, StopsBefore, StopsIn, StopsShort, state_in, state_of}
use Rattle.raven_run.specs.Ends.{ComesAfterReading, IsUnread, RunsRightly, end_answered, end_unopened}
use Rattle.raven_run.specs.Holding.{NamedBatch, all_held}
use Rattle.raven_run.specs.Input.{IsRead}
use Rattle.raven_run.specs.Runs.{FailsToLoad, Finished, HasNoFault, HoldsSame, IsKeptBad, IsValid, LinesRan, Run, Stopped, StoppedEarly}
use Rattle.raven_run.proofs.Completes.{not_bad, not_more}
use Rattle.raven_run.proofs.Truth.{runs-truly}

-- WHAT EACH END NEEDS

abbrev Read : Run → Type 0
Read run = IsRead run.before.input.left run.after.input.left

abbrev Short : Run → Type 0
Short run = StoppedEarly run ⊎ Stopped run

abbrev Cause : Run → RunEnd → Type 0
Cause run is.Done = Read run × Finished run
Cause run is.ReadFault = Rose run.before.input.faults run.after.input.faults × TakesWithin max_input run.before.input.left run.after.input.left
Cause run is.WriteFault = Rose run.before.output.faults run.after.output.faults × Read run × Stopped run
Cause run is.KeptFault = FailsToLoad run.before.keeper run.after.keeper × Read run
Cause run (is.KeptBad etag) = IsKeptBad run etag × Read run
Cause run is.InputTooLarge = TakesMore max_input run.before.input.left run.after.input.left
Cause run is.NoMemory = HoldsSame run ⊎ Short run

done_of : (run : Run) (e : RunEnd) → Cause run e → e ≡ is.Done → Finished run
done_of run is.Done c h = c.1
done_of run other c h = absurd cc

read_fault_of : (run : Run) (e : RunEnd) → Cause run e → e ≡ is.ReadFault → Rose run.before.input.faults run.after.input.faults
read_fault_of run is.ReadFault c h = c.0
read_fault_of run other c h = absurd cc

write_fault_of : (run : Run) (e : RunEnd) → Cause run e → e ≡ is.WriteFault → Rose run.before.output.faults run.after.output.faults
write_fault_of run is.WriteFault c h = c.0
write_fault_of run other c h = absurd cc

kept_fault_of : (run : Run) (e : RunEnd) → Cause run e → e ≡ is.KeptFault → FailsToLoad run.before.keeper run.after.keeper
kept_fault_of run is.KeptFault c h = c.0
kept_fault_of run other c h = absurd cc

kept_bad_of : (run : Run) (e : RunEnd) → Cause run e → (etag : ℕ) → e ≡ is.KeptBad etag → IsKeptBad run etag
kept_bad_of run (is.KeptBad found) c etag h = let same : found ≡ etag = cc in subst (IsKeptBad run) same c.0
kept_bad_of run other c etag h = absurd cc

read_of : (run : Run) (e : RunEnd) → Cause run e → ComesAfterReading e → Read run
read_of run is.Done c h = c.0
read_of run is.WriteFault c h = c.1
read_of run is.KeptFault c h = c.1
read_of run (is.KeptBad etag) c h = c.1
read_of run is.ReadFault c h = absurd h
read_of run is.InputTooLarge c h = absurd h
read_of run is.NoMemory c h = absurd h

stopped_of : (run : Run) (e : RunEnd) → Cause run e → e ≡ is.WriteFault → Stopped run
stopped_of run is.WriteFault c h = c.2
stopped_of run other c h = absurd cc

memory_of : (run : Run) (e : RunEnd) → Cause run e → e ≡ is.NoMemory → HoldsSame run ⊎ Short run
memory_of run is.NoMemory c h = c
memory_of run other c h = absurd cc

too_large_of : (run : Run) (e : RunEnd) → Cause run e → e ≡ is.InputTooLarge → TakesMore max_input run.before.input.left run.after.input.left
too_large_of run is.InputTooLarge c h = c
too_large_of run other c h = absurd cc

within_of : (run : Run) (e : RunEnd) → Cause run e → e ≡ is.ReadFault → TakesWithin max_input run.before.input.left run.after.input.left
within_of run is.ReadFault c h = c.1
within_of run other c h = absurd cc

complete_of : (run : Run) (e : RunEnd) → Cause run e → IsValid run → HasNoFault run → (e ≡ is.Done) ⊎ (e ≡ is.NoMemory)
complete_of run is.Done c v n = inl refl
complete_of run is.ReadFault c v n = absurd (n.input c.0)
complete_of run is.WriteFault c v n = absurd (n.output c.0)
complete_of run is.KeptFault c v n = absurd (n.keeper c.0.rose)
complete_of run (is.KeptBad etag) c v n = absurd (not_bad run etag v c.0)
complete_of run is.InputTooLarge c v n = absurd (not_more run v c)
complete_of run is.NoMemory c v n = inr refl

ends_as : (run : Run) (e : RunEnd) → Cause run e → RunsRightly e run
ends_as run e c = record {
  done = done_of run e c;
  read_fault = read_fault_of run e c;
  write_fault = write_fault_of run e c;
  kept_fault = kept_fault_of run e c;
  kept_bad = kept_bad_of run e c;
  read = read_of run e c;
  stopped = stopped_of run e c;
  memory = memory_of run e c;
  too_large = too_large_of run e c;
  within = within_of run e c;
  complete = complete_of run e c;
  truth = runs-truly run;
}

-- THE INPUT WAS NOT READ

ends_early : (run : Run) → run.after.output.held ≡ run.before.output.held → run.after.keeper.held ≡ run.before.keeper.held → RunsRightly is.NoMemory run
ends_early run o k = ends_as run is.NoMemory (inl (o, k))

pub ends_unread : (run : Run) (e : RunEnd) → IsUnread e → (e ≡ is.InputTooLarge → TakesMore max_input run.before.input.left run.after.input.left)
    → (e ≡ is.ReadFault → TakesWithin max_input run.before.input.left run.after.input.left) → (e ≡ is.ReadFault → Rose run.before.input.faults run.after.input.faults)
    → run.after.output.held ≡ run.before.output.held → run.after.keeper.held ≡ run.before.keeper.held → RunsRightly e run
ends_unread run is.ReadFault u more within rose o k = ends_as run is.ReadFault (rose refl, within refl)
ends_unread run is.InputTooLarge u more within rose o k = ends_as run is.InputTooLarge (more refl)
ends_unread run is.NoMemory u more within rose o k = ends_early run o k
ends_unread run other u more within rose o k = absurd u

-- THE DATABASE WAS NOT OPENED

-- all was read, if the input reports what is left
was_read : (left after : Option (List ℕ)) (script : List ℕ) → IfSome left (λ l. (l ≡ script) × (after ≡ Some [])) → length script ≤ max_input → IsRead left after
was_read None after script h n = tt
was_read (Some l) after script h n = (h.1, subst (λ s. length s ≤ max_input) (sym h.0) n)

pub ends_unopened : (run : Run) (script : List ℕ) (fault : LoadFault) (e : RunEnd) → e ≡ end_unopened fault → IfSome run.before.input.left (λ l. (l ≡ script) × (run.after.input.left ≡ Some []))
    → length script ≤ max_input → run.after.output.held ≡ run.before.output.held → Loads run.before.keeper run.after.keeper
    → (fault ≡ load.Failed → Rose run.before.keeper.count run.after.keeper.count) → NamesBadRow (setting_with run.base) run.before.keeper.held fault → RunsRightly e run
ends_unopened run script fault e same all size o l rose bad = subst (λ (x : RunEnd). RunsRightly x run) (sym same) (by fault rose bad)
  where
    read : Read run
    read = was_read run.before.input.left run.after.input.left script all size

    by : (fault : LoadFault) → (fault ≡ load.Failed → Rose run.before.keeper.count run.after.keeper.count) → NamesBadRow (setting_with run.base) run.before.keeper.held fault → RunsRightly (end_unopened fault) run
    by load.Failed rose bad = ends_as run is.KeptFault (record { loads = l; rose = rose refl }, read)
    by (load.KeptBad etag) rose bad = ends_as run (is.KeptBad etag) (bad, read)
    by load.NoMemory rose bad = ends_early run o l.same

-- THE LINES WERE ANSWERED, or not all of them

-- the input was read, and x was opened
pub record HasBegun (run : Run) (script : List ℕ) (x : Lived) : Type 0 where
  pub opens : Opens (setting_with run.base) run.before.keeper.held (machine_in x)
  pub loads : Loads run.before.keeper x.keeper
  pub all : IfSome run.before.input.left (λ left. (left ≡ script) × (run.after.input.left ≡ Some []))
  pub size : length script ≤ max_input

pub has_begun : (run : Run) (items script : List ℕ) (x : Lived) → script ≡ items → IfSome run.before.input.left (λ left. (left ≡ items) × (run.after.input.left ≡ Some [])) → length items ≤ max_input
    → Opens (setting_with run.base) run.before.keeper.held (machine_in x) → Loads run.before.keeper x.keeper → HasBegun run script x
has_begun run items script x e all size o l = record {
  opens = o;
  loads = l;
  all = subst (λ (s : List ℕ). IfSome run.before.input.left (λ left. (left ≡ s) × (run.after.input.left ≡ Some []))) (sym e) all;
  size = subst (λ (s : List ℕ). length s ≤ max_input) (sym e) size;
}

-- y was left, and its keeper given back
pub record HasEnded (run : Run) (y : Lived) : Type 0 where
  pub keeper : run.after.keeper ≡ y.keeper
  pub keeps : Keeps run.after.keeper.held (machine_in y)

the_input : (left after : Option (List ℕ)) (script : List ℕ) → IfSome left (λ l. (l ≡ script) × (after ≡ Some [])) → IfSome left (λ l. l ≡ script)
the_input None after script h = tt
the_input (Some l) after script h = h.0

ran : (run : Run) (Happened : Option ℕ → List ℕ → ServerState → ServerState → Type 0) (script : List ℕ) (x y : Lived) (left : List NamedBatch) → HasBegun run script x → HasEnded run y
    → Happened run.clock script (state_in x [] run.before.output) (state_in y left run.after.output) → LinesRan run Happened
ran run Happened script x y left h k a = record {
  script = script;
  input = the_input run.before.input.left run.after.input.left script h.all;
  within = h.size;
  begun = x.keeper;
  first = machine_in x;
  last = machine_with y (all_held left);
  begins = record { opens = h.opens; loads = h.loads };
  happened = subst (λ (s : KeeperState). Happened run.clock script (state_in x [] run.before.output) (state_of (machine_with y (all_held left)) s run.after.output)) (sym k.keeper) a;
  holds = k.keeps.holds;
}

short : (run : Run) (script : List ℕ) (x y : Lived) (left : List NamedBatch) → HasBegun run script x → HasEnded run y → StopsShort run.clock script (state_in x [] run.before.output) (state_in y left run.after.output) → Short run
short run script x y left h k (inl a) = inl (ran run StopsBefore script x y left h k a)
short run script x y left h k (inr a) = inr (ran run StopsIn script x y left h k a)

pub ends_answered : (run : Run) (script : List ℕ) (x y : Lived) (left : List NamedBatch) (answered : Result (Unit {0}) SinkFault) (e : RunEnd) → e ≡ end_answered answered → HasBegun run script x → HasEnded run y
    → OnOk answered (Answers run.clock script (state_in x [] run.before.output) (state_in y left run.after.output))
    → (IsErrOf answered sink.Failed → StopsIn run.clock script (state_in x [] run.before.output) (state_in y left run.after.output))
    → (IsErrOf answered sink.NoMemory → StopsShort run.clock script (state_in x [] run.before.output) (state_in y left run.after.output))
    → (IsErrOf answered sink.Failed → Rose run.before.output.faults run.after.output.faults) → RunsRightly e run
ends_answered run script x y left answered e same h k all stops lacks rose = subst (λ (z : RunEnd). RunsRightly z run) (sym same) (by answered all stops lacks rose)
  where
    read : Read run
    read = was_read run.before.input.left run.after.input.left script h.all h.size

    by : (r : Result (Unit {0}) SinkFault) → OnOk r (Answers run.clock script (state_in x [] run.before.output) (state_in y left run.after.output))
        → (IsErrOf r sink.Failed → StopsIn run.clock script (state_in x [] run.before.output) (state_in y left run.after.output))
        → (IsErrOf r sink.NoMemory → StopsShort run.clock script (state_in x [] run.before.output) (state_in y left run.after.output))
        → (IsErrOf r sink.Failed → Rose run.before.output.faults run.after.output.faults) → RunsRightly (end_answered r) run
    by (Ok done) all stops lacks rose = ends_as run is.Done (read, ran run Answers script x y left h k all)
    by (Err sink.Failed) all stops lacks rose = ends_as run is.WriteFault (rose refl, read, ran run StopsIn script x y left h k (stops refl))
    by (Err sink.NoMemory) all stops lacks rose = ends_as run is.NoMemory (inr (short run script x y left h k (lacks refl)))

-- while nobody holds anything
pub ends_idle : (run : Run) (script : List ℕ) (x y : Lived) (idle left : List NamedBatch) (answered : Result (Unit {0}) SinkFault) (e : RunEnd) → idle ≡ [] → e ≡ end_answered answered → HasBegun run script x
    → HasEnded run y → OnOk answered (Answers run.clock script (state_in x idle run.before.output) (state_in y left run.after.output))
    → (IsErrOf answered sink.Failed → StopsIn run.clock script (state_in x idle run.before.output) (state_in y left run.after.output))
    → (IsErrOf answered sink.NoMemory → StopsShort run.clock script (state_in x idle run.before.output) (state_in y left run.after.output))
    → (IsErrOf answered sink.Failed → Rose run.before.output.faults run.after.output.faults) → RunsRightly e run
ends_idle run script x y idle left answered e is same h k all stops lacks rose =
    ends_answered run script x y left answered e same h k
    (subst (λ (w : List NamedBatch). OnOk answered (Answers run.clock script (state_in x w run.before.output) (state_in y left run.after.output))) is all)
    (λ f. subst (λ (w : List NamedBatch). StopsIn run.clock script (state_in x w run.before.output) (state_in y left run.after.output)) is (stops f))
    (λ f. subst (λ (w : List NamedBatch). StopsShort run.clock script (state_in x w run.before.output) (state_in y left run.after.output)) is (lacks f))
    rose
