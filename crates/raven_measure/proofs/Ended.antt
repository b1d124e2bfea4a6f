-- How a measurement ends.
use Rattle.std.proofs.Common.{◌≡◌, ◌<◌, ◌⊎◌, inl, inr, ℕ, List, [], Option, Some, Result, Ok, Err, refl, sym, ap, ◌∙◌, subst, arith}
use Rattle.spec_data.specs.Kept.{KeptRow}
use Rattle.spec_measure.specs.Summary.{printed_summary, summary_of}
use Rattle.spec_index.specs.World.{World}
use Rattle.spec_server.specs.Requests.{Request}
use Rattle.spec_server.specs.Courses.{Machine}
use Rattle.spec_server.specs.Machine.{machine_of}
use Rattle.spec_server.specs.Options.{setting_with}
use Rattle.spec_store.specs.Limits.{base_id}
use Rattle.spec_store.specs.Store.{last}
use Rattle.index_lang.specs.Openings.{IsOpened}
use Rattle.raven_ports.specs.Faults.{Rose}
use Rattle.raven_ports.specs.Reported.{appended}
use Rattle.raven_ports.specs.States.{KeeperState, SinkState}
use Rattle.raven_reading.proofs.Once.{held_once}
use Rattle.spec_desk.specs.Keepers.{Holds, Keeps}
use Rattle.spec_desk.specs.Lived.{machine_in}
use Rattle.raven_ports.specs.Given.{GivesPrefix}
use Rattle.raven_desk.specs.Openings.{IsBad, Loads, Opens}
use Rattle.raven_ports.proofs.Pieces.{appended-nil}
use Rattle.raven_request.specs.declared.request.Request as program
use Rattle.raven_measure.specs.Defining.{IsDefining, requests_view}
use Rattle.raven_measure.specs.Doing.{Measures, State, StopsMeasuring, with_batches}
use Rattle.raven_measure.specs.Ends.{IsUnmeasured, MeasuresRightly, StopsEarly, end_of_stop}
use Rattle.raven_measure.specs.Measures.{Begins, FailsLater, FailsToOpen, Finished, HasNoFault, HasRows, IsValid, Ran, RanShort, Run, Stopped}
use Rattle.raven_measure.specs.declared.making.Stop.{Stop}
use Rattle.raven_measure.specs.declared.making.Stop.TheVariants as stop
use Rattle.raven_measure.specs.declared.measuring.MeasureEnd.{MeasureEnd}
use Rattle.raven_measure.specs.declared.measuring.MeasureEnd.TheVariants as is
use Rattle.raven_measure.proofs.Settled.{has_failed, rose_later}

-- A VALID CALL IS DONE

same_machine : (M N : Machine) → ◌≡◌ {A = Result Machine ℕ} (Ok M) (Ok N) → M ≡ N
same_machine M N e = cc

not_bad : (run : Run) (etag : ℕ) → IsValid run → IsBad (setting_with base_id) run.before.keeper.held etag → ⊥
not_bad run etag v b =
    let bad = subst (λ (h : Option (List KeptRow)). IsBad (setting_with base_id) h etag) v.kept b in
    absurd (let once = held_once (setting_with base_id) v.rows (Ok v.machine) (Err etag) v.opens bad in cc)

-- what opens as one database opens as no other
opens_as : (rows : List KeptRow) (held : Option (List KeptRow)) (M N : Machine) → held ≡ Some rows → IsOpened (setting_with base_id) rows (Ok M) → Opens (setting_with base_id) held N → M ≡ N
opens_as rows held M N e o p =
    let q = subst (λ (h : Option (List KeptRow)). Opens (setting_with base_id) h N) e p in
    let opened = subst (λ rows. IsOpened (setting_with base_id) rows (Ok N)) (sym q.whole) q.opened in
    same_machine M N (held_once (setting_with base_id) rows (Ok M) (Ok N) o opened)

zero_or_above : (etag a b : ℕ) → a ≡ b → a ≡ 0 → b ≡ etag → 0 < etag → ⊥
zero_or_above etag a b e f g h = absurd (omega arith)

not_full : (run : Run) (etag : ℕ) → IsValid run → HasRows run.before.keeper etag → ⊥
not_full run etag v n =
    let e : v.machine ≡ n.machine = opens_as v.rows run.before.keeper.held v.machine n.machine v.kept v.opens n.opens in
    zero_or_above etag (last v.machine.world.store) (last n.machine.world.store) (ap (λ (M : Machine). last M.world.store) e) v.empty n.is n.above

-- WHAT EACH END NEEDS

abbrev Cause : Run → MeasureEnd → Type 0
Cause run is.Done = Finished run
Cause run is.WriteFault = Rose run.before.output.faults run.after.output.faults × Stopped run
Cause run is.KeptFault = FailsToOpen run ⊎ FailsLater run
Cause run (is.KeptBad etag) = IsBad (setting_with base_id) run.before.keeper.held etag
Cause run (is.NotEmpty last) = HasRows run.before.keeper last
Cause run is.NoMemory = StopsEarly is.NoMemory run

done_of : (run : Run) (e : MeasureEnd) → Cause run e → e ≡ is.Done → Finished run
done_of run is.Done c h = c
done_of run other c h = absurd cc

write_fault_of : (run : Run) (e : MeasureEnd) → Cause run e → e ≡ is.WriteFault → Rose run.before.output.faults run.after.output.faults
write_fault_of run is.WriteFault c h = c.0
write_fault_of run other c h = absurd cc

faults_rose : (run : Run) → FailsToOpen run ⊎ FailsLater run → Rose run.before.keeper.count run.after.keeper.count
faults_rose run (inl f) = f.fault
faults_rose run (inr f) =
    let s = f.short in
    let opened = s.begins.loads.later in
    let reached = s.does.later.faults in
    rose_later run.before.keeper.count s.reached.live.keeper.count run.after.keeper.count (omega arith)
    (subst (λ (k : KeeperState). Rose s.reached.live.keeper.count k.count) f.kept (has_failed run.clock s.reached.live f.last s.next f.fault))

kept_fault_of : (run : Run) (e : MeasureEnd) → Cause run e → e ≡ is.KeptFault → Rose run.before.keeper.count run.after.keeper.count
kept_fault_of run is.KeptFault c h = faults_rose run c
kept_fault_of run other c h = absurd cc

stopped_early_of : (run : Run) (e : MeasureEnd) → Cause run e → StopsEarly e run
stopped_early_of run is.Done c = tt
stopped_early_of run is.WriteFault c = tt
stopped_early_of run is.KeptFault c = c
stopped_early_of run (is.KeptBad etag) c = tt
stopped_early_of run (is.NotEmpty last) c = tt
stopped_early_of run is.NoMemory c = c

kept_bad_of : (run : Run) (e : MeasureEnd) → Cause run e → (etag : ℕ) → e ≡ is.KeptBad etag → IsBad (setting_with base_id) run.before.keeper.held etag
kept_bad_of run (is.KeptBad found) c etag h = let same : found ≡ etag = cc in subst (IsBad (setting_with base_id) run.before.keeper.held) same c
kept_bad_of run other c etag h = absurd cc

not_empty_of : (run : Run) (e : MeasureEnd) → Cause run e → (etag : ℕ) → e ≡ is.NotEmpty etag → HasRows run.before.keeper etag
not_empty_of run (is.NotEmpty found) c etag h = let same : found ≡ etag = cc in subst (HasRows run.before.keeper) same c
not_empty_of run other c etag h = absurd cc

stopped_of : (run : Run) (e : MeasureEnd) → Cause run e → e ≡ is.WriteFault → Stopped run
stopped_of run is.WriteFault c h = c.1
stopped_of run other c h = absurd cc

complete_of : (run : Run) (e : MeasureEnd) → Cause run e → IsValid run → HasNoFault run → (e ≡ is.Done) ⊎ (e ≡ is.NoMemory)
complete_of run is.Done c v n = inl refl
complete_of run is.WriteFault c v n = absurd (n.output c.0)
complete_of run is.KeptFault c v n = absurd (n.keeper (faults_rose run c))
complete_of run (is.KeptBad etag) c v n = absurd (not_bad run etag v c)
complete_of run (is.NotEmpty last) c v n = absurd (not_full run last v c)
complete_of run is.NoMemory c v n = inr refl

ends_as : (run : Run) (e : MeasureEnd) → Cause run e → MeasuresRightly e run
ends_as run e c = record {
  done = done_of run e c;
  write_fault = write_fault_of run e c;
  kept_fault = kept_fault_of run e c;
  stopped_early = stopped_early_of run e c;
  kept_bad = kept_bad_of run e c;
  not_empty = not_empty_of run e c;
  stopped = stopped_of run e c;
  complete = complete_of run e c;
}

-- if the end is that one
pub ends_with : (run : Run) (e f : MeasureEnd) → e ≡ f → MeasuresRightly f run → MeasuresRightly e run
ends_with run e f same m = subst (λ x. MeasuresRightly x run) (sym same) m

-- ENDS BEFORE THE FIRST REQUEST

-- no request was made
pub ends_unmeasured : (run : Run) (e : MeasureEnd) → run.after.output ≡ run.before.output → Loads run.before.keeper run.after.keeper → IsUnmeasured run.before.keeper run.after.keeper e → MeasuresRightly e run
ends_unmeasured run (is.KeptBad etag) o l c = ends_as run (is.KeptBad etag) c
ends_unmeasured run is.KeptFault o l c = ends_as run is.KeptFault (inl (record { output = o; loads = l; fault = c }))
ends_unmeasured run (is.NotEmpty etag) o l c = ends_as run (is.NotEmpty etag) c
ends_unmeasured run is.NoMemory o l c = ends_as run is.NoMemory (inl (record { output = o; keeper = l.same }))
ends_unmeasured run is.Done o l c = absurd c
ends_unmeasured run is.WriteFault o l c = absurd c

pub ends_unasked : (run : Run) (first : State) → Begins run.before.keeper first → run.after.output ≡ run.before.output → first.live.keeper ≡ run.after.keeper → MeasuresRightly is.NoMemory run
ends_unasked run first begins output kept =
    ends_as run is.NoMemory (inl (record { output = output; keeper = ap (λ (k : KeeperState). k.held) (sym kept) ∙ begins.loads.same }))

-- ENDS BETWEEN REQUESTS

-- a request could not be made
pub ends_stopped : (run : Run) (first last : State) (d : Option program.Request) (why : Stop) → Begins run.before.keeper first → IsDefining d
    → StopsMeasuring run.clock run.options (requests_view d) first last why → run.after.output ≡ run.before.output → last.live.keeper ≡ run.after.keeper
    → Keeps run.after.keeper.held (machine_in last.live) → MeasuresRightly (end_of_stop why) run
ends_stopped run first last d why begins defines stops output kept keeps = by why stops
  where
    short : (w : Stop) → StopsMeasuring run.clock run.options (requests_view d) first last w → RanShort run
    short w t = record {
      first = first;
      begins = begins;
      answer = defines.answer;
      says = defines.says;
      done = t.stops.done;
      next = t.stops.next;
      left = t.stops.more;
      more = t.more;
      split = ap (λ (rs : List Request). with_batches run.options rs t.more) (sym defines.asks) ∙ t.stops.split;
      reached = t.stops.reached;
      does = t.stops.does;
      holds = subst (λ (W : World). Holds run.after.keeper.held (machine_of W)) t.stops.world keeps.holds;
      output = output;
    }

    by : (w : Stop) → StopsMeasuring run.clock run.options (requests_view d) first last w → MeasuresRightly (end_of_stop w) run
    by stop.Kept t = ends_as run is.KeptFault (inr (record { short = short stop.Kept t; last = last.live; kept = kept; fault = t.stops.cause refl }))
    by stop.NoMemory t = ends_as run is.NoMemory (inr (inl (short stop.NoMemory t)))

-- ENDS AFTER THE LAST REQUEST

-- all requests were made
pub record HasMeasured (run : Run) : Type 0 where
  pub first : State
  pub final : State
  pub definition : Option program.Request
  pub begins : Begins run.before.keeper first
  pub defines : IsDefining definition
  pub measures : Measures run.clock run.options (requests_view definition) first final
  pub keeps : Keeps run.after.keeper.held (machine_in final.live)

ran : (run : Run) (Written : Option (List ℕ) → Option (List ℕ) → List ℕ → Type 0) (h : HasMeasured run)
    → Written run.before.output.held run.after.output.held (printed_summary (summary_of h.final.moved (machine_in h.final.live))) → Ran run Written
ran run Written h w = record {
  first = h.first;
  begins = h.begins;
  answer = h.defines.answer;
  says = h.defines.says;
  final = h.final;
  measures = subst (λ rs. Measures run.clock run.options rs h.first h.final) h.defines.asks h.measures;
  written = w;
  holds = h.keeps.holds;
}

abbrev IsLine : (run : Run) → HasMeasured run → List ℕ → Type 0
IsLine run h line = line ≡ printed_summary (summary_of h.final.moved (machine_in h.final.live))

pub ends_done : (run : Run) (h : HasMeasured run) (line : List ℕ) → IsLine run h line → run.after.output.held ≡ appended run.before.output.held line → MeasuresRightly is.Done run
ends_done run h line is_line w =
    ends_as run is.Done (ran run (λ before after bytes. after ≡ appended before bytes) h (w ∙ ap (appended run.before.output.held) is_line))

pub ends_write_fault : (run : Run) (h : HasMeasured run) (line : List ℕ) → IsLine run h line → GivesPrefix run.before.output.held run.after.output.held line
    → Rose run.before.output.faults run.after.output.faults → MeasuresRightly is.WriteFault run
ends_write_fault run h line is_line w r =
    ends_as run is.WriteFault (r, ran run GivesPrefix h (subst (GivesPrefix run.before.output.held run.after.output.held) is_line w))

-- the line was not written to its end
pub ends_short : (run : Run) (h : HasMeasured run) (line : List ℕ) → IsLine run h line → GivesPrefix run.before.output.held run.after.output.held line → MeasuresRightly is.NoMemory run
ends_short run h line is_line w =
    ends_as run is.NoMemory (inr (inr (ran run GivesPrefix h (subst (GivesPrefix run.before.output.held run.after.output.held) is_line w))))

-- the line was not made
pub ends_unwritten : (run : Run) (h : HasMeasured run) → run.after.output ≡ run.before.output → MeasuresRightly is.NoMemory run
ends_unwritten run h o =
    let line = printed_summary (summary_of h.final.moved (machine_in h.final.live)) in
    ends_as run is.NoMemory (inr (inr (ran run GivesPrefix h (record {
      prefix = [];
      rest = line;
      split = refl;
      given = ap (λ (s : SinkState). s.held) o ∙ sym (appended-nil run.before.output.held);
    }))))
