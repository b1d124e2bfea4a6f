-- How a session over the input and the output ends.
use Rattle.std.proofs.Common.{◌≡◌, ℕ, Option, IfSome, refl, sym, ap, ◌∙◌, subst, inl, inr}
use Rattle.raven_ports.specs.Faults.{Rose}
use Rattle.doc_keeper.specs.declared.loading.LoadFault.{LoadFault}
use Rattle.doc_keeper.specs.declared.loading.LoadFault.TheVariants as load
use Rattle.http_session.specs.Sessions.{Finishes}
use Rattle.http_session.specs.Steps.{NamesEnd}
use Rattle.http_session.specs.declared.why.Why.{Why}
use Rattle.http_session.specs.declared.why.Why.TheVariants as why
use Rattle.spec_server.specs.Options.{setting_with}
use Rattle.spec_desk.specs.Keepers as desk
use Rattle.spec_desk.specs.Lived.{Lived, machine_in}
use Rattle.raven_desk.specs.Desks.{Alone, alone}
use Rattle.raven_desk.specs.Openings.{Loads, NamesBadRow, Opens}
use Rattle.http_desk.specs.Chains.{AnswersAlone, KeepsAlone}
use Rattle.http_desk.specs.ProgramSessions.{EndsSo, Serves, Session, end_of, end_unopened}

-- it was served
pub ends-so : (s : Session) (w : Why) → Serves w s → NamesEnd w → (w ≡ why.ReadFault → Rose s.before.input.faults s.after.input.faults) → (w ≡ why.WriteFault → Rose s.before.output.faults s.after.output.faults) → EndsSo (end_of w) s
ends-so s why.Ended h n r g = inl h
ends-so s why.Closed h n r g = inr h
ends-so s (why.Http end) h n r g = (n, h)
ends-so s why.ReadFault h n r g = (r refl, h)
ends-so s why.WriteFault h n r g = (g refl, h)
ends-so s why.Enough h n r g = h
ends-so s why.NoMemory h n r g = inr h

-- it was not opened
pub ends-unopened : (s : Session) (fault : LoadFault) → Loads s.before.keeper s.after.keeper → NamesBadRow (setting_with s.base) s.before.keeper.held fault
    → (fault ≡ load.Failed → Rose s.before.keeper.count s.after.keeper.count) → s.after.output.held ≡ s.before.output.held → EndsSo (end_unopened fault) s
ends-unopened s load.Failed l b r o = (l, r refl)
ends-unopened s (load.KeptBad etag) l b r o = (l, b)
ends-unopened s load.NoMemory l b r o = inl (o, l.same)

-- the desk that is left has the clock and the size of the batches that it had
same-desk : (d : Alone) (moment : Option ℕ) (pump : ℕ) → d.moment ≡ moment → d.pump ≡ pump → d ≡ alone d.live moment pump
same-desk d moment pump m p = subst (λ (o : Option ℕ). d ≡ alone d.live o pump) m (subst (λ (n : ℕ). d ≡ alone d.live d.moment n) p refl)

pub serves : (s : Session) (w : Why) (first : Lived) (begun d : Alone) (last : Lived) → begun ≡ alone first s.clock s.pump → last ≡ d.live → Opens (setting_with s.base) s.before.keeper.held (machine_in first)
    → Loads s.before.keeper first.keeper → first.fronts ≡ 0
    → IfSome s.before.input.left (λ bytes. Finishes AnswersAlone KeepsAlone (begun, s.name) bytes s.before.output.held w (d, s.name) s.after.output.held)
    → KeepsAlone (begun, s.name) (d, s.name) → s.after.keeper ≡ last.keeper → desk.Keeps s.after.keeper.held (machine_in last) → Serves w s
serves s w first begun d last b e opens loads fronts finishes kept keeper holds = record {
  first = first;
  last = last;
  opens = opens;
  loads = loads;
  fronts = fronts;
  finishes = subst (λ (z : Alone). IfSome s.before.input.left (λ bytes. Finishes AnswersAlone KeepsAlone (alone first s.clock s.pump, s.name) bytes s.before.output.held w (z, s.name) s.after.output.held)) here
      (subst (λ (z : Alone). IfSome s.before.input.left (λ bytes. Finishes AnswersAlone KeepsAlone (z, s.name) bytes s.before.output.held w (d, s.name) s.after.output.held)) b finishes);
  kept = subst (λ (z : Alone). KeepsAlone (alone first s.clock s.pump, s.name) (z, s.name)) here (subst (λ (z : Alone). KeepsAlone (z, s.name) (d, s.name)) b kept);
  keeper = keeper;
  holds = holds;
}
  where
    here : d ≡ alone last s.clock s.pump
    here =
        same-desk d s.clock s.pump (kept.goes_on.clock ∙ ap (λ (z : Alone). z.moment) b) (kept.goes_on.pump ∙ ap (λ (z : Alone). z.pump) b) ∙ ap (λ (x : Lived). alone x s.clock s.pump) (sym e)
