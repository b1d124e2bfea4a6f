use Rattle.std.proofs.Common.{◌≡◌, ◌++◌, ◌∷◌, ap, sym, subst, ◌∙◌}
use Rattle.std.proofs.lemmas.List.{append-nil}
use Rattle.paged_map.specs.Pairs.{IsRising}
use Rattle.paged_map.proofs.Laws.{rising_between}
use Rattle.raven_value.specs.ScalarView.{scalar_view, test_view}
use Rattle.term_index.specs.Edges.{is_past}
use Rattle.term_index.specs.Held.{Pairs, passing}
use Rattle.term_index.specs.KeyView.{by_mark}
use Rattle.term_index.specs.declared.key.Key.TheVariants as k
use Rattle.term_index.specs.declared.key.Term.{Term}
use Rattle.term_index.proofs.Runs.{AllFrom, all_from-between, run_ends}
use Rattle.term_index.proofs.walks.ids_between.Goals as goal
use Rattle.term_index.proofs.walks.ids_between.Goals.{in-None, in-Some+in-At+then-is_past}

pub loop-pair-init : goal.loop-pair-init
loop-pair-init c =
    let is = c.into_iter-pair-iterator.ensures.into_iter_gives ∙ c.range-pair-items.ensures.pairs in
    record {
      found = ap (λ l. l ++ passing (test_view c.args.test.now) c.args.exact c.into_iter-pair-iterator.result) c.new-ids.ensures ∙ ap (passing (test_view c.args.test.now) c.args.exact) is;
      rising = subst (λ (es : Pairs). IsRising by_mark es) (sym is) (rising_between by_mark c.args.low.now c.args.high.now c.args.terms.now c.range-pair-items.ensures.rising);
      from = subst (λ (es : Pairs). AllFrom c.args.low.now es) (sym is) (all_from-between c.args.low.now c.args.high.now c.args.terms.now);
    }

pub returns : goal.returns
returns c =
    elim c.match-next.branch [
      | in-None w ↦
          sym (append-nil c.loop-pair.ids) ∙ (ap (λ (es : Pairs). c.loop-pair.ids ++ passing (test_view c.args.test.now) c.args.exact es) (sym w.in-None.ensures.steps.0) ∙ c.loop-pair.invariant.found)
      | in-Some+in-At+then-is_past w ↦
          let is : c.loop-pair.pair-iterator ≡ (k.At w.in-At.term, tt) ∷ c.next.new.self = w.in-Some.ensures.steps ∙ ap (λ key. (key, tt) ∷ c.next.new.self) w.in-At.is in
          let ends = run_ends (test_view c.args.test.now) c.args.exact c.args.low.now w.in-At.term c.next.new.self c.requires
          (subst (λ (es : Pairs). AllFrom c.args.low.now es) is c.loop-pair.invariant.from) (subst (λ (es : Pairs). IsRising by_mark es) is c.loop-pair.invariant.rising) (ap (λ (t : Term). is_past (test_view c.args.test.now) (scalar_view t.value)) (sym w.get-term.ensures) ∙ (sym w.is_past.ensures ∙ w.if-is_past.true)) in
          sym (append-nil c.loop-pair.ids)
          ∙ (ap (λ l. c.loop-pair.ids ++ l) (sym (ap (passing (test_view c.args.test.now) c.args.exact) is ∙ ends)) ∙ c.loop-pair.invariant.found)
    ]
