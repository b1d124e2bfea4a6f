use Rattle.std.proofs.Common.{ℕ, List, Bool, refl, ap, sym, subst, ◌∙◌, arith, option_map, drop, filter, false, map, take, Some, None}
use Rattle.spec_data.specs.Folding.{folded}
use Rattle.index_tree.specs.Meaning.{Fields}
use Rattle.spec_query.specs.Condition.{meets}
use Rattle.rql_eval.proofs.Walking.{IsPage, after, page_ends, page_goes, page_starts, reads_left}
use Rattle.rql_eval.proofs.walk.walked.Goals as goal

pub loop-want-init : goal.loop-want-init
loop-want-init g c =
    let es = g.E.Entries.entries c.args.entries.now in
    let p : List ℕ × Fields → Bool = λ e. meets c.args.condition.now false e.1 in
    record {
      page = subst (λ l. IsPage p es (take c.args.size (drop c.args.start (filter p es))) (map (λ e. (e.0.now, e.1.now)) l) c.args.size c.args.start None) (sym c.new-found.ensures.items) (page_starts p es c.args.size c.args.start);
      reads = omega arith;
      maps = refl;
      merges = refl;
    }

pub loop-want-preserved : goal.loop-want-preserved
loop-want-preserved g c =
    let es = g.E.Entries.entries c.args.entries.now in
    let p : List ℕ × Fields → Bool = λ e. meets c.args.condition.now false e.1 in
    let is = sym c.entry_after.ensures.entry ∙ ap (option_map (λ e. (e.0.now, e.1.now))) c.in-Some.is in
    record {
      page =
          page_goes p es (take c.args.size (drop c.args.start (filter p es))) (map (λ e. (e.0.now, e.1.now)) c.loop-want.found.items) c.loop-want.want c.loop-want.skip (option_map (λ i. folded i.now) c.loop-want.last) (c.in-Some.id.now, c.in-Some.entry.now)
          c.is_met-met.result c.requires is c.is_met-met.ensures c.loop-want.invariant.page
          ∙ c.in_ok-add_if.ensures (filter p (after (Some (folded c.in-Some.id.now)) es));
      reads = reads_left c.args.steps.now.reads c.loop-want.steps.reads c.loop-want.left c.args.most c.entry_after.new.steps.reads c.if-left-eq0.false c.loop-want.invariant.reads (ap (λ s. s.reads) c.entry_after.ensures.read);
      maps = ap (λ s. s.maps) c.entry_after.ensures.read ∙ c.loop-want.invariant.maps;
      merges = ap (λ s. s.merges) c.entry_after.ensures.read ∙ c.loop-want.invariant.merges;
    }

pub returns-in_default-clause-entries : goal.returns-in_default-clause-entries
returns-in_default-clause-entries g c =
    let es = g.E.Entries.entries c.args.entries.now in
    let p : List ℕ × Fields → Bool = λ e. meets c.args.condition.now false e.1 in
    page_ends p es (take c.args.size (drop c.args.start (filter p es))) (map (λ e. (e.0.now, e.1.now)) c.loop-want.found.items) c.loop-want.want c.loop-want.skip (option_map (λ i. folded i.now) c.loop-want.last)
    (sym c.entry_after.ensures.entry ∙ ap (option_map (λ e. (e.0.now, e.1.now))) c.in_default.is) c.loop-want.invariant.page
