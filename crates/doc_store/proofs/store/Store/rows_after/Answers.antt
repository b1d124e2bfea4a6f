use Rattle.std.proofs.Common.{◌≡◌, ◌≤◌, ◌+◌, ◌*◌, [], ◌∷◌, length, take, refl, ◌∙◌, ap, sym, subst, arith}
use Rattle.std.specs.Option.{option_copied}
use Rattle.std.proofs.lemmas.List.{length-append}
use Rattle.spec_data.specs.Rows.{Row}
use Rattle.spec_data.specs.Tables.{in_scope}
use Rattle.spec_store.specs.Stale.{past}
use Rattle.doc_store.proofs.FilterLemmas.{none_left}
use Rattle.doc_store.proofs.WalkLemmas.{stepped, walked, all_taken, no_more, first_taken, more_left, looks, one_row_more}
use Rattle.doc_store.proofs.store.Store.rows_after.Goals as goal
use Rattle.doc_store.proofs.store.Store.rows_after.Goals.{After-first_past, In-Some}
use Rattle.doc_store.proofs.store.Store.rows_after.Given.{Over}

-- the row that is found, and then those past it
next : (g : Over) (c : In-Some g) → past c.as_slice-collections.result.now c.loop-row.after c.args.self.now ≡ c.in-Some.row.now ∷ past c.as_slice-collections.result.now c.in-Some.row.now.etag c.args.self.now
next g c = stepped (in_scope c.as_slice-collections.result.now) c.loop-row.after 0 c.args.self.now.rows c.in-Some.row.now c.in-Some.ensures.sound.rising (sym c.in-Some.ensures.row)

-- however it ends, it has looked once for each row that it gives, and once more
few_looks : (g : Over) (c : After-first_past g) → c.first_past.new.steps.reads ≤ c.args.steps.now.reads + (length (take c.args.max (past c.args.scope.now c.args.etag c.args.self.now)) + 1) * length c.args.scope.now
few_looks g c =
    subst (λ scope. c.first_past.new.steps.reads ≤ c.args.steps.now.reads + (length (take c.args.max (past scope c.args.etag c.args.self.now)) + 1) * length scope) c.as_slice-collections.ensures
    (looks c.loop-row.found (past c.as_slice-collections.result.now c.loop-row.after c.args.self.now) (past c.as_slice-collections.result.now c.args.etag c.args.self.now) c.args.max
    (length c.as_slice-collections.result.now) c.args.steps.now.reads c.loop-row.steps.reads c.first_past.new.steps.reads
    c.loop-row.invariant.few c.loop-row.invariant.all c.loop-row.invariant.reads c.first_past.ensures.reads)

pub returns-then-len-max-clause-rows : goal.returns-then-len-max-clause-rows
returns-then-len-max-clause-rows g c =
    first_taken c.loop-row.found _ _ c.args.max (let h = c.if-len-max.true in let l = c.len.ensures in omega arith) c.loop-row.invariant.all
    ∙ ap (λ scope. take c.args.max (past scope c.args.etag c.args.self.now)) c.as_slice-collections.ensures

pub returns-then-len-max-clause-more : goal.returns-then-len-max-clause-more
returns-then-len-max-clause-more g c =
    let full = c.if-len-max.true in
    let len = c.len.ensures in
    let more = more_left c.loop-row.found _ _ _ c.in-Some.row.now (next g (goal.at.returns-then-len-max-clause-more g c).In-Some) c.loop-row.invariant.all in
    let same = ap (λ scope. length (past scope c.args.etag c.args.self.now)) c.as_slice-collections.ensures in
    (λ _. omega arith, λ _. refl)

pub returns-then-len-max-clause-reads : goal.returns-then-len-max-clause-reads
returns-then-len-max-clause-reads g c = few_looks g (goal.at.returns-then-len-max-clause-reads g c).After-first_past

pub returns-in_err-clone-clause-reads : goal.returns-in_err-clone-clause-reads
returns-in_err-clone-clause-reads g c = few_looks g (goal.at.returns-in_err-clone-clause-reads g c).After-first_past

pub returns-in_err-push-clause-reads : goal.returns-in_err-push-clause-reads
returns-in_err-push-clause-reads g c = few_looks g (goal.at.returns-in_err-push-clause-reads g c).After-first_past

pub loop-row-smaller : goal.loop-row-smaller
loop-row-smaller g c =
    let less = ap length (next g (goal.at.loop-row-smaller g c).In-Some) in
    let same = ap (λ (x : Row). length (past c.as_slice-collections.result.now x.etag c.args.self.now)) (c.behind-row.view_is ∙ c.get.ensures) in
    omega arith

pub loop-row-preserved : goal.loop-row-preserved
loop-row-preserved g c = record {
  all = walked c.loop-row.found _ _ _ c.in-Some.row.now _ _ c.in_ok-push.ensures.ok c.in_ok-clone.ensures.cases
      (next g (goal.at.loop-row-preserved g c).In-Some ∙ ap (λ (x : Row). c.in-Some.row.now ∷ past c.as_slice-collections.result.now x.etag c.args.self.now) (sym (c.behind-row.view_is ∙ c.get.ensures)))
      c.loop-row.invariant.all;
  few =
      let more = ap length c.in_ok-push.ensures.ok in
      let room = c.if-len-max.false in
      let len = c.len.ensures in
      let few = c.loop-row.invariant.few in
      omega (arith, length-append c.loop-row.found (c.in_ok-clone.field-0 ∷ []));
  maps = c.first_past.ensures.maps ∙ c.loop-row.invariant.maps;
  merges = c.first_past.ensures.merges ∙ c.loop-row.invariant.merges;
  reads = one_row_more c.loop-row.found _ c.in_ok-clone.field-0 (length c.as_slice-collections.result.now) c.args.steps.now.reads c.loop-row.steps.reads c.first_past.new.steps.reads
      c.in_ok-push.ensures.ok c.loop-row.invariant.reads c.first_past.ensures.reads;
}

pub returns-clause-rows : goal.returns-clause-rows
returns-clause-rows g c =
    let none = none_left _ c.args.self.now.rows (sym c.first_past.ensures.row ∙ ap option_copied c.in_default.is) in
    all_taken c.loop-row.found _ _ c.args.max none c.loop-row.invariant.all c.loop-row.invariant.few
    ∙ ap (λ scope. take c.args.max (past scope c.args.etag c.args.self.now)) c.as_slice-collections.ensures

pub returns-clause-more : goal.returns-clause-more
returns-clause-more g c =
    let none = none_left _ c.args.self.now.rows (sym c.first_past.ensures.row ∙ ap option_copied c.in_default.is) in
    let all = no_more c.loop-row.found _ _ none c.loop-row.invariant.all in
    let few = c.loop-row.invariant.few in
    let same = ap (λ scope. length (past scope c.args.etag c.args.self.now)) c.as_slice-collections.ensures in
    (λ e. absurd cc, λ h. absurd (omega arith))

pub returns-clause-reads : goal.returns-clause-reads
returns-clause-reads g c = few_looks g (goal.at.returns-clause-reads g c).After-first_past
