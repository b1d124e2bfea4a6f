use Rattle.std.proofs.Common.{◌≡◌, ◌<◌, ◌≤◌, ◌^◌, None, Option, Ok, List, inl, inr, rules, ap, sym, subst, ◌∙◌, length, arith}
use Rattle.spec_data.specs.Kept.{KeptRow, last_kept}
use Rattle.std.proofs.lemmas.Result.{IfErr-weaker, IfOk-weaker}
use Rattle.spec_data.specs.Rows.{Row}
use Rattle.doc_keeper.specs.Loading.{IsCause, IsPage}
use Rattle.doc_keeper.specs.Reading.{read_on}
use Rattle.doc_keeper.proofs.LoadLemmas.{start, go_on, caused, finish, end, few, read_few, smaller, grows_by, has_none, has_rows, not_some, calls_done, calls_on, calls_start, first_call, last_call}
use Rattle.doc_keeper.proofs.ReadLemmas.{judged_same}
use Rattle.doc_keeper.proofs.loading.load.Goals as goal
use Rattle.doc_keeper.proofs.loading.load.Goals.{In_ok-bad}
use Rattle.doc_keeper.proofs.loading.load.Given.{Over}

-- what was read of the page
read_is : (g : Over) (c : In_ok-bad g) → read_on c.args.limits.now.rows c.loop-after.rows c.loop-after.page ≡ (c.add_rows.new.rows, c.in_ok-bad.bad)
read_is g c = ap (read_on c.args.limits.now.rows c.loop-after.rows) (sym c.as_slice.ensures) ∙ sym c.in_ok-bad.ensures

small : (g : Over) (c : In_ok-bad g) → c.args.limits.now.rows < 2 ^ 32
small g c = search rules

still_few : (g : Over) (c : In_ok-bad g) → length c.add_rows.new.rows < 2 ^ 32
still_few g c =
    let le = read_few c.args.limits.now.rows (g.K.Keeper.state c.args.keeper.now).held c.loop-after.rows c.add_rows.new.rows c.loop-after.after c.loop-after.page c.in_ok-bad.bad c.loop-after.invariant.so_far (read_is g c) in
    let max = small g c in
    omega arith

pub opened-requires : goal.opened-requires
opened-requires g c = record { few = still_few g (goal.at.opened-requires g c).In_ok-bad }

pub or_bad_row-requires : goal.or_bad_row-requires
or_bad_row-requires g c = record { few = still_few g (goal.at.or_bad_row-requires g c).In_ok-bad }

pub loop-after-init : goal.loop-after-init
loop-after-init g c = record {
  so_far = start c.args.limits.now.rows (g.K.Keeper.state c.args.keeper.now).held c.new-rows.result c.in-Ok.first c.new-rows.ensures c.in-Ok.ensures.page;
  called = calls_start _ c.new-rows.result c.in-Ok.first _ _ c.new-rows.ensures c.load_page.ensures.called;
  same = c.load_page.ensures.same;
  later = c.load_page.ensures.later;
}

pub loop-after-preserved : goal.loop-after-preserved
loop-after-preserved g c =
    let good : c.in_ok-bad.bad ≡ None = not_some c.in_ok-bad.bad (sym c.is_some.ensures ∙ c.if-is_some.false) in
    let all_read = read_is g (goal.at.loop-after-preserved g c).In_ok-bad ∙ ap (λ bad. (c.add_rows.new.rows, bad)) good in
    let so_far = go_on c.args.limits.now.rows (g.K.Keeper.state c.args.keeper.now).held c.loop-after.rows c.add_rows.new.rows c.loop-after.after c.last_etag-after.result c.loop-after.page
    c.in-Ok-load_page.next c.loop-after.invariant.so_far all_read
    (c.last_etag-after.ensures ∙ ap (last_kept c.loop-after.after) c.as_slice-in-loop-after.ensures)
    (subst (λ (held : Option (List KeptRow)). IsPage held c.last_etag-after.result c.in-Ok-load_page.next) c.loop-after.invariant.same c.in-Ok-load_page.ensures.page) in
    record {
      so_far = so_far;
      called = calls_on c.args.limits.now.rows _ c.loop-after.rows c.add_rows.new.rows c.loop-after.after c.last_etag-after.result c.loop-after.page c.in-Ok-load_page.next _ _ _
          c.loop-after.invariant.so_far so_far (grows_by c.args.limits.now.rows c.loop-after.rows c.add_rows.new.rows c.loop-after.page all_read)
          (has_rows c.is_empty.result c.loop-after.page c.is_empty.ensures c.loop-after-test.true) c.loop-after.invariant.called c.load_page-in-loop-after.ensures.called;
      same = c.load_page-in-loop-after.ensures.same ∙ c.loop-after.invariant.same;
      later = let a = c.loop-after.invariant.later in let b = c.load_page-in-loop-after.ensures.later in omega arith;
    }

pub loop-after-smaller : goal.loop-after-smaller
loop-after-smaller g c =
    let preserved = loop-after-preserved g c in
    let good : c.in_ok-bad.bad ≡ None = not_some c.in_ok-bad.bad (sym c.is_some.ensures ∙ c.if-is_some.false) in
    smaller c.args.limits.now.rows c.loop-after.rows c.add_rows.new.rows c.loop-after.page c.is_empty.result
    (few c.args.limits.now.rows _ _ _ _ preserved.so_far) (read_is g (goal.at.loop-after-smaller g c).In_ok-bad ∙ ap (λ bad. (c.add_rows.new.rows, bad)) good) c.is_empty.ensures c.loop-after-test.true

pub returns-in-Err-clause-fault : goal.returns-in-Err-clause-fault
returns-in-Err-clause-fault g c = c.in-Err.ensures.fault c.args.limits.now.rows

pub returns-then-is_some-clause-fault : goal.returns-then-is_some-clause-fault
returns-then-is_some-clause-fault g c =
    IfErr-weaker c.opened.result _ _
    (λ f h. caused c.args.limits.now.rows c.in_ok-bad.bad (g.K.Keeper.state c.args.keeper.now).held c.loop-after.rows c.add_rows.new.rows c.loop-after.after c.loop-after.page f c.loop-after.invariant.so_far
    (read_is g (goal.at.returns-then-is_some-clause-fault g c).In_ok-bad) h)
    c.opened.ensures.fault

pub returns-in-Err-load_page-clause-fault : goal.returns-in-Err-load_page-clause-fault
returns-in-Err-load_page-clause-fault g c =
    let good : c.in_ok-bad.bad ≡ None = not_some c.in_ok-bad.bad (sym c.is_some.ensures ∙ c.if-is_some.false) in
    elim c.or_bad_row.ensures [
      | inl is ↦ subst (IsCause c.args.limits.now.rows (g.K.Keeper.state c.args.keeper.now).held) (sym is)
          (subst (λ (held : Option (List KeptRow)). IsCause c.args.limits.now.rows held c.in-Err-load_page.fault) c.loop-after.invariant.same (c.in-Err-load_page.ensures.fault c.args.limits.now.rows))
      | inr bad ↦ caused c.args.limits.now.rows None (g.K.Keeper.state c.args.keeper.now).held c.loop-after.rows c.add_rows.new.rows c.loop-after.after c.loop-after.page c.or_bad_row.result c.loop-after.invariant.so_far
          (read_is g (goal.at.returns-in-Err-load_page-clause-fault g c).In_ok-bad ∙ ap (λ bad. (c.add_rows.new.rows, bad)) good) bad
    ]

pub returns-in-Err-load_page-clause-called : goal.returns-in-Err-load_page-clause-called
returns-in-Err-load_page-clause-called g c =
    last_call c.args.limits.now.rows _ c.loop-after.rows c.loop-after.after c.loop-after.page _ _ _ c.loop-after.invariant.so_far
    (has_rows c.is_empty.result c.loop-after.page c.is_empty.ensures c.loop-after-test.true) c.loop-after.invariant.called c.load_page-in-loop-after.ensures.called

pub returns-in-Err-clause-called : goal.returns-in-Err-clause-called
returns-in-Err-clause-called g c = first_call _ _ _ c.load_page.ensures.called

pub returns-in_err-bad-clause-called : goal.returns-in_err-bad-clause-called
returns-in_err-bad-clause-called g c =
    calls_done c.args.limits.now.rows _ c.loop-after.rows c.loop-after.after c.loop-after.page _ _ c.loop-after.invariant.so_far c.loop-after.invariant.called

pub returns-then-is_some-clause-called : goal.returns-then-is_some-clause-called
returns-then-is_some-clause-called g c =
    calls_done c.args.limits.now.rows _ c.loop-after.rows c.loop-after.after c.loop-after.page _ _ c.loop-after.invariant.so_far c.loop-after.invariant.called

pub returns-clause-called : goal.returns-clause-called
returns-clause-called g c =
    calls_done c.args.limits.now.rows _ c.loop-after.rows c.loop-after.after c.loop-after.page _ _ c.loop-after.invariant.so_far c.loop-after.invariant.called

pub opened-requires-2 : goal.opened-requires-2
opened-requires-2 g c =
    let small : c.args.limits.now.rows < 2 ^ 32 = search rules in
    let le = few c.args.limits.now.rows _ _ _ _ c.loop-after.invariant.so_far in
    record { few = omega arith }

pub returns-clause-ok : goal.returns-clause-ok
returns-clause-ok g c =
    IfOk-weaker c.opened-2.result _ _
    (λ r is. finish c.args.limits.now.rows (g.K.Keeper.state c.args.keeper.now).held c.loop-after.rows (Ok r.0) c.loop-after.after c.loop-after.page c.loop-after.invariant.so_far
    (has_none c.is_empty.result c.loop-after.page c.is_empty.ensures c.loop-after-test.false) is)
    c.opened-2.ensures.ok

pub returns-clause-most : goal.returns-clause-most
returns-clause-most g c =
    let most = few c.args.limits.now.rows _ _ _ _ c.loop-after.invariant.so_far in
    IfOk-weaker c.opened-2.result _ _ (λ r is. subst (λ (rows : List Row). length rows ≤ c.args.limits.now.rows) (judged_same c.loop-after.rows r.0 None is) most) c.opened-2.ensures.ok

pub returns-clause-fault : goal.returns-clause-fault
returns-clause-fault g c =
    IfErr-weaker c.opened-2.result _ _
    (λ f h. end c.args.limits.now.rows (g.K.Keeper.state c.args.keeper.now).held c.loop-after.rows c.loop-after.after c.loop-after.page f c.loop-after.invariant.so_far
    (has_none c.is_empty.result c.loop-after.page c.is_empty.ensures c.loop-after-test.false) h)
    c.opened-2.ensures.fault
