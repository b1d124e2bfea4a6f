use Rattle.std.proofs.Common.{[], ◌≡◌, ◌-◌, ◌++◌, ◌∷◌, true, false, cond, drop, take, sym, ap, ◌∙◌, arith}
use Rattle.doc_store.proofs.PageLemmas.{taken}
use Rattle.doc_store.proofs.page.add_if.Goals as goal
use Rattle.doc_store.proofs.page.add_if.Goals.{else-met-via-then-met+else-skip-gt0, else-met-via-else-met}

pub returns-in_ok-push : goal.returns-in_ok-push
returns-in_ok-push c =
    let found = c.args.found.now.items in
    let skip = c.args.skip.now in
    let want = c.args.want.now in
    let none : skip ≡ 0 =
    elim c.else-met.branch [
      | else-met-via-then-met+else-skip-gt0 w ↦ (let h = w.if-skip-gt0.false in omega (arith, h))
      | else-met-via-else-met w ↦ let two : true ≡ false = sym c.if-met-2.true ∙ w.if-met.false in absurd cc
    ] in
    λ more.
    ap (λ b. found ++ take want (drop skip (cond b (c.args.row.now ∷ more) more))) c.if-met-2.true
    ∙ (taken c.args.row.now more found skip want none c.requires
    ∙ ap (λ l. l ++ take (want - 1) (drop skip more)) (sym (c.in_ok-push.ensures.items ∙ ap (λ x. found ++ x ∷ []) c.in_ok-clone.ensures.cases)))
