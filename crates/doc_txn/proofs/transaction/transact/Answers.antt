use Rattle.std.proofs.Common.{◌≡◌, [], ◌∷◌, ◌++◌, List, Ok, length, map, refl, sym, ap, ◌∙◌, append-nil, arith}
use Rattle.std.specs.Vec.Iter.{into_iter_items}
use Rattle.spec_store.specs.Commit.{commit, commit_from, etags_taken}
use Rattle.spec_store.proofs.CommitLemmas.{commit-Commits}
use Rattle.doc_txn.specs.CommandView.{command_view, writer_view}
use Rattle.doc_txn.specs.SettingView.{setting_of}
use Rattle.doc_txn.specs.TransactionView.{written_of}
use Rattle.doc_txn.proofs.Taking.{begins, begins_etags, etags_on, one_etag_more, refuses, takes_on}
use Rattle.doc_txn.proofs.transaction.transact.Goals as goal
use Rattle.doc_txn.proofs.transaction.transact.Goals.{In-None, In-Some}

pub loop-command-init : goal.loop-command-init
loop-command-init c =
    let left = ap (map command_view) (c.into_iter-command-iterator.ensures.into_iter_gives.0 ∙ c.into_vec-command-items.ensures) in
    record {
      written = begins _ _ _ _ _ c.args.store.now (written_of c.in_ok-done.done) c.in_ok-done.done.etags c.in_ok-done.ensures.written c.in_ok-done.ensures.etags left;
      etags = begins_etags _ _ _ c.args.store.now (written_of c.in_ok-done.done) c.in_ok-done.done.etags c.in_ok-done.ensures.written c.in_ok-done.ensures.etags left;
      left = c.into_iter-command-iterator.ensures.into_iter_gives.1 ∙ c.into_vec-command-items.result.ok.0 ∙ ap length (sym c.into_iter-command-iterator.ensures.into_iter_gives.0);
    }

-- the command is the first of those that are left
first : (c : In-Some) → map command_view (into_iter_items c.loop-command.command-iterator) ≡ command_view c.in-Some.command ∷ map command_view (into_iter_items c.next.new.self)
first c = ap (map command_view) c.in-Some.ensures.steps.0

pub loop-command-preserved : goal.loop-command-preserved
loop-command-preserved c =
    let split = first (goal.at.loop-command-preserved c).In-Some in
    let done = c.loop-command.done in
    let new = c.in-Ok.more in
    record {
      written = takes_on (length done.etags) (length new.etags) _ _ c.args.now _ _ _ (written_of done) (written_of new) _ (one_etag_more _ _ _ c.in-Ok.ensures.etags) split c.loop-command.invariant.written
          c.in-Ok.ensures.allowed c.in-Ok.ensures.written;
      etags = etags_on c.args.now _ _ _ (written_of done) (written_of new) done.etags new.etags _ split c.loop-command.invariant.etags c.in-Ok.ensures.written c.in-Ok.ensures.etags;
      left =
          let was = c.loop-command.invariant.left in
          let gone = c.in-Some.ensures.steps.1 in
          let short = ap length c.in-Some.ensures.steps.0 in
          omega arith;
    }

pub returns-in-Err-clause-refused : goal.returns-in-Err-clause-refused
returns-in-Err-clause-refused c =
    refuses _ _ _ c.args.now _ _ _ (written_of c.loop-command.done) _ c.in-Err.fault (first (goal.at.returns-in-Err-clause-refused c).In-Some) c.loop-command.invariant.written c.in-Err.ensures.refused

nothing_left : {X : Type 0} (xs : List X) → length xs ≡ 0 → xs ≡ []
nothing_left [] h = refl
nothing_left (x ∷ xs) h = absurd (omega arith)

empty : (c : In-None) → into_iter_items c.loop-command.command-iterator ≡ []
empty c = nothing_left _ (sym c.loop-command.invariant.left ∙ c.in-None.ensures.steps.0)

taken : (c : In-None) → commit (setting_of c.args.base.now c.args.limits.now) (writer_view c.args.writer) c.args.now (map command_view c.args.commands) c.args.store.now ≡ Ok (written_of c.loop-command.done)
taken c =
    let done = c.loop-command.done in
    sym c.loop-command.invariant.written
    ∙ ap (λ xs. commit_from (length done.etags) (setting_of c.args.base.now c.args.limits.now) (writer_view c.args.writer) c.args.now (map command_view xs) (written_of done)) (empty c)

pub returns-clause-ok : goal.returns-clause-ok
returns-clause-ok c = taken (goal.at.returns-clause-ok c).In-None

pub returns-clause-etags : goal.returns-clause-etags
returns-clause-etags c =
    let done = c.loop-command.done in
    sym (append-nil done.etags) ∙ ap (λ xs. done.etags ++ etags_taken c.args.now (map command_view xs) done.store) (sym (empty (goal.at.returns-clause-etags c).In-None)) ∙ c.loop-command.invariant.etags

pub returns-clause-grows : goal.returns-clause-grows
returns-clause-grows c = λ sound.
    commit-Commits _ _ c.args.now (map command_view c.args.commands) c.args.store.now (written_of c.loop-command.done) sound (taken (goal.at.returns-clause-grows c).In-None)
