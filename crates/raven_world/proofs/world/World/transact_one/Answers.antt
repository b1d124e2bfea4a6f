use Rattle.std.proofs.Common.{◌≡◌, ◌≤◌, ◌∷◌, [], Ok, Err, subst}
use Rattle.spec_store.specs.Commit.{Client, commit, etags_taken}
use Rattle.spec_store.specs.Store.{last}
use Rattle.spec_index.specs.World.{World}
use Rattle.doc_txn.specs.CommandView.{command_view}
use Rattle.doc_txn.specs.FaultView.{Refuses, kind_view}
use Rattle.doc_txn.specs.SettingView.{setting_of}
use Rattle.doc_txn.specs.TransactionView.{written_of}
use Rattle.raven_world.proofs.Numbers.{commit-grown}
use Rattle.raven_world.proofs.world.World.transact_one.Goals as goal

pub returns-in-Ok-clause-done : goal.returns-in-Ok-clause-done
returns-in-Ok-clause-done c =
    let commands = command_view c.args.command ∷ [] in (
      subst (λ (W : World). commit W.setting Client c.args.now commands W.store ≡ Ok (written_of c.in-Ok.done)) c.self.view_is c.in-Ok.ensures.ok,
      subst (λ (W : World). c.in-Ok.done.etags ≡ etags_taken c.args.now commands W.store) c.self.view_is c.in-Ok.ensures.etags,
    )

pub returns-in-Err-Refused-clause-done : goal.returns-in-Err-Refused-clause-done
returns-in-Err-Refused-clause-done c =
    let commands = command_view c.args.command ∷ [] in
    record {
      refused = record { at = c.in-Err-Refused.at; kind = kind_view c.in-Err-Refused.kind };
      cause = subst (λ (W : World). commit W.setting Client c.args.now commands W.store ≡ Err (record { at = c.in-Err-Refused.at; kind = kind_view c.in-Err-Refused.kind })) c.self.view_is
          (subst (λ fault. Refuses fault (commit (setting_of c.self.inside.base c.self.inside.limits) Client c.args.now commands c.self.inside.store)) c.in-Err-Refused.field-0-is c.in-Err-Refused.ensures.refused);
      told = c.refused_at.ensures;
    }

pub returns-in-Ok-clause-later : goal.returns-in-Ok-clause-later
returns-in-Ok-clause-later c =
    subst (λ (W : World). last W.store ≤ last c.in-Ok.done.store) c.self.view_is
    (commit-grown (setting_of c.self.inside.base c.self.inside.limits) Client c.args.now (command_view c.args.command ∷ []) c.self.inside.store (written_of c.in-Ok.done) c.in-Ok.ensures.ok)
