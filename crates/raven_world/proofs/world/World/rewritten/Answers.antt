use Rattle.std.proofs.Common.{◌≡◌, Err, Ok, map, refl, subst}
use Rattle.spec_store.specs.Commit.{Server, Written, commit}
use Rattle.spec_index.specs.World.{World}
use Rattle.doc_txn.specs.CommandView.{command_view}
use Rattle.doc_txn.specs.FaultView.{Refuses, kind_view}
use Rattle.doc_txn.specs.SettingView.{setting_of}
use Rattle.raven_world.proofs.Numbers.{commit-numbers}
use Rattle.raven_world.proofs.world.World.rewritten.Goals as goal

pub with-requires : goal.with-requires
with-requires c =
    let commands = map command_view c.args.commands in
    commit-numbers c.args.self.now c.args.now commands c.args.slots.slots c.in-Ok.store c.in-Ok.rows c.requires
    (subst (λ (W : World). let w : Written = record { store = c.in-Ok.store; rows = c.in-Ok.rows } in commit W.setting Server c.args.now commands W.store ≡ Ok w) c.self.view_is c.in-Ok.ensures.ok)

pub returns-in-Ok : goal.returns-in-Ok
returns-in-Ok c =
    let commands = map command_view c.args.commands in
    record {
      written = record { store = c.in-Ok.store; rows = c.in-Ok.rows };
      cause = subst (λ (W : World). let w : Written = record { store = c.in-Ok.store; rows = c.in-Ok.rows } in commit W.setting Server c.args.now commands W.store ≡ Ok w) c.self.view_is c.in-Ok.ensures.ok;
      rows = refl;
      world = c.in_ok-world-in-Ok.ensures;
    }

pub returns-in-Err-Refused : goal.returns-in-Err-Refused
returns-in-Err-Refused c =
    let commands = map command_view c.args.commands in
    record {
      refused = record { at = c.in-Err-Refused.at; kind = kind_view c.in-Err-Refused.kind };
      cause = subst (λ (W : World). commit W.setting Server c.args.now commands W.store ≡ Err (record { at = c.in-Err-Refused.at; kind = kind_view c.in-Err-Refused.kind })) c.self.view_is
          (subst (λ fault. Refuses fault (commit (setting_of c.self.inside.base c.self.inside.limits) Server c.args.now commands c.self.inside.store)) c.in-Err-Refused.field-0-is c.in-Err-Refused.ensures.refused);
      told = c.refused_at.ensures;
    }
