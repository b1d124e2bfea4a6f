use Rattle.std.proofs.Common.{◌≡◌, map, take}
use Rattle.spec_store.specs.Commit.{AnyVector, Delete}
use Rattle.spec_index.specs.World.{index_id}
use Rattle.doc_txn.specs.CommandView.{command_view}
use Rattle.side_by_side.proofs.retire.deleting_all.Given as goal

abbrev pub invariant-loop-name : goal.invariant-loop-name
invariant-loop-name l = map command_view l.commands ≡ map (λ name. Delete (index_id name) AnyVector) (take l.name-index l.names)
