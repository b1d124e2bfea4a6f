use Rattle.std.proofs.Common.{◌≡◌, ◌≤◌, ◌++◌, Ok, length, map}
use Rattle.std.specs.Vec.Iter.{into_iter_items, into_iter_len}
use Rattle.spec_data.specs.Data.{items_depth, items_of}
use Rattle.spec_server.specs.Words.{then_read}
use Rattle.spec_server.specs.Commands.{commands_read}
use Rattle.raven_value.specs.View.{data_of}
use Rattle.doc_txn.specs.CommandView.{command_view}
use Rattle.raven_request.proofs.commands.commands_read.Given as goal

abbrev pub invariant-loop-value : goal.invariant-loop-value
invariant-loop-value l = record {
  count : into_iter_len l.value-iterator ≡ length (into_iter_items l.value-iterator);
  read : then_read (commands_read (map data_of (into_iter_items l.value-iterator))) (λ more. Ok (map command_view l.commands.items ++ more)) ≡ commands_read (map data_of l.fn.values.items);
  shallow : items_depth (items_of (map data_of (into_iter_items l.value-iterator))) ≤ 100;
}
