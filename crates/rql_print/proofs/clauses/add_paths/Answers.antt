use Rattle.std.proofs.Common.{[], ◌∷◌, ap, map, refl, string_bytes}
use Rattle.spec_query.specs.Printing.{path_text}
use Rattle.rql_print.proofs.Written.{left_is, one_part_more}
use Rattle.rql_print.proofs.clauses.add_paths.Goals as goal

pub loop-path-preserved : goal.loop-path-preserved
unfolding lib.Utf8.encode
loop-path-preserved c = (
  (44 ∷ 32 ∷ [], (refl, refl)),
  one_part_more (string_bytes c.loop-path.out) (string_bytes c.add.new.out) (string_bytes c.add_path.new.out) _ _ _ _ _
      (ap (map path_text) (left_is c.args.paths.now c.loop-path.path-index c.path-item.result c.loop-path-test.true c.path-item.is)) c.in_ok-add.ensures c.in_ok-add_path.ensures c.loop-path.invariant.1,
)
