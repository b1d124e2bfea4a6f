use Rattle.serde_json.specs.View.{view}
use Rattle.raven_json.proofs.Readings.{is_json, is_no_json, ok_of, err_of, never}
use Rattle.raven_json.proofs.decode.read_by_tree.Goals as goal

pub returns-in-Ok-clause-ok : goal.returns-in-Ok-clause-ok
returns-in-Ok-clause-ok c =
    let found = is_json c.args.bytes.now (view c.in-Ok.json) c.requires c.in-Ok.ensures.ok.0 c.in-Ok.ensures.ok.1 in
    ok_of c.value_of.result _ (view c.in-Ok.json) found c.value_of.ensures.ok

pub returns-in-Ok-clause-refused : goal.returns-in-Ok-clause-refused
returns-in-Ok-clause-refused c =
    let found = is_json c.args.bytes.now (view c.in-Ok.json) c.requires c.in-Ok.ensures.ok.0 c.in-Ok.ensures.ok.1 in
    err_of c.value_of.result _ (view c.in-Ok.json) found c.value_of.ensures.err

pub returns-else-is_memory-clause-refused : goal.returns-else-is_memory-clause-refused
returns-else-is_memory-clause-refused c = is_no_json c.args.bytes.now c.requires (c.in-Err.ensures.err (never c.if-is_memory.ensures.1))
