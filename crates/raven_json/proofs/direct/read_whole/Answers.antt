use Rattle.std.proofs.lemmas.Result.{IfOk-weaker}
use Rattle.raven_value.specs.View.{data_of}
use Rattle.raven_json.proofs.OnePass.{whole_reading}
use Rattle.raven_json.proofs.direct.read_whole.Goals as goal

pub returns : goal.returns
returns c =
    IfOk-weaker c.read_str.result _ _ (λ v read. whole_reading c.args.bytes.now (data_of v) c.requires c.in-Ok.ensures.1 (rw c.in-Ok.ensures.0 at read)) c.read_str.ensures
