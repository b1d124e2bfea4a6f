use Rattle.std.proofs.lemmas.Result.{IfOk-weaker}
use Rattle.raven_json.proofs.SoundLemmas.{reading-fine}
use Rattle.raven_value.specs.View.{data_of}
use Rattle.raven_json.proofs.decode.read.Goals as goal

pub returns-clause-sound : goal.returns-clause-sound
returns-clause-sound c = IfOk-weaker c.read_shallow.result _ _ (λ v read. (reading-fine c.args.bytes.now (data_of v) read).0) c.read_shallow.ensures.ok

pub returns-clause-shallow : goal.returns-clause-shallow
returns-clause-shallow c = IfOk-weaker c.read_shallow.result _ _ (λ v read. (reading-fine c.args.bytes.now (data_of v) read).1) c.read_shallow.ensures.ok
