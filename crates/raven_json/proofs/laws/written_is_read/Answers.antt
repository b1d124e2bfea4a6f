use Rattle.raven_json.proofs.RoundTrip.{reading-text_of}
use Rattle.raven_json.proofs.laws.written_is_read.Goals as goal

pub returns : goal.returns
returns c = reading-text_of
