use Rattle.std.proofs.Common.{◌++◌, ◌∙◌, ap}
use Rattle.spec_data.specs.Written.{text_of}
use Rattle.raven_value.specs.View.{data_of}
use Rattle.raven_json.proofs.RoundTrip.{written_utf8}
use Rattle.raven_json.proofs.encode.write.Goals as goal

pub returns-clause-utf8 : goal.returns-clause-utf8
returns-clause-utf8 c =
    written_utf8 c.write_value.new.out.items (data_of c.args.value.now)
    (c.in_ok-write_value.ensures.text ∙ ap (λ out. out ++ text_of (data_of c.args.value.now)) c.new-out.ensures.items) c.in_ok-write_value.ensures.sound
