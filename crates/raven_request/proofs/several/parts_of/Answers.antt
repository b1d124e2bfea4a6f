use Rattle.raven_value.specs.View.{data_of}
use Rattle.raven_request.specs.Several.{several_view}
use Rattle.raven_request.proofs.SeveralMaps.{several-fits}
use Rattle.raven_request.proofs.several.parts_of.Goals as goal

pub parts_by-requires : goal.parts_by-requires
parts_by-requires c = several-fits (data_of c.args.value.now) (several_view c.in_ok-texts.texts) c.in_ok-texts.ensures
