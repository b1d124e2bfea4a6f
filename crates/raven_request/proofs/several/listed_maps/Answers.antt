use Rattle.std.proofs.Common.{sym, ◌∙◌}
use Rattle.raven_request.proofs.SeveralMaps.{few-enough, too-few}
use Rattle.raven_request.proofs.several.listed_maps.Goals as goal

pub returns-then-not-are_so_many : goal.returns-then-not-are_so_many
returns-then-not-are_so_many c = too-few c.args.values.now c.bad_member.result (sym c.are_so_many.ensures ∙ c.if-not-are_so_many.true) c.bad_member.ensures

pub returns : goal.returns
returns c = few-enough c.args.values.now _ c.map_texts.result (sym c.are_so_many.ensures ∙ c.if-not-are_so_many.false) c.map_texts.ensures
