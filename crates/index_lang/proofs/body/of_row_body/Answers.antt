use Rattle.std.proofs.Common.{option_map, sym, ◌∙◌, ap}
use Rattle.raven_value.specs.View.{data_of}
use Rattle.index_lang.proofs.Forms.{first-read, second-read}
use Rattle.index_lang.proofs.body.of_row_body.Goals as goal

pub returns-then-says_two : goal.returns-then-says_two
returns-then-says_two c = second-read c.args.body.now c.as_slice-count.result.now c.in-Map.members c.counted_in.result (option_map (λ v. data_of v.now) c.get.result)
    (ap data_of c.in-Map.is) c.as_slice-count.ensures.members c.get.ensures (sym c.says_two.ensures ∙ c.if-says_two.true) c.counted_in.ensures

pub returns-else-says_two : goal.returns-else-says_two
returns-else-says_two c = first-read c.args.body.now c.as_slice-count.result.now c.in-Map.members c.counted_in-else-says_two.result (option_map (λ v. data_of v.now) c.get.result)
    (ap data_of c.in-Map.is) c.as_slice-count.ensures.members c.get.ensures (sym c.says_two.ensures ∙ c.if-says_two.false) c.counted_in-else-says_two.ensures
