use Rattle.std.proofs.Common.{◌++◌, ap, ◌∙◌}
use Rattle.reference_track.specs.Sets.{is_one_of}
use Rattle.term_index.proofs.Ordered.{is_one_of-both}
use Rattle.term_index.proofs.sets.union.Goals as goal

pub returns-clause-members : goal.returns-clause-members
returns-clause-members c = λ q.
    c.in_order.ensures.members q
    ∙ (ap (is_one_of q) (c.in_ok-add.ensures ∙ ap (λ l. l ++ c.args.others) c.into_vec-all.ensures) ∙ is_one_of-both q c.args.ids c.args.others)
