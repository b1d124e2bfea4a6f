use Rattle.std.proofs.Common.{◌∙◌}
use Rattle.std.proofs.lemmas.Result.{IfOk-weaker}
use Rattle.index_groups.proofs.Parts.{cells_parted, nothing_seen, words_parted}
use Rattle.index_groups.proofs.together.+groups_together.Goals as goal

pub returns-in-empty-clause-groups : goal.returns-in-empty-clause-groups
returns-in-empty-clause-groups g t c = λ query alike. c.new.ensures.items ∙ nothing_seen query c.args.parts.now c.in-empty.len_below

pub returns-in_ok-b-in_default-clause-groups : goal.returns-in_ok-b-in_default-clause-groups
returns-in_ok-b-in_default-clause-groups g t c =
    IfOk-weaker c.merged.result _ _ (λ groups e.
    cells_parted c.args.parts.now c.split_at.result.0.now c.split_at.result.1.now c.split_at.ensures.by_index.0 c.deref.result.now c.deref-in_default.result.now groups.items
    (λ query alike. c.deref.ensures.value ∙ c.in_ok-a-in_default.ensures.groups query alike) (λ query alike. c.deref-in_default.ensures.value ∙ c.in_ok-b-in_default.ensures.groups query alike) e) c.merged.ensures

pub returns-in_ok-b-in_default-clause-words : goal.returns-in_ok-b-in_default-clause-words
returns-in_ok-b-in_default-clause-words g t c =
    IfOk-weaker c.merged.result _ _ (λ groups e.
    words_parted c.args.parts.now c.split_at.result.0.now c.split_at.result.1.now c.split_at.ensures.by_index.0 c.in_ok-a-in_default.ensures.words c.in_ok-b-in_default.ensures.words) c.merged.ensures
