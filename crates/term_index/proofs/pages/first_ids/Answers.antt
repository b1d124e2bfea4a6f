use Rattle.std.proofs.Common.{◌++◌, ◌∷◌, [], ap, ◌∙◌}
use Rattle.term_index.proofs.Lined.{page_more}
use Rattle.term_index.proofs.pages.first_ids.Goals as goal

pub loop-pair-preserved-in-At : goal.loop-pair-preserved-in-At
loop-pair-preserved-in-At c =
    page_more c.loop-pair.ids c.push.new.self c.loop-pair.left c.in-At.term c.loop-pair.pair-iterator c.next.new.self c.if-left-eq0.false (c.in-Some.ensures.steps ∙ ap (λ key. (key, tt) ∷ c.next.new.self) c.in-At.is)
    (c.in_ok-push.ensures.ok ∙ ap (λ x. c.loop-pair.ids ++ x ∷ []) (c.in_ok-clone.ensures.cases ∙ (c.get-in-At.ensures ∙ ap (λ t. t.id) c.get.ensures)))
    ∙ c.loop-pair.invariant
