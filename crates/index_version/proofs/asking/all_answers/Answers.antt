use Rattle.std.proofs.Common.{◌≡◌, ◌++◌, ap, drop, length, map, subst, sym, take, ◌∙◌}
use Rattle.std.specs.FinMap.{get}
use Rattle.std.specs.List.{All, AllZip}
use Rattle.spec_data.specs.Rows.{Row}
use Rattle.index_tree.specs.Meaning.{Mapped}
use Rattle.index_tree.specs.Mapper.{mapper_of}
use Rattle.index_definition.specs.DefinitionView.{definition_view}
use Rattle.index_version.specs.Asked.{IsAnswer, IsAnswered}
use Rattle.index_version.proofs.Answering.{all_answered, ids_answered, taken}
use Rattle.index_version.proofs.asking.all_answers.Given.{Over}
use Rattle.index_version.proofs.asking.all_answers.Goals as goal
use Rattle.index_version.proofs.asking.all_answers.Goals.{After-answer_all}

-- all questions are answered, in their places
whole : (g : Over) (c : After-answer_all g) → take c.in_ok-all.all.len (c.answer_all.new.asked ++ drop (length c.answer_all.new.asked) c.in_ok-all.all.items) ≡ c.answer_all.new.asked
whole g c = taken c.in_ok-all.all.len c.answer_all.new.asked (drop (length c.answer_all.new.asked) c.in_ok-all.all.items)
    (c.answer_all.auto.asked ∙ ap length c.deref_mut.ensures.value ∙ sym c.in_ok-all.all.ok.0)

abbrev meaning_of : (g : Over) (c : After-answer_all g) → Row → Mapped
meaning_of g c d = g.M.Mapper.meaning c.args.mapper.now d (get c.args.table.now)

answers : (g : Over) (c : After-answer_all g) → AllZip (IsAnswer (meaning_of g c)) c.in_ok-all.all.items c.answer_all.new.asked
answers g c = subst (λ before. AllZip (IsAnswer (meaning_of g c)) before c.answer_all.new.asked) c.deref_mut.ensures.value c.answer_all.ensures

pub returns-clause-ids : goal.returns-clause-ids
returns-clause-ids g c =
    let c = (goal.at.returns-clause-ids g c).After-answer_all in
    ap (map (λ a. a.id.now)) (whole g c) ∙ ids_answered (meaning_of g c) c.in_ok-all.all.items c.answer_all.new.asked (answers g c) ∙ c.in_ok-all.ensures.ids

pub returns-clause-answered : goal.returns-clause-answered
returns-clause-answered g c =
    let c = (goal.at.returns-clause-answered g c).After-answer_all in
    let m = mapper_of (definition_view c.args.definition.now.body) in
    let T = c.args.table.now in
    subst (All (IsAnswered m T)) (sym (whole g c))
    (all_answered m T c.in_ok-all.all.items c.answer_all.new.asked c.in_ok-all.ensures.questions
    (subst (λ meaning. AllZip (IsAnswer meaning) c.in_ok-all.all.items c.answer_all.new.asked) (λ i d. c.requires.means d T i) (answers g c)))
