use Rattle.exact_tokens.proofs.MarkLemmas.{behind_one, behind_two}
use Rattle.rql_tokens.proofs.prefixes.mark_at.Goals as goal

pub returns-in-Some-double-clause-rest : goal.returns-in-Some-double-clause-rest
returns-in-Some-double-clause-rest c =
    behind_two _ _ _ _ _ c.in-Some.ensures.cases.0 c.in-Some-split_first.ensures.cases.0 c.in-Some-double.ensures.first_ascii c.in-Some-double.ensures.second_ascii c.requires

pub returns-in-Some-single-clause-rest : goal.returns-in-Some-single-clause-rest
returns-in-Some-single-clause-rest c = behind_one _ _ _ c.in-Some.ensures.cases.0 c.in-Some-single.ensures.ascii c.requires
