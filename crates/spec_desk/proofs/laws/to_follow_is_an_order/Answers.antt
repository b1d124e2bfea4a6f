use Rattle.spec_desk.proofs.Later.{Follows-itself, Follows-then, etags-more}
use Rattle.spec_desk.proofs.laws.to_follow_is_an_order.Goals as goal

pub returns-clause-itself : goal.returns-clause-itself
returns-clause-itself c = Follows-itself

pub returns-clause-steps : goal.returns-clause-steps
returns-clause-steps c = Follows-then

pub returns-clause-etags : goal.returns-clause-etags
returns-clause-etags c = etags-more
