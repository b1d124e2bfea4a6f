use Rattle.spec_server.specs.Machine.{course_of}
use Rattle.spec_desk.specs.Stepped.{reply_after}
use Rattle.spec_desk.proofs.Making.{stepped}
use Rattle.spec_desk.proofs.laws.settled_courses_are_steps.Goals as goal

pub returns : goal.returns
returns c = λ now q x s y h. let reply = (course_of x.world now q).reply in stepped now q x (reply_after s reply) y (h reply)
