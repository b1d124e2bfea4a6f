use Rattle.std.proofs.Common.{ap}
use Rattle.spec_server.specs.Courses.{Replied}
use Rattle.spec_server.specs.Machine.{course_of}
use Rattle.spec_desk.proofs.Parts.{cut_step, cut_takes}
use Rattle.spec_desk.proofs.laws.parts_are_left_by_steps.Goals as goal

pub returns : goal.returns
returns c = λ M now before after q keeper V held m.
    (cut_takes (course_of M.world now q).changes M.world keeper V held m, ap (λ (r : Replied). r.machine) (cut_step M now before after q keeper V held m))
