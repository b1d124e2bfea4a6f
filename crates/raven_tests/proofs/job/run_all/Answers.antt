use Rattle.std.proofs.Common.{rules}
use Rattle.raven_tests.proofs.Zips.{zip_of}
use Rattle.raven_tests.proofs.job.run_all.Goals as goal

pub returns-in-Ok : goal.returns-in-Ok
returns-in-Ok g c = zip_of g.J.Job.done c.args.jobs.items c.in-Ok.outs.items (search rules) (λ k a b l. c.in-Ok.ensures.each k a b (search rules))
