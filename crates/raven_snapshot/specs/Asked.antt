-- What the answer to a query or a look for a text costs.
use Rattle.std.specs.Prelude.{ℕ, length}
use Rattle.raven_base.specs.Counts.{Counts}
use Rattle.spec_server.specs.Asking.{Answered, MustMake, Ready}
use Rattle.spec_server.specs.Replies.{Reply, Answer, Found}
use Rattle.rql_eval.specs.Pages.{ReadsAtMost}

-- how many entries or rows are found, on whatever page; a refusal counts none
abbrev pub counted : Reply → ℕ
counted (Answer answer) = answer.total
counted (Found ids etag is_stale) = length ids
counted other = 0

-- no more rows were read than the answer counts, and nothing was mapped or merged
abbrev pub ReadsWhatItCounts : Reply → Counts → Counts → Type 0
ReadsWhatItCounts reply before after = ReadsAtMost (counted reply) before after

-- so it is for a reply, and nothing was read if an index has to be made first
abbrev pub ReadsToAnswer : Answered → Counts → Counts → Type 0
ReadsToAnswer (Ready reply) before after = ReadsWhatItCounts reply before after
ReadsToAnswer (MustMake shape) before after = ReadsAtMost 0 before after
