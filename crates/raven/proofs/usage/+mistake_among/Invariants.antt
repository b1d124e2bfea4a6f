use Rattle.std.proofs.Common.{length}
use Rattle.raven.proofs.usage.+mistake_among.Given as goal

abbrev pub decreases-mistake_among : goal.decreases-mistake_among
decreases-mistake_among l = length l.words.now
