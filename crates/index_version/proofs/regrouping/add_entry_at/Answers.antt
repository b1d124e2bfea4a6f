use Rattle.std.proofs.Common.{subst, sym}
use Rattle.map_stage.specs.Words.{OutcomeHasWords}
use Rattle.index_groups.specs.Groups.{HaveWords, fields_of}
use Rattle.index_version.specs.Kept.{Given}
use Rattle.index_version.specs.Reduced.{fields_given}
use Rattle.index_version.proofs.GroupChanges.{words_more}
use Rattle.index_version.proofs.regrouping.add_entry_at.Goals as goal

pub returns-in_ok-push-clause-words : goal.returns-in_ok-push-clause-words
returns-in_ok-push-clause-words c = λ h.
    subst (λ es. HaveWords (fields_of fields_given es)) (sym c.in_ok-push.ensures.items)
    (words_more c.args.entries.now.items c.in_ok-clone.field-0 c.in_ok-clone-2.field-0 (subst (λ (g : Given). OutcomeHasWords g.mapped.outcome) (sym c.in_ok-clone-2.ensures.cases) c.in-Some.ensures.words) h)
