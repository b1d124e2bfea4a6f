use Rattle.std.proofs.Common.{◌≤◌, length, subst, sym}
use Rattle.std.specs.Prelude.{IfSome}
use Rattle.reference_track.specs.Folded.{by_folded}
use Rattle.index_groups.specs.Groups.{AreSmall}
use Rattle.index_version.specs.Reduced.{HasEntries}
use Rattle.index_version.proofs.GroupChanges.{come_new, entries_new, gone_there}
use Rattle.index_version.proofs.regrouping.regrouped.Goals as goal

pub changed-requires-clause-there : goal.changed-requires-clause-there
changed-requires-clause-there g c =
    gone_there c.args.before.now.given c.args.after.now.given c.args.ids.now c.in_ok-gone-in-Some.gone.items c.in_ok-come-in-Some.come.items c.in-Some.groups c.requires.once
    (subst (λ o. IfSome o (HasEntries (by_folded c.args.before.now.given))) c.in-Some.is c.requires.entries) c.in_ok-gone-in-Some.ensures.entries c.in_ok-come-in-Some.ensures.entries

pub changed-requires-clause-new : goal.changed-requires-clause-new
changed-requires-clause-new g c =
    come_new c.args.before.now.given c.args.after.now.given c.args.ids.now c.in_ok-gone-in-Some.gone.items c.in_ok-come-in-Some.come.items c.in-Some.groups c.requires.once
    (subst (λ o. IfSome o (HasEntries (by_folded c.args.before.now.given))) c.in-Some.is c.requires.entries) c.in_ok-gone-in-Some.ensures.entries c.in_ok-come-in-Some.ensures.entries

pub returns-in_ok-changed-in-Some-clause-entries : goal.returns-in_ok-changed-in-Some-clause-entries
returns-in_ok-changed-in-Some-clause-entries g c =
    entries_new c.args.before.now.given c.args.after.now.given c.args.ids.now c.in_ok-gone-in-Some.gone.items c.in_ok-come-in-Some.come.items c.in-Some.groups c.requires.once
    (subst (λ o. IfSome o (HasEntries (by_folded c.args.before.now.given))) c.in-Some.is c.requires.entries) c.in_ok-gone-in-Some.ensures.entries c.in_ok-come-in-Some.ensures.entries
    c.in_ok-changed-in-Some.field-0 c.in_ok-changed-in-Some.ensures.entries c.requires.others

pub returns-in_ok-changed-in-Some-clause-merges : goal.returns-in_ok-changed-in-Some-clause-merges
returns-in_ok-changed-in-Some-clause-merges g c = λ m h few less one small small_too.
    c.in_ok-changed-in-Some.ensures.merges m h (subst (λ es. length es ≤ m) (sym c.in_ok-gone-in-Some.ensures.entries) few) (subst (λ es. length es ≤ m) (sym c.in_ok-come-in-Some.ensures.entries) less) one
    (subst (λ o. IfSome o (AreSmall h)) c.in-Some.is small) small_too
