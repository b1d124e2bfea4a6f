use Rattle.std.proofs.Common.{◌+◌, ◌++◌, ◌∷◌, [], ap, append_assoc, drop, sym, ◌∙◌}
use Rattle.index_version.specs.Reduced.{entries_at}
use Rattle.index_version.proofs.GroupChanges.{next_is, single_more}
use Rattle.index_version.proofs.regrouping.entries_at.Goals as goal

pub loop-id-preserved : goal.loop-id-preserved
loop-id-preserved c =
    let all = c.args.all.now in
    let old = c.loop-id.entries.items in
    let rest = drop (c.loop-id.id-index + 1) c.args.ids.now in
    record {
      entries =
          ap (λ es. es ++ entries_at all rest) c.in_ok-add_entry_at.ensures.entries ∙ append_assoc old (entries_at all (c.id-item.result ∷ [])) (entries_at all rest)
          ∙ ap (λ es. old ++ es) (sym (single_more all c.id-item.result rest))
          ∙ ap (λ ids. old ++ entries_at all ids) (sym (next_is c.args.ids.now c.loop-id.id-index c.id-item.result c.loop-id-test.true c.id-item.is)) ∙ c.loop-id.invariant.entries;
      words = c.in_ok-add_entry_at.ensures.words c.loop-id.invariant.words;
    }
