use Rattle.std.proofs.Common.{◌≡◌, ◌∙◌, ap, subst, sym}
use Rattle.std.specs.Ordering.{nat_cmp}
use Rattle.std.specs.Map.{remove_entry}
use Rattle.std.specs.BTreeMap.{is_at}
use Rattle.spec_data.specs.Rows.{Row, key}
use Rattle.spec_store.specs.Store.{Store}
use Rattle.doc_store.specs.Bounds.{AreCleaned}
use Rattle.doc_store.specs.Maps.{Shows, id_cmp, without_key}
use Rattle.doc_store.proofs.MapLemmas.{gone_shown, shown, shown_cleaned}
use Rattle.doc_store.proofs.OrderLemmas.{kept_in_order, same_store}
use Rattle.doc_store.proofs.TombstoneLemmas.{cleaned-without, here_among, shrunk, tombstones-without}
use Rattle.doc_store.proofs.store.Store.without_tombstone.Goals as goal
use Rattle.doc_store.proofs.store.Store.without_tombstone.Goals.{In_ok-take_out_among}

pub take_out_among-requires-clause-here : goal.take_out_among-requires-clause-here
take_out_among-requires-clause-here c =
    let s : Shows c.self.inside.by_id c.self.inside.by_collection c.self.inside.last c.args.self.rows = shown _ _ _ _ _ _ _ c.self.view_is c.self.invariant in
    here_among c.self.inside.by_collection c.args.self.rows c.args.row.now s.kept.store.apart c.requires.here (s.by_collections c.args.row.now.collection)

shows : (c : In_ok-take_out_among) → Shows c.in_ok-take_out.field-0 c.in_ok-take_out_among.field-0 c.self.inside.last (without_key (key c.args.row.now) c.args.self.rows)
shows c =
    shrunk c.self.inside.by_id c.self.inside.by_collection c.self.inside.last c.args.self.rows c.args.row.now _ _ (shown _ _ _ _ _ _ _ c.self.view_is c.self.invariant) c.requires.here c.requires.before
    (c.in_ok-take_out.ensures.pairs ∙ ap (λ (x : Row). remove_entry (is_at (id_cmp x.id)) c.self.inside.by_id) c.row.view_is) c.in_ok-take_out_among.ensures

cleaned_are : (c : In_ok-take_out_among) → c.self.inside.cleaned ≡ c.args.self.cleaned
cleaned_are c = ap (λ (S : Store). S.cleaned) c.self.view_is

pub invariant_of-result : goal.invariant_of-result
invariant_of-result c =
    let s : Shows c.self.inside.by_id c.self.inside.by_collection c.self.inside.last c.args.self.rows = shown _ _ _ _ _ _ _ c.self.view_is c.self.invariant in
    kept_in_order _ _ _ _ _ (without_key (key c.args.row.now) c.args.self.rows) (record {
      shows = shows (goal.at.invariant_of-result c).In_ok-take_out_among;
      gone_are =
          tombstones-without c.args.self.rows c.args.row.now c.self.inside.tombstones _ s.kept.store c.requires.here c.requires.tombstone (gone_shown _ _ _ _ _ _ _ c.self.view_is c.self.invariant)
          (c.in_ok-take_out-2.ensures.pairs ∙ ap (λ (x : Row). remove_entry (is_at (nat_cmp x.etag)) c.self.inside.tombstones) c.row.view_is);
      cleaned_is = subst (λ n. AreCleaned n (without_key (key c.args.row.now) c.args.self.rows)) (sym (cleaned_are (goal.at.invariant_of-result c).In_ok-take_out_among))
          (cleaned-without c.args.self.cleaned c.args.self.rows c.args.row.now (shown_cleaned _ _ _ _ _ _ _ c.self.view_is c.self.invariant) s.kept.store.apart c.requires.here c.requires.before);
    })

pub returns : goal.returns
returns c =
    same_store _ _ _ _ (let S : Store = record { rows = without_key (key c.args.row.now) c.args.self.rows; cleaned = c.args.self.cleaned } in S)
    (shows (goal.at.returns c).In_ok-take_out_among) (cleaned_are (goal.at.returns c).In_ok-take_out_among)
