use Rattle.std.proofs.Common.{filter, ◌∙◌, ap, sym, arith}
use Rattle.spec_store.specs.Store.{last_of}
use Rattle.spec_store.specs.Stale.{up_to}
use Rattle.spec_data.specs.Rows.{Row}
use Rattle.doc_store.specs.Maps.{ShowsByEtag}
use Rattle.doc_store.proofs.MapLemmas.{shown_by_etag}
use Rattle.doc_store.proofs.NewestLemmas.{last-all, last-within}
use Rattle.doc_store.proofs.rows_by_etag.RowsByEtag.last_up_to.Goals as goal

pub returns-in-None : goal.returns-in-None
returns-in-None c =
    let s : ShowsByEtag c.self.inside.rows c.self.inside.last c.self.inside.documents c.self.inside.least c.args.self.now = shown_by_etag _ _ _ _ _ c.self.view_is c.self.invariant in
    s.last_is ∙ last-all c.args.bound c.args.self.now c.in-None.is

pub returns-then-self-most : goal.returns-then-self-most
returns-then-self-most c =
    let s : ShowsByEtag c.self.inside.rows c.self.inside.last c.self.inside.documents c.self.inside.least c.args.self.now = shown_by_etag _ _ _ _ _ c.self.view_is c.self.invariant in
    s.last_is ∙ last-within c.args.bound c.in-Some.most c.args.self.now s.store.rising c.in-Some.is (let h = c.if-self-most.true in let e = s.last_is in omega arith)

pub returns-else-self-most : goal.returns-else-self-most
returns-else-self-most c =
    c.last_at_most.ensures ∙ ap (λ b. last_of 0 (filter (λ (r : Row). up_to b r.etag) c.args.self.now)) (sym c.in-Some.is)
