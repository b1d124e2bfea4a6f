use Rattle.std.proofs.Common.{◌∙◌, ap, drop, sym, take}
use Rattle.std.proofs.lemmas.List.{drop-map, take-map}
use Rattle.doc_store.specs.Maps.{rows_in}
use Rattle.doc_store.proofs.IdLemmas.{in_order}
use Rattle.doc_store.proofs.page.gathered.Goals as goal

pub returns : goal.returns
returns c =
    let s = c.in_ok-pairs.ensures in
    c.in_ok-rows_of.ensures ∙ ap rows_in (c.cut.ensures ∙ ap (λ xs. take c.args.size (drop c.args.start xs)) c.deref.ensures.value)
    ∙ sym (ap (take c.args.size) (drop-map (λ e. e.1) c.args.start c.in_ok-pairs.pairs.items) ∙ take-map (λ e. e.1) c.args.size (drop c.args.start c.in_ok-pairs.pairs.items))
    ∙ ap (λ xs. take c.args.size (drop c.args.start xs)) (in_order c.in_ok-pairs.pairs.items c.args.rows.now (s.apart.1 c.requires) s.filed s.found)
