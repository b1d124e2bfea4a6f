use Rattle.std.proofs.Common.{◌++◌, length, ap, sym, subst, ◌∙◌, append-nil}
use Rattle.std.specs.Vec.Iter.{into_iter_items}
use Rattle.std.proofs.lemmas.List.{nil_from_length}
use Rattle.spec_data.specs.Folding.{folded}
use Rattle.term_index.specs.Columns.{HasFields, fields_of, with_fields}
use Rattle.term_index.proofs.terms.Terms.replace.Goals as goal

pub loop-column-init : goal.loop-column-init
loop-column-init c =
    let items = c.into_iter-column-iterator.ensures.into_iter_gives.0 ∙ c.self.view_is in
    record {
      old = subst (HasFields (folded c.args.id.now) (fields_of c.args.old.now)) (sym items) c.requires;
      new =
          ap (λ done. done ++ with_fields (folded c.args.id.now) (fields_of c.args.new.now) (into_iter_items c.into_iter-column-iterator.result)) c.in_ok-columns.ensures.items
          ∙ ap (with_fields (folded c.args.id.now) (fields_of c.args.new.now)) items;
      left = c.into_iter-column-iterator.ensures.into_iter_gives.1 ∙ c.self.inside.columns.ok.0 ∙ ap length (sym c.into_iter-column-iterator.ensures.into_iter_gives.0);
    }

pub returns : goal.returns
returns c =
    let none = nil_from_length (into_iter_items c.loop-column.column-iterator) (sym c.loop-column.invariant.left ∙ c.in-None.ensures.steps.0) in
    sym (append-nil c.loop-column.columns.items) ∙ ap (λ left. c.loop-column.columns.items ++ with_fields (folded c.args.id.now) (fields_of c.args.new.now) left) (sym none) ∙ c.loop-column.invariant.new
