use Rattle.std.proofs.Common.{◌≡◌, ap, sym, ◌∙◌, arith}
use Rattle.std.specs.Option.{option_copied}
use Rattle.spec_data.specs.Rows.{Row}
use Rattle.doc_store.proofs.NewestLemmas.{greatest-bound, greatest-found, greatest-far, greatest-none}
use Rattle.doc_store.proofs.WalkLemmas.{found_past}
use Rattle.doc_store.proofs.rows_by_etag.RowsByEtag.last_at_most.Goals as goal

pub loop-low-init : goal.loop-low-init
loop-low-init c = record {
  above = omega arith;
  below = greatest-bound c.args.most c.args.self.now;
  within = omega arith;
}

pub loop-low-smaller-then-get-high : goal.loop-low-smaller-then-get-high
loop-low-smaller-then-get-high c =
    let past = found_past c.args.self.now _ c.in-Some.row.now (sym c.in-Some.ensures.row) in
    let etag : c.behind-row-in-Some.inside.etag ≡ c.in-Some.row.now.etag = ap (λ (r : Row). r.etag) (c.behind-row-in-Some.view_is ∙ c.get-in-Some.ensures) in
    let first : c.behind-row.inside.etag ≡ c.in-Some.row.now.etag = ap (λ (r : Row). r.etag) (c.behind-row.view_is ∙ c.get.ensures) in
    let open_yet = c.loop-low-test.true in
    omega arith

pub loop-low-preserved-then-get-high : goal.loop-low-preserved-then-get-high
loop-low-preserved-then-get-high c =
    let etag : c.behind-row-in-Some.inside.etag ≡ c.in-Some.row.now.etag = ap (λ (r : Row). r.etag) (c.behind-row-in-Some.view_is ∙ c.get-in-Some.ensures) in
    let first : c.behind-row.inside.etag ≡ c.in-Some.row.now.etag = ap (λ (r : Row). r.etag) (c.behind-row.view_is ∙ c.get.ensures) in
    record {
      above = let to = greatest-found _ c.args.most c.args.self.now c.in-Some.row.now c.first_after.ensures.rising (sym c.in-Some.ensures.row) (let h = c.if-get-high.true in let w = c.loop-low.invariant.within in omega arith) in omega arith;
      below = c.loop-low.invariant.below;
      within = c.loop-low.invariant.within;
    }

pub loop-low-preserved-in_default : goal.loop-low-preserved-in_default
loop-low-preserved-in_default c =
    let etag : c.behind-row.inside.etag ≡ c.in-Some.row.now.etag = ap (λ (r : Row). r.etag) (c.behind-row.view_is ∙ c.get.ensures) in
    record {
      above = c.loop-low.invariant.above;
      below = greatest-far _ c.args.most c.loop-low.high c.args.self.now c.in-Some.row.now c.first_after.ensures.rising (sym c.in-Some.ensures.row) (let h = c.if-get-high.false in omega arith) c.loop-low.invariant.below;
      within = let w = c.loop-low.invariant.within in let t = c.loop-low-test.true in omega arith;
    }

pub loop-low-preserved : goal.loop-low-preserved
loop-low-preserved c = record {
  above = c.loop-low.invariant.above;
  below = greatest-none _ c.args.most c.args.self.now (sym c.first_after.ensures.row ∙ ap option_copied c.in_default.is);
  within = let w = c.loop-low.invariant.within in let t = c.loop-low-test.true in omega arith;
}
