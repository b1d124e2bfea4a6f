use Rattle.std.proofs.Common.{rules, ◌≡◌, ◌<◌, ◌+◌, ◌∷◌, [], Bor, List, ℕ, drop, get_or, length, map, ap, sym, ◌∙◌}
use Rattle.std.proofs.lemmas.List.{drop_all, drop_more}
use Rattle.std.proofs.lemmas.Result.{err_from_is_err_and}
use Rattle.raven_request.specs.RequestView.{part_view}
use Rattle.raven_request.specs.Several.{several_view}
use Rattle.raven_request.proofs.SeveralMaps.{all-said, part-refused, part-said}
use Rattle.raven_request.proofs.several.parts_by.Goals as goal

-- the texts behind these references
abbrev texts : List (Bor (List ℕ)) → List (List ℕ)
texts maps = map (λ (m : Bor (List ℕ)). m.now) maps

abbrev nowhere : Bor (List ℕ)
nowhere = record { ref_ptr = (0, 0); now = [] }

next-text : (slice items : List (Bor (List ℕ))) (k : ℕ) → slice ≡ items → k < length slice → texts (drop k items) ≡ (get_or slice k nowhere).now ∷ texts (drop (k + 1) items)
next-text slice items k same more =
    let m = (get_or slice k nowhere).now in
    ap (λ xs. texts (drop k xs)) (sym same) ∙ ap texts (drop_more slice k nowhere more) ∙ ap (λ xs. m ∷ texts (drop (k + 1) xs)) same

pub returns-in_err-part : goal.returns-in_err-part
returns-in_err-part c =
    let items = c.args.texts.now.maps.items in
    let slice = c.as_slice-map-items.result.now in
    let k = c.loop-map.map-index in
    let p = err_from_is_err_and c.from_residual.result c.from_residual.ensures.1 in
    rw (p.1, p.2)
    (part-refused (several_view c.args.texts.now) (c.len.result + 1) k (texts (drop k items)) (get_or slice k nowhere).now (texts (drop (k + 1) items))
    (ap (λ n. n + 1) (c.len.ensures ∙ c.loop-map.invariant.count)) (next-text slice items k c.as_slice-map-items.ensures.value c.loop-map-test.true)
    (map part_view c.loop-map.parts.items) c.in_err-part.field-0.0 c.in_err-part.ensures c.loop-map.invariant.later)

pub loop-map-preserved : goal.loop-map-preserved
loop-map-preserved c =
    let items = c.args.texts.now.maps.items in
    let slice = c.as_slice-map-items.result.now in
    let k = c.loop-map.map-index in
    record {
      count = search rules;
      later = part-said (several_view c.args.texts.now) (c.len.result + 1) k (texts (drop k items)) (get_or slice k nowhere).now (texts (drop (k + 1) items))
          (ap (λ n. n + 1) (c.len.ensures ∙ c.loop-map.invariant.count)) (next-text slice items k c.as_slice-map-items.ensures.value c.loop-map-test.true)
          c.loop-map.parts.items c.push.new.self.items c.in_ok-part.part (search rules) c.in_ok-part.ensures c.loop-map.invariant.later;
    }

pub returns : goal.returns
returns c =
    let items = c.args.texts.now.maps.items in
    let slice = c.as_slice-map-items.result.now in
    let k = c.loop-map.map-index in
    all-said (several_view c.args.texts.now) k (texts (drop k items)) c.loop-map.parts.items
    (ap (λ xs. texts (drop k xs)) (sym c.as_slice-map-items.ensures.value) ∙ ap texts (drop_all k slice c.loop-map-test.false)) c.loop-map.invariant.later
