use Rattle.std.proofs.Common.{◌≡◌, ◌+◌, ◌-◌, ◌≤◌, ◌++◌, length, take, drop, flat_map, ap, subst, ◌∙◌, arith}
use Rattle.std.proofs.lemmas.List.{length-drop, take_all}
use Rattle.spec_data.specs.Written.{escaped}
use Rattle.raven_json.proofs.Plain.{run_written}
use Rattle.raven_json.proofs.encode.write_escaped.Goals as goal

pub loop-done-preserved-then-run-gt0 : goal.loop-done-preserved-then-run-gt0
loop-done-preserved-then-run-gt0 c =
    let n = c.loop-done.done in
    let m = c.plain_len-run.result in
    let xs = c.args.bytes.now in
    let l = length-drop n xs in
    let all : take (length xs - n) (drop n xs) ≡ drop n xs = take_all (length xs - n) (drop n xs) (omega (arith, l)) in
    let within : m ≤ length (drop n xs) = subst (λ ys. m ≤ length ys) all c.plain_len-run.ensures.in_range in
    let plain : flat_map escaped (take m (drop n xs)) ≡ take m (drop n xs) = subst (λ ys. flat_map escaped (take m ys) ≡ take m ys) all c.plain_len-run.ensures.plain in
    record {
      in_range = omega (arith, within, l, c.loop-done.invariant.in_range);
      written =
          ap (λ y. y ++ flat_map escaped (drop (n + m) xs)) (c.in_ok-extend_from_slice.ensures.items ∙ ap (λ ys. c.loop-done.out.items ++ take m ys) all)
          ∙ run_written c.loop-done.out.items xs n m plain ∙ c.loop-done.invariant.written;
    }
