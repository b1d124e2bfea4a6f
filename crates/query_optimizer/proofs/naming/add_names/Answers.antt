use Rattle.std.proofs.Common.{◌∙◌, ◌++◌, ap, string_bytes}
use Rattle.query_optimizer.proofs.Listed.{all_added}
use Rattle.query_optimizer.proofs.naming.add_names.Goals as goal

pub returns : goal.returns
returns c =
    all_added (string_bytes c.args.text.now) c.in-Some.first.now (string_bytes c.push_str.new.self) (string_bytes c.loop-name.text) c.in-Some.more.now c.args.names.now c.loop-name.name-index
    c.loop-name-test.false c.loop-name.invariant (c.in_ok-push_str.ensures.bytes ∙ ap (λ first. string_bytes c.args.text.now ++ first) c.as_str.ensures) c.in-Some.ensures.cases.0
