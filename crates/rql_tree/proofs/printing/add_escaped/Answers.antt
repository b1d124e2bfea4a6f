use Rattle.std.proofs.Common.{ap, sym, ◌∙◌, string_bytes, ◌++◌, arith}
use Rattle.rql_tree.proofs.Escapes.{unescaped}
use Rattle.rql_tree.proofs.printing.add_escaped.Goals as goal

pub returns-in_ok-push-in_default : goal.returns-in_ok-push-in_default
returns-in_ok-push-in_default c =
    c.in_ok-push-in_default.ensures.bytes ∙ ap (λ z. string_bytes c.args.out.now ++ z) (sym (unescaped c.args.letter (λ e. omega arith) (λ e. omega arith)))
