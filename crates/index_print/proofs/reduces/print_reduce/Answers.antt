use Rattle.std.proofs.Common.{◌≡◌, ◌++◌, ap, sym, subst, ◌∙◌, map, codes, string_bytes}
use Rattle.std.proofs.lemmas.Result.{IfOk-weaker}
use Rattle.index_print.specs.Print.{grouping, listed, fold_member, printed_reduce}
use Rattle.index_print.specs.ReadBack.{ReadsBackReduce}
use Rattle.index_tokens.specs.Tokens.{tokens_of}
use Rattle.reduce_grammar.specs.ReduceReading.{reduce_text}
use Rattle.index_print.proofs.ReduceSpells.{reduce_read_back}
use Rattle.index_print.proofs.Written.{six}
use Rattle.index_print.proofs.reduces.print_reduce.Goals as goal

pub returns : goal.returns
returns c =
    let query = c.args.query.now in
    let whole : string_bytes c.add-4.new.out ≡ printed_reduce query =
    six _ _ _ _ _ _ _ _ _ _ _ _ _ c.in_ok-add_grouping.ensures c.in_ok-add.ensures c.in_ok-add-2.ensures c.in_ok-add-3.ensures c.in_ok-add_members.ensures c.in_ok-add-4.ensures
    ∙ ap (λ z. z ++ (grouping c.as_str.result.now query.key ++ (codes " into " ++ (c.as_str-2.result.now ++ (codes " select new { " ++ (listed (map (fold_member c.as_str-3.result.now query.key) query.members) ++ codes " }")))))) c.new-out.ensures.bytes
    ∙ ap (λ z. grouping z query.key ++ (codes " into " ++ (c.as_str-2.result.now ++ (codes " select new { " ++ (listed (map (fold_member c.as_str-3.result.now query.key) query.members) ++ codes " }"))))) c.as_str.ensures
    ∙ ap (λ z. grouping query.var query.key ++ (codes " into " ++ (z ++ (codes " select new { " ++ (listed (map (fold_member c.as_str-3.result.now query.key) query.members) ++ codes " }"))))) c.as_str-2.ensures
    ∙ ap (λ z. grouping query.var query.key ++ (codes " into " ++ (query.group ++ (codes " select new { " ++ (listed (map (fold_member z query.key) query.members) ++ codes " }"))))) c.as_str-3.ensures in
    record {
      text = IfOk-weaker c.of_string.result _ _ (λ t e. e ∙ whole) c.of_string.ensures;
      reads_back = IfOk-weaker c.of_string.result _ _ (λ t e h. subst (λ z. ReadsBackReduce query (reduce_text 0 (tokens_of z))) (sym (e ∙ whole)) (reduce_read_back query h)) c.of_string.ensures;
    }
