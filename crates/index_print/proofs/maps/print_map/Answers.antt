use Rattle.std.proofs.Common.{◌≡◌, ◌++◌, ap, sym, subst, ◌∙◌, flat_map, map, codes, string_bytes}
use Rattle.std.proofs.lemmas.Result.{IfOk-weaker}
use Rattle.index_print.specs.Print.{clause, listed, member, origin, printed_map}
use Rattle.index_print.specs.ReadBack.{ReadsBack}
use Rattle.index_tokens.specs.Tokens.{tokens_of}
use Rattle.index_grammar.specs.MapReading.{map_text}
use Rattle.index_print.proofs.MapSpells.{map_read_back}
use Rattle.index_print.proofs.Written.{five}
use Rattle.index_print.proofs.maps.print_map.Goals as goal

pub returns : goal.returns
returns c =
    let query = c.args.query.now in
    let whole : string_bytes c.add-2.new.out ≡ printed_map query =
    five _ _ _ _ _ _ _ _ _ _ _ c.in_ok-add_origin.ensures c.in_ok-add_clauses.ensures c.in_ok-add.ensures c.in_ok-add_members.ensures c.in_ok-add-2.ensures
    ∙ ap (λ z. z ++ (origin c.as_str.result.now c.as_str-2.result.now ++ (flat_map clause query.clauses ++ (codes " select new { " ++ (listed (map member query.members) ++ codes " }"))))) c.new-out.ensures.bytes
    ∙ ap (λ z. origin z c.as_str-2.result.now ++ (flat_map clause query.clauses ++ (codes " select new { " ++ (listed (map member query.members) ++ codes " }")))) c.as_str.ensures
    ∙ ap (λ z. origin query.var z ++ (flat_map clause query.clauses ++ (codes " select new { " ++ (listed (map member query.members) ++ codes " }")))) c.as_str-2.ensures in
    record {
      text = IfOk-weaker c.of_string.result _ _ (λ t e. e ∙ whole) c.of_string.ensures;
      reads_back = IfOk-weaker c.of_string.result _ _ (λ t e h. subst (λ z. ReadsBack query (map_text 0 (tokens_of z))) (sym (e ∙ whole)) (map_read_back query h)) c.of_string.ensures;
    }
