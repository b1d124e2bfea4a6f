use Rattle.std.proofs.Common.{cond, option_map, ap, sym, subst, ◌≡◌, ◌∙◌}
use Rattle.std.specs.FinMap.{find}
use Rattle.std.specs.BTreeMap.{insert_entry}
use Rattle.spec_data.specs.Folding.{folded, key_cmp}
use Rattle.raven_value.specs.ScalarView.{scalar_view}
use Rattle.term_index.specs.Held.{Pairs, held, AreApart, AreTerms}
use Rattle.term_index.specs.KeyView.{by_mark, term_of}
use Rattle.term_index.proofs.Ties.{alike}
use Rattle.term_index.proofs.Changes.{find-insert, find-absent, apart-insert}
use Rattle.term_index.proofs.Counts.{terms-insert}
use Rattle.term_index.proofs.column.with_value.Goals as goal

-- the terms with that of the value
placed : (c : goal.In_ok-put-in-Some) → c.in_ok-put-in-Some.field-0 ≡ insert_entry by_mark c.args.terms (term_of c.in-Some.value.now c.args.id.now) tt
placed c = c.in_ok-put-in-Some.ensures.pairs ∙ ap (λ key. insert_entry by_mark c.args.terms key tt) c.in_ok-term-in-Some.ensures

pub returns-in_ok-put-in-Some-clause-values : goal.returns-in_ok-put-in-Some-clause-values
returns-in_ok-put-in-Some-clause-values c = λ q.
    ap (λ (es : Pairs). find key_cmp q (held es)) (placed c)
    ∙ (find-insert c.in-Some.value.now c.args.id.now q c.args.terms c.requires.new
    ∙ ap (λ o. cond (alike q (folded c.args.id.now)) (option_map (λ v. scalar_view v.now) o) (find key_cmp q (held c.args.terms))) (sym c.in-Some.is))

pub returns-in_ok-put-in-Some-clause-apart : goal.returns-in_ok-put-in-Some-clause-apart
returns-in_ok-put-in-Some-clause-apart c = subst (λ (es : Pairs). AreApart (held es)) (sym (placed c)) (apart-insert c.in-Some.value.now c.args.id.now c.args.terms c.requires.apart c.requires.new)

pub returns-in-None-clause-values : goal.returns-in-None-clause-values
returns-in-None-clause-values c = λ q.
    find-absent q (folded c.args.id.now) (held c.args.terms) c.requires.new
    ∙ ap (λ o. cond (alike q (folded c.args.id.now)) (option_map (λ v. scalar_view v.now) o) (find key_cmp q (held c.args.terms))) (sym c.in-None.is)

pub returns-in_ok-put-in-Some-clause-terms : goal.returns-in_ok-put-in-Some-clause-terms
returns-in_ok-put-in-Some-clause-terms c = subst AreTerms (sym (placed c)) (terms-insert c.in-Some.value.now c.args.id.now c.args.terms c.requires.terms)
