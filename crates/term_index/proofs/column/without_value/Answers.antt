use Rattle.std.proofs.Common.{option_map, ap, sym, subst, ◌∙◌}
use Rattle.std.specs.FinMap.{find}
use Rattle.std.specs.Map.{remove_entry}
use Rattle.std.specs.BTreeMap.{is_at}
use Rattle.spec_data.specs.Folding.{folded, key_cmp}
use Rattle.raven_value.specs.ScalarView.{scalar_view}
use Rattle.term_index.specs.Held.{Pairs, held, AreApart, AreTerms}
use Rattle.term_index.specs.KeyView.{by_mark, term_of}
use Rattle.term_index.proofs.Changes.{find-remove, find-absent, apart-remove}
use Rattle.term_index.proofs.Counts.{terms-remove}
use Rattle.term_index.proofs.column.without_value.Goals as goal

pub returns-in_ok-take_out-in-Some-clause-values : goal.returns-in_ok-take_out-in-Some-clause-values
returns-in_ok-take_out-in-Some-clause-values c =
    let left = c.in_ok-take_out-in-Some.ensures.pairs ∙ ap (λ key. remove_entry (is_at (by_mark key)) c.args.terms) c.in_ok-term-in-Some.ensures in
    λ q. ap (λ (es : Pairs). find key_cmp q (held es)) left
    ∙ find-remove c.in-Some.value.now c.args.id.now q c.args.terms c.requires.apart (c.requires.old ∙ ap (λ o. option_map (λ v. scalar_view v.now) o) c.in-Some.is)

pub returns-in_ok-take_out-in-Some-clause-apart : goal.returns-in_ok-take_out-in-Some-clause-apart
returns-in_ok-take_out-in-Some-clause-apart c =
    let left = c.in_ok-take_out-in-Some.ensures.pairs ∙ ap (λ key. remove_entry (is_at (by_mark key)) c.args.terms) c.in_ok-term-in-Some.ensures in
    subst (λ (es : Pairs). AreApart (held es)) (sym left) (apart-remove (is_at (by_mark (term_of c.in-Some.value.now c.args.id.now))) c.args.terms c.requires.apart)

pub returns-in-None-clause-values : goal.returns-in-None-clause-values
returns-in-None-clause-values c = λ q.
    find-absent q (folded c.args.id.now) (held c.args.terms) (c.requires.old ∙ ap (λ o. option_map (λ v. scalar_view v.now) o) c.in-None.is)

pub returns-in_ok-take_out-in-Some-clause-terms : goal.returns-in_ok-take_out-in-Some-clause-terms
returns-in_ok-take_out-in-Some-clause-terms c =
    let left = c.in_ok-take_out-in-Some.ensures.pairs ∙ ap (λ key. remove_entry (is_at (by_mark key)) c.args.terms) c.in_ok-term-in-Some.ensures in
    subst AreTerms (sym left) (terms-remove (is_at (by_mark (term_of c.in-Some.value.now c.args.id.now))) c.args.terms c.requires.terms)
