-- A longer part is read only behind a token that opens one; within one part the rules go down.
use Rattle.std.proofs.Common.{◌≡◌, ◌+◌, ◌*◌, length}
use Rattle.rql_tokens.specs.declared.key_words.KeyWord.TheVariants as k
use Rattle.rql_tokens.specs.declared.token.Token.TheVariants as t
use Rattle.spec_query.specs.Query.{Cond}
use Rattle.rql_grammar.specs.FieldReading.{chain}
use Rattle.rql_grammar.specs.ConditionReading as spec
use Rattle.rql_grammar.specs.ConditionReading.{deeper_of}
use Rattle.rql_parser.proofs.conditions.+cond.Given as goal

abbrev pub decreases-whole : goal.decreases-whole
decreases-whole l = 10 * l.room + 8

abbrev pub decreases-ors : goal.decreases-ors
decreases-ors l = 10 * l.room + 7

abbrev pub decreases-conjunction : goal.decreases-conjunction
decreases-conjunction l = 10 * l.room + 6

abbrev pub decreases-ands : goal.decreases-ands
decreases-ands l = 10 * l.room + 5

abbrev pub decreases-negation : goal.decreases-negation
decreases-negation l = 10 * l.room + 4

abbrev pub decreases-test : goal.decreases-test
decreases-test l = 10 * l.room + 3

abbrev pub decreases-plain_test : goal.decreases-plain_test
decreases-plain_test l = 10 * l.room + 2

abbrev pub decreases-parentheses : goal.decreases-parentheses
decreases-parentheses l = 10 * l.room

abbrev pub decreases-exactly : goal.decreases-exactly
decreases-exactly l = 10 * l.room

-- what is read from the start is what is read from here
abbrev pub invariant-ors-loop-tokens : goal.invariant-ors-loop-tokens
invariant-ors-loop-tokens l = chain (t.Key k.Or) (spec.conjunction (deeper_of l.room)) Cond.Or l.fn.left l.fn.tokens.count l.fn.tokens.rest.now
    ≡ chain (t.Key k.Or) (spec.conjunction (deeper_of l.room)) Cond.Or l.left l.tokens.count l.tokens.rest.now

abbrev pub decreases-ors-loop-tokens : goal.decreases-ors-loop-tokens
decreases-ors-loop-tokens l = length l.tokens.rest.now

abbrev pub invariant-ands-loop-tokens : goal.invariant-ands-loop-tokens
invariant-ands-loop-tokens l = chain (t.Key k.And) (spec.negation (deeper_of l.room)) Cond.And l.fn.left l.fn.tokens.count l.fn.tokens.rest.now
    ≡ chain (t.Key k.And) (spec.negation (deeper_of l.room)) Cond.And l.left l.tokens.count l.tokens.rest.now

abbrev pub decreases-ands-loop-tokens : goal.decreases-ands-loop-tokens
decreases-ands-loop-tokens l = length l.tokens.rest.now
