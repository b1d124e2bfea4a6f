use Rattle.std.proofs.Common.{sym}
use Rattle.reduce_parser.proofs.LoopLemmas.{key_is_alone, key_is_none}
use Rattle.reduce_parser.proofs.keys.key.Goals as goal

pub returns-then-is_variable : goal.returns-then-is_variable
returns-then-is_variable c = rw (key_is_alone c.args.tokens.now.count c.args.tokens.now.rest.now c.in-Some.rest.now c.in-Some.first.now c.in-Some.ensures.cases.0 (sym c.if-is_word.ensures) (sym c.if-is_variable.ensures)) c.key_alone.ensures

pub returns-else-is_variable : goal.returns-else-is_variable
returns-else-is_variable c = key_is_none c.args.tokens.now.count c.args.tokens.now.rest.now c.in-Some.rest.now c.in-Some.first.now c.in-Some.ensures.cases.0 (sym c.if-is_word.ensures) (sym c.if-is_variable.ensures)
