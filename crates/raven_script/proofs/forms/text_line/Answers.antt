use Rattle.std.proofs.Common.{sym, subst}
use Rattle.spec_server.specs.Reading.{do_read, request_of}
use Rattle.spec_server.specs.Texts.{Plain}
use Rattle.raven_script.specs.LineView.{AsksLine, line_told}
use Rattle.raven_script.proofs.Asking.{asks-request, by-request, by-word}
use Rattle.raven_script.proofs.forms.text_line.Goals as goal

pub returns-in-Some : goal.returns-in-Some
returns-in-Some c some text = by-word c.args.text.now c.in-Some.word.now c.in-Some.rest.now c.in-Some.ensures text c.by_word.result c.by_word.ensures

pub returns-in-None : goal.returns-in-None
returns-in-None c some text =
    subst (λ asked. AsksLine asked c.asking.result) (sym (by-request c.args.text.now some text c.in-None.ensures))
    (c.asking.ensures (Plain (line_told (do_read (request_of c.args.text.now)))) (asks-request (request_of c.args.text.now) c.lone_request.result (c.lone_request.ensures c.in-None.ensures)))
