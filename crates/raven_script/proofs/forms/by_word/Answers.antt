use Rattle.std.proofs.Common.{codes}
use Rattle.spec_server.specs.Reading.{by_command, do_read}
use Rattle.spec_server.specs.Texts.{Plain, Querying, asked_to_define, asked_to_define_several, asked_to_query, asked_to_query_several, asking_of, index_of, plain_asking, several_of}
use Rattle.raven_script.specs.LineView.{line_told}
use Rattle.raven_script.proofs.Asking.{asks-request, other-word, same-word}
use Rattle.raven_script.proofs.forms.by_word.Goals as goal

pub returns-in-INDEX : goal.returns-in-INDEX
returns-in-INDEX c =
    let w = c.args.word.now in
    rw (same-word w (codes "INDEX") c.in-INDEX.is)
    (c.asking.ensures (asked_to_define (index_of c.args.rest.now)) (rw c.as_bytes.ensures.value at c.define_of.ensures))

pub returns-in-QUERY : goal.returns-in-QUERY
returns-in-QUERY c =
    let w = c.args.word.now in
    rw (other-word w (codes "INDEX") c.in-QUERY.not-INDEX, same-word w (codes "QUERY") c.in-QUERY.is)
    (c.asking-in-QUERY.ensures (Querying c.args.rest.now plain_asking) c.query_of.ensures)

pub returns-in-ASK : goal.returns-in-ASK
returns-in-ASK c =
    let w = c.args.word.now in
    rw (other-word w (codes "INDEX") c.in-ASK.not-INDEX, other-word w (codes "QUERY") c.in-ASK.not-QUERY, same-word w (codes "ASK") c.in-ASK.is)
    (c.asking-in-ASK.ensures (asked_to_query (asking_of c.args.rest.now)) (rw c.as_bytes-in-ASK.ensures.value at c.query_of_json.ensures))

pub returns-in-MULTI : goal.returns-in-MULTI
returns-in-MULTI c =
    let w = c.args.word.now in
    let not = c.in-MULTI in
    rw (other-word w (codes "INDEX") not.not-INDEX, other-word w (codes "QUERY") not.not-QUERY, other-word w (codes "ASK") not.not-ASK, same-word w (codes "MULTI") not.is)
    (c.asking-in-MULTI.ensures (asked_to_define_several (several_of c.args.rest.now)) (rw c.as_bytes-in-MULTI.ensures.value at c.multi_of.ensures))

pub returns-in-MASK : goal.returns-in-MASK
returns-in-MASK c =
    let w = c.args.word.now in
    let not = c.in-MASK in
    rw (other-word w (codes "INDEX") not.not-INDEX, other-word w (codes "QUERY") not.not-QUERY, other-word w (codes "ASK") not.not-ASK, other-word w (codes "MULTI") not.not-MULTI, same-word w (codes "MASK") not.is)
    (c.asking-in-MASK.ensures (asked_to_query_several (asking_of c.args.rest.now)) (rw c.as_bytes-in-MASK.ensures.value at c.mask_of_json.ensures))

pub returns-in_default : goal.returns-in_default
returns-in_default c =
    let w = c.args.word.now in
    let not = c.in_default in
    rw (other-word w (codes "INDEX") not.not-INDEX, other-word w (codes "QUERY") not.not-QUERY, other-word w (codes "ASK") not.not-ASK, other-word w (codes "MULTI") not.not-MULTI, other-word w (codes "MASK") not.not-MASK, other-word w (codes "READ") not.not-READ, other-word w (codes "PUBLISH") not.not-PUBLISH)
    (c.asking-in_default.ensures (Plain (line_told (do_read (by_command w c.args.rest.now)))) (asks-request (by_command w c.args.rest.now) c.request_of.result c.request_of.ensures))
