use Rattle.std.proofs.Common.{◌≡◌, ◌∙◌, ap, arith, length}
use Rattle.spec_store.specs.Cleaning.{cleared}
use Rattle.raven_ports.specs.Logged.{held_in}
use Rattle.raven_ports.proofs.LogLemmas.{all_held, cleared_log, held_rises}
use Rattle.raven_ports.proofs.log.Log.clean.Goals as goal
use Rattle.raven_ports.proofs.log.Log.clean.Goals.{In_ok-rows}

-- what was compacted is what it held
compacted_is : (c : In_ok-rows) → c.in_ok-rows.rows.items ≡ cleared c.args.upto (held_in c.args.self.now.compacted c.args.self.now.rows.items)
compacted_is c = c.in_ok-rows.ensures ∙ ap (cleared c.args.upto) (c.deref.ensures.value ∙ c.in_ok-compact.ensures.rows)

pub returns-clause-log : goal.returns-clause-log
returns-clause-log c =
    let at = (goal.at.returns-clause-log c).In_ok-rows in
    let all : c.len-self.result ≡ length c.in_ok-rows.rows.items = omega (arith, c.len-self.ensures, c.in_ok-rows.rows.ok.0) in
    cleared_log c.len-self.result c.in_ok-rows.rows.items c.args.upto _ all (compacted_is at) (held_rises c.args.self.now.compacted c.args.self.now.rows.items c.requires)

pub returns-clause-ok : goal.returns-clause-ok
returns-clause-ok c =
    let all : c.len-self.result ≡ length c.in_ok-rows.rows.items = omega (arith, c.len-self.ensures, c.in_ok-rows.rows.ok.0) in
    all_held c.len-self.result c.in_ok-rows.rows.items all ∙ compacted_is (goal.at.returns-clause-ok c).In_ok-rows
