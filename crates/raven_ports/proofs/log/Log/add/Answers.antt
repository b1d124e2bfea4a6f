use Rattle.std.proofs.Common.{◌≡◌, None, ◌++◌, ◌∙◌, ap, sym, subst}
use Rattle.std.proofs.lemmas.List.Elements.{same_from_all_zip}
use Rattle.spec_data.specs.Kept.{EtagsRise, keep_all, last_kept}
use Rattle.raven_ports.specs.Logged.{IsLog, held_in}
use Rattle.raven_ports.proofs.LogLemmas.{added}
use Rattle.raven_ports.proofs.log.Log.add.Goals as goal
use Rattle.raven_ports.proofs.log.Log.add.Goals.{In_ok-extend_from_slice}

-- the rows go in behind those that were there
behind : (c : In_ok-extend_from_slice) → IsLog c.compact_before.new.self.compacted c.extend_from_slice.new.self.items
    × (held_in c.compact_before.new.self.compacted c.extend_from_slice.new.self.items ≡ keep_all (held_in c.compact_before.new.self.compacted c.compact_before.new.self.rows.items) c.args.rows.now)
behind c =
    let more = c.in_ok-extend_from_slice.ensures.items in
    added c.compact_before.new.self.compacted c.compact_before.new.self.rows.items c.args.rows.now c.extend_from_slice.new.self.items c.compact_before.ensures.log
    (subst (λ held. EtagsRise (last_kept None held) c.args.rows.now) (sym c.compact_before.ensures.held) c.requires.past)
    (more.1 ∙ ap (λ l. c.compact_before.new.self.rows.items ++ l) (same_from_all_zip _ c.args.rows.now more.0 more.2 (λ x y same. same)))

pub returns-clause-log : goal.returns-clause-log
returns-clause-log c = (behind (goal.at.returns-clause-log c).In_ok-extend_from_slice).0

pub returns-clause-ok : goal.returns-clause-ok
returns-clause-ok c = (behind (goal.at.returns-clause-ok c).In_ok-extend_from_slice).1 ∙ ap (λ held. keep_all held c.args.rows.now) c.compact_before.ensures.held
