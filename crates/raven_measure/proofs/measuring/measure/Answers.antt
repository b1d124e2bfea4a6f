use Rattle.std.proofs.Common.{refl, sym, ◌∙◌}
use Rattle.raven_measure.proofs.Ended.{ends_done, ends_stopped, ends_unmeasured, ends_unwritten, ends_with}
use Rattle.raven_measure.proofs.measuring.measure.Goals as goal

pub returns-in-Err-clause-ends : goal.returns-in-Err-clause-ends
returns-in-Err-clause-ends g c = ends_unmeasured _ c.in-Err.ended.end refl c.in-Err.ensures.loads c.in-Err.ensures.cause

pub returns-in-Err-make_all-clause-ends : goal.returns-in-Err-make_all-clause-ends
returns-in-Err-make_all-clause-ends g c =
    ends_with _ _ _ (c.ended-in-Err-make_all.ensures.end ∙ c.end_of.ensures)
    (ends_stopped _ c.in-Ok.measured c.make_all.new.self c.in-Ok-defining.definition c.in-Err-make_all.stop c.in-Ok.ensures.begins c.in-Ok-defining.ensures c.in-Err-make_all.ensures.stopped
    refl (sym c.ended-in-Err-make_all.ensures.keeper) c.ended-in-Err-make_all.ensures.keeps)

pub returns-in_default-summary_line-clause-ends : goal.returns-in_default-summary_line-clause-ends
returns-in_default-summary_line-clause-ends g c =
    ends_with _ _ _ c.ended-in_default-summary_line.ensures.end
    (ends_unwritten _ (record {
      first = c.in-Ok.measured;
      final = c.make_all.new.self;
      definition = c.in-Ok-defining.definition;
      begins = c.in-Ok.ensures.begins;
      defines = c.in-Ok-defining.ensures;
      measures = c.in_default-make_all.ensures.done;
      keeps = c.ended-in_default-summary_line.ensures.keeps;
    })
    refl)

pub returns-in-Ok-give_all-clause-ends : goal.returns-in-Ok-give_all-clause-ends
returns-in-Ok-give_all-clause-ends g c =
    ends_with _ _ _ c.ended-in-Ok-give_all.ensures.end
    (ends_done _ (record {
      first = c.in-Ok.measured;
      final = c.make_all.new.self;
      definition = c.in-Ok-defining.definition;
      begins = c.in-Ok.ensures.begins;
      defines = c.in-Ok-defining.ensures;
      measures = c.in_default-make_all.ensures.done;
      keeps = c.ended-in-Ok-give_all.ensures.keeps;
    })
    c.as_bytes.result.now (c.as_bytes.ensures.value ∙ c.in-Ok-summary_line.ensures) c.in-Ok-give_all.ensures.ok)
