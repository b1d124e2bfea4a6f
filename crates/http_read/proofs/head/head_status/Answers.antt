use Rattle.std.proofs.Common.{inl, ap, Err, ◌∙◌, sym}
use Rattle.http_read.proofs.Begins.{can_begin, refused_by}
use Rattle.http_read.proofs.head.head_status.Goals as goal

pub returns-in-Ok-Partial : goal.returns-in-Ok-Partial
returns-in-Ok-Partial c =
    let none = rw c.in-Ok-Partial.field-0-is at c.in-Ok-Partial.ensures.partial in
    let may = rw c.in-Ok-Partial.field-0-is at c.in-Ok-Partial.ensures.unfinished in
    (none, can_begin _ may (sym c.has_bad_target.ensures ∙ c.if-has_bad_target.false))

pub returns-in-Err : goal.returns-in-Err
returns-in-Err c = inl (refused_by c.in-Err.field-0 _ _ c.requires.room c.requires.short c.in-Err.ensures.invalid (λ e. c.in-Err.ensures.too_many (ap Err e)))
