use Rattle.std.proofs.Common.{sym, ap, ◌∙◌}
use Rattle.matchit.specs.Seek.{first}
use Rattle.http_parts.specs.Pages.{value_of}
use Rattle.http_parts.proofs.Walk.{is_text}
use Rattle.http_parts.proofs.Pages.{page_found}
use Rattle.http_parts.proofs.routes.Routes.page_at.Goals as goal

pub returns-in-Ok : goal.returns-in-Ok
returns-in-Ok c =
    let path = c.args.path.now in
    ap value_of (sym (ap (λ r. first r path) (sym c.self.invariant) ∙ c.in-Ok.ensures.found)) ∙ page_found path (is_text path (λ i. (c.type_inv.path i).fits))

pub returns-in-Err : goal.returns-in-Err
returns-in-Err c =
    let path = c.args.path.now in
    ap value_of (sym (ap (λ r. first r path) (sym c.self.invariant) ∙ c.in-Err.ensures.missing)) ∙ page_found path (is_text path (λ i. (c.type_inv.path i).fits))
