use Rattle.std.proofs.Common.{◌≡◌, ◌∙◌, ap, arith, drop}
use Rattle.std.specs.List.{before_first}
use Rattle.http_parts.specs.Routes.{is_slash}
use Rattle.http_parts.proofs.Pages.{no_method, on_route}
use Rattle.http_parts.proofs.routes.Routes.find.Goals as goal

pub returns-in_err-route : goal.returns-in_err-route
returns-in_err-route c =
    rw c.from_residual-in_err-route.ensures (no_method c.args.method.now c.args.path.now c.in_ok-page_at.field-0 c.in_ok-page_at.ensures c.in_err-route.ensures)

pub returns : goal.returns
returns c =
    let path = c.args.path.now in
    let cut = c.in_ok-strip_prefix.ensures.cases in
    let rest : c.in_ok-strip_prefix.field-0.now ≡ drop 11 path = cut.2 ∙ ap (λ n. drop n path) cut.1.0 in
    let split = c.in_ok-database.ensures.byte (omega arith) (λ w o h. h) in
    on_route c.args.method.now path c.in_ok-database.database.now c.in_ok-page_at.field-0 c.in_ok-route.route c.in_ok-page_at.ensures c.in_ok-route.ensures (split.0 ∙ ap (before_first is_slash) rest)
