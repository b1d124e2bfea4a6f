use Rattle.std.proofs.Common.{refl}
use Rattle.matchit.proofs.OnLiterals.{matchit_on_literals}
use Rattle.http_parts.specs.declared.page.Page.TheVariants.{BulkDocuments, Documents, Queries, Stats}
use Rattle.http_parts.specs.Pages.{row_of}
use Rattle.http_parts.proofs.Adding.{for_memory, only_memory}
use Rattle.http_parts.proofs.routes.add_document_pages.Goals as goal

pub returns-clause-added : goal.returns-clause-added
unfolding matchit_on_literals
returns-clause-added c =
    let a = c.in_ok-insert.ensures in
    let b = c.in_ok-insert-2.ensures in
    let d = c.in_ok-insert-3.ensures in
    let e = c.in_ok-insert-4.ensures in
    rw (e.1, d.1, b.1, a.1, c.requires) refl

pub returns-in_err-insert-clause-memory : goal.returns-in_err-insert-clause-memory
unfolding matchit_on_literals
returns-in_err-insert-clause-memory c =
    only_memory c.from_residual.result c.in_err-insert.field-0.0 c.from_residual.ensures.1
    (for_memory (row_of BulkDocuments).0 c.args.router.now c.in_err-insert.field-0.0 (rw c.requires refl) c.in_err-insert.ensures.1)

pub returns-in_err-insert-2-clause-memory : goal.returns-in_err-insert-2-clause-memory
unfolding matchit_on_literals
returns-in_err-insert-2-clause-memory c =
    let a = c.in_ok-insert.ensures in
    only_memory c.from_residual-in_err-insert-2.result c.in_err-insert-2.field-0.0 c.from_residual-in_err-insert-2.ensures.1
    (for_memory (row_of Documents).0 c.insert.new.self c.in_err-insert-2.field-0.0 (rw (a.1, c.requires) refl) c.in_err-insert-2.ensures.1)

pub returns-in_err-insert-3-clause-memory : goal.returns-in_err-insert-3-clause-memory
unfolding matchit_on_literals
returns-in_err-insert-3-clause-memory c =
    let a = c.in_ok-insert.ensures in
    let b = c.in_ok-insert-2.ensures in
    only_memory c.from_residual-in_err-insert-3.result c.in_err-insert-3.field-0.0 c.from_residual-in_err-insert-3.ensures.1
    (for_memory (row_of Queries).0 c.insert-2.new.self c.in_err-insert-3.field-0.0 (rw (b.1, a.1, c.requires) refl) c.in_err-insert-3.ensures.1)

pub returns-in_err-insert-4-clause-memory : goal.returns-in_err-insert-4-clause-memory
unfolding matchit_on_literals
returns-in_err-insert-4-clause-memory c =
    let a = c.in_ok-insert.ensures in
    let b = c.in_ok-insert-2.ensures in
    let d = c.in_ok-insert-3.ensures in
    only_memory c.from_residual-in_err-insert-4.result c.in_err-insert-4.field-0.0 c.from_residual-in_err-insert-4.ensures.1
    (for_memory (row_of Stats).0 c.insert-3.new.self c.in_err-insert-4.field-0.0 (rw (d.1, b.1, a.1, c.requires) refl) c.in_err-insert-4.ensures.1)
