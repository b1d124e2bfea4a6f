use Rattle.std.proofs.Common.{◌≡◌, drop}
use Rattle.spec_data.specs.Kept.{last_kept}
use Rattle.doc_keeper.proofs.loading.last_etag.Given as goal

abbrev pub invariant-loop-kept : goal.invariant-loop-kept
invariant-loop-kept l = last_kept l.last (drop l.kept-index l.page) ≡ last_kept l.fn.after l.page
