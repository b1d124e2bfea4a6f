use Rattle.std.proofs.Common.{◌≡◌, ℕ, List, drop}
use Rattle.reference_track.specs.Folded.{by_folded}
use Rattle.term_index.specs.Columns.{HasFields}
use Rattle.index_version.specs.Termed.{names_of}
use Rattle.index_version.proofs.Terming.{mixed}
use Rattle.index_version.proofs.terms.retermed.Given as goal

abbrev pub invariant-loop-id : goal.invariant-loop-id
invariant-loop-id l = record {
  names : names_of l.new ≡ names_of l.terms;
  values : (q : List ℕ) → HasFields q (mixed (by_folded l.before) (by_folded l.after) (drop l.id-index l.ids) q) l.new;
}
