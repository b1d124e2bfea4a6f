-- A version that takes rows.
use Rattle.std.proofs.Common.{◌≡◌, ◌≤◌, ◌+◌, ℕ, List, false, map, length, sym, ap, ◌∙◌, subst, arith}
use Rattle.std.specs.FinMap.{FinMap}
use Rattle.std.specs.List.{list_any}
use Rattle.spec_data.specs.Folding.{folded, key_cmp, same_key}
use Rattle.spec_data.specs.Rows.{Row}
use Rattle.spec_data.specs.Tables.{Table, note_rows}
use Rattle.index_tree.specs.Definitions.{Definition}
use Rattle.index_tree.specs.Mapper.{mapper_of}
use Rattle.spec_index.specs.World.{Version}
use Rattle.reference_track.specs.Sets.{AreInOrder}
use Rattle.reference_track.specs.Tracks.{Track}
use Rattle.index_version.specs.Kept.{AreKept, Given, IsFiled, given_at}
use Rattle.index_version.specs.Renewed.{ArePaired, AreRenewed, mapped_among, touched_documents}
use Rattle.index_version.proofs.Keeping.{filed_rows, kept_again}
use Rattle.index_version.proofs.Touching.{AreTouched, few_mapped, others_same}

pub maps_taken : (v w : Version) (G : FinMap key_cmp Given) (L : Track) (rows : List Row) (ids items : List (List ℕ)) (N : Table) (asked : Definition) (before after : ℕ) → v ≡ w
    → AreKept (mapper_of v.definition) v.table G L → AreTouched L rows ids → AreInOrder ids → items ≡ ids → N ≡ note_rows v.table rows → asked ≡ v.definition
    → after ≤ before + length (mapped_among (mapper_of asked) N (map folded items)) → after ≤ before + length (touched_documents w rows)
maps_taken v w G L rows ids items N asked before after same kept are order listed noted asked_is most =
    let few : length (mapped_among (mapper_of v.definition) (note_rows v.table rows) (map folded ids)) ≤ length (touched_documents v rows) =
    few_mapped (mapper_of v.definition) v.table G L rows ids kept are order in
    let asked_of : length (mapped_among (mapper_of asked) N (map folded items)) ≡ length (mapped_among (mapper_of v.definition) (note_rows v.table rows) (map folded ids)) =
    ap (λ d. length (mapped_among (mapper_of d) N (map folded items))) asked_is
    ∙ ap (λ (M : Table). length (mapped_among (mapper_of v.definition) M (map folded items))) noted
    ∙ ap (λ xs. length (mapped_among (mapper_of v.definition) (note_rows v.table rows) (map folded xs))) listed in
    subst (λ (u : Version). after ≤ before + length (touched_documents u rows)) same (omega (arith, most, few, asked_of))

pub kept_taken : (d : Definition) (T : Table) (G H : FinMap key_cmp Given) (L M : Track) (rows : List Row) (ids items : List (List ℕ)) (N : Table) (asked shared : Definition)
    → AreKept (mapper_of d) T G L → AreTouched L rows ids → items ≡ ids → N ≡ note_rows T rows
    → asked ≡ d → shared ≡ d
    → AreRenewed (mapper_of asked) N (map folded items) G H → ArePaired (mapper_of asked) N (map folded items) L M → AreKept (mapper_of shared) N H M
kept_taken d T G H L M rows ids items N asked shared kept are listed noted asked_is shared_is renewed paired =
    subst (λ x. AreKept (mapper_of x) N H M) (sym shared_is)
    (kept_again (mapper_of d) T N G H L M (map folded items) kept
    (subst IsFiled (sym noted) (filed_rows T rows kept.filed))
    others
    (subst (λ x. AreRenewed (mapper_of x) N (map folded items) G H) asked_is renewed)
    (subst (λ x. ArePaired (mapper_of x) N (map folded items) L M) asked_is paired))
  where
    others : (q : List ℕ) → list_any (same_key q) (map folded items) ≡ false → given_at (mapper_of d) N q ≡ given_at (mapper_of d) T q
    others q out =
        ap (λ (M : Table). given_at (mapper_of d) M q) noted
        ∙ others_same (mapper_of d) T G L rows ids kept are q (ap (λ xs. list_any (same_key q) (map folded xs)) (sym listed) ∙ out)
