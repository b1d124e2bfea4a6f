-- What a batch makes of the rows that it takes.
use Rattle.std.proofs.Common.{◌≡◌, ◌+◌, ◌*◌, ◌<◌, ◌≤◌, ◌↔◌, ◌&&◌, ◌||◌, ℕ, List, [], ◌∷◌, length, take, drop, filter, Bool, true, false, cond, nat_lt, IsTrue, Some, None, Option, refl, sym, ap, ◌∙◌, subst, arith}
use Rattle.std.specs.List.{list_any}
use Rattle.std.proofs.lemmas.Grind.{common_steps}
use Rattle.std.proofs.lemmas.List.{take_all}
use Rattle.spec_data.specs.Rows.{Row}
use Rattle.spec_store.specs.Store.{Store, last, last_of, store_of}
use Rattle.spec_store.specs.Stale.{past, batch_rows, stale, up_to}
use Rattle.spec_data.specs.Tables.{Scope, in_scope, note_rows}
use Rattle.spec_index.specs.Index.{etag_after, etag_of_batch}
use Rattle.spec_index.specs.World.{Version, reads, advanced, batch}

abbrev version_at : Version → List Row → ℕ → ℕ → Version
version_at v rows etag cleaned = record { definition = v.definition; etag = etag; table = note_rows v.table rows; cleaned = cleaned }

pub batch-none : (v : Version) (S : Store) (max : ℕ) (rows : List Row) → rows ≡ batch_rows (reads v) v.etag S max → rows ≡ [] → (let x : Option Version = None in x) ≡ batch v S max
batch-none v S max rows is none = ap (λ batch_rows. advanced v batch_rows (etag_of_batch (reads v) v.etag S max) S.cleaned) (sym none ∙ is)

-- IF THERE IS NOTHING TO DO

none_past : (scope : Scope) (e : ℕ) (rows : List Row) → list_any (λ r. in_scope scope r && nat_lt e r.etag && up_to None r.etag) rows ≡ false → filter (λ r. in_scope scope r && nat_lt e r.etag) rows ≡ []
none_past scope e [] h = refl
none_past scope e (r ∷ rows) h =
    elim (in_scope scope r && nat_lt e r.etag) as (λ b. (b && true) || list_any (λ x. in_scope scope x && nat_lt e x.etag && up_to None x.etag) rows ≡ false → cond b (r ∷ past scope e (store_of rows)) (past scope e (store_of rows)) ≡ []) [
      | true ↦ λ is. absurd cc
      | false ↦ λ is. none_past scope e rows is
    ] h

pub batch-fresh : (v : Version) (S : Store) (max : ℕ) → stale S (reads v) v.etag None ≡ false → (let x : Option Version = None in x) ≡ batch v S max
batch-fresh v S max fresh = batch-none v S max [] (sym (ap (take max) (none_past (reads v) v.etag S.rows fresh) ∙ take_all max [] (omega arith))) refl

-- what the store says of the scope that the version keeps
pub told : (v : Version) (S : Store) (scope : Scope) (e : ℕ) (says is : Bool) → scope ≡ reads v → e ≡ v.etag → says ≡ stale S scope e None → says ≡ is → stale S (reads v) v.etag None ≡ is
told v S scope e says is of_v at_v tells seen = (λ i. stale S (sym of_v i) (sym at_v i) None) ∙ sym tells ∙ seen

-- HOW MANY ROWS ARE READ

pub read_of : (v : Version) (S : Store) (scope : Scope) (e max before after : ℕ) → scope ≡ reads v → e ≡ v.etag
    → after ≤ before + (length (batch_rows scope e S max) + 1) * length scope → after ≤ before + (length (batch_rows (reads v) v.etag S max) + 1) * length (reads v)
read_of v S scope e max before after of_v at_v most =
    let same : (length (batch_rows scope e S max) + 1) * length scope ≡ (length (batch_rows (reads v) v.etag S max) + 1) * length (reads v) =
    λ i. (length (batch_rows (of_v i) (at_v i) S max) + 1) * length (of_v i) in
    subst (λ n. after ≤ before + n) same most

-- IF ROWS ARE TAKEN

etag-some : (e : ℕ) (rows left : List Row) (more : Bool) (last : ℕ) → (rows ≡ [] → ⊥) → (IsTrue more ↔ (0 < length left)) → cond more (last_of 0 rows) last ≡ etag_after e rows left last
etag-some e rows [] true last some m = absurd (let h = m.0 refl in omega arith)
etag-some e rows [] false last some m = refl
etag-some e [] (x ∷ left) true last some m = absurd (some refl)
etag-some e (r ∷ rows) (x ∷ left) true last some m = refl
etag-some e rows (x ∷ left) false last some m = absurd (let h = m.1 (omega arith) in cc)

left-some : (max : ℕ) (all : List Row) (more : Bool) → (IsTrue more ↔ (max < length all)) → IsTrue more ↔ (0 < length (drop max all))
left-some max all more m = (λ h. let lt = m.0 h in grind (arith, common_steps), λ h. m.1 (grind (arith, common_steps)))

advances : (v : Version) (rows : List Row) (etag cleaned : ℕ) → (rows ≡ [] → ⊥) → advanced v rows etag cleaned ≡ Some (version_at v rows etag cleaned)
advances v [] etag cleaned some = absurd (some refl)
advances v (r ∷ rows) etag cleaned some = refl

pub batch-some : (v : Version) (S : Store) (max : ℕ) (rows : List Row) (more : Bool) (etag cleaned : ℕ) → rows ≡ batch_rows (reads v) v.etag S max → (rows ≡ [] → ⊥)
    → (IsTrue more ↔ (max < length (past (reads v) v.etag S))) → etag ≡ cond more (last_of 0 rows) (last S) → cleaned ≡ S.cleaned → Some (version_at v rows etag cleaned) ≡ batch v S max
batch-some v S max rows more etag cleaned is some m e same =
    let at : etag ≡ etag_after v.etag rows (drop max (past (reads v) v.etag S)) (last S) =
    e ∙ etag-some v.etag rows (drop max (past (reads v) v.etag S)) more (last S) some (left-some max (past (reads v) v.etag S) more m) in
    sym (advances v rows etag cleaned some) ∙ ap (advanced v rows etag) same ∙ ap (λ n. advanced v rows n S.cleaned) at
    ∙ ap (λ batch_rows. advanced v batch_rows (etag_after v.etag batch_rows (drop max (past (reads v) v.etag S)) (last S)) S.cleaned) is
