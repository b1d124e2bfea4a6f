-- There are no more live rows of definitions than indexes.
use Rattle.std.proofs.Common.{◌≡◌, ℕ, ◌+◌, ◌≤◌, List, [], ◌∷◌, true, false, not, cond, length, codes, filter, Some, refl, sym, ap, ◌∙◌, subst, arith, inl, inr}
use Rattle.std.proofs.lemmas.Slice.Eq.{bytes_eq-Decides}
use Rattle.std.specs.Str.{bytes_eq}
use Rattle.spec_data.specs.Folding.{folded, same_key}
use Rattle.spec_data.specs.Rows.{Row, key, is_document}
use Rattle.spec_server.specs.Courses.{Machine}
use Rattle.spec_server.specs.Opening.{is_defining}
use Rattle.spec_server.specs.Sound.{Has, Sound}
use Rattle.spec_store.specs.Store.{AreApart, row_at}
use Rattle.spec_index.specs.World.{Slot, index_id}
use Rattle.raven_laws.proofs.LimitLemmas.{fewer_filtered}
use Rattle.raven_laws.proofs.OpenLemmas.{Has-found}
use Rattle.raven_laws.proofs.SlotLemmas.{Has-filter, into-filter, passes}
use Rattle.spec_store.proofs.StoreLemmas.{AreApart-filter, both_true, same_itself, same_means}

-- how many live rows of definitions there are
abbrev pub definitions : List Row → ℕ
definitions rows = length (filter is_defining rows)

pub one_more : (r : Row) (rows : List Row) → definitions (r ∷ rows) ≡ length (cond (is_defining r) (r ∷ []) []) + definitions rows
one_more r rows = elim (is_defining r) as (λ b. length (cond b (r ∷ filter is_defining rows) (filter is_defining rows)) ≡ length (cond b (r ∷ []) []) + definitions rows) [ true ↦ omega arith | false ↦ omega arith ]

-- rows that are apart, each under the key of a slot, are no more than the slots
no_more_than : (rows : List Row) (slots : List Slot) → AreApart rows → ((r : Row) → Has rows r → (s : Slot) × Has slots s × (key r ≡ folded (index_id s.name))) → length rows ≤ length slots
no_more_than [] slots apart at = omega arith
no_more_than (r ∷ rows) slots apart at =
    let s = at r (inl refl) in
    let fewer = fewer_filtered (λ x. not (same_key (key r) (folded (index_id x.name)))) slots s.0 s.1 (ap not (subst (λ k. same_key (key r) k ≡ true) s.2 (same_itself (key r)))) in
    let rest = no_more_than rows (filter (λ x. not (same_key (key r) (folded (index_id x.name)))) slots) apart.1 (λ x h.
    let t = at x (inr h) in
    (t.0, into-filter (λ y. not (same_key (key r) (folded (index_id y.name)))) slots t.0 t.1 (ap not (other x t.0 h t.2)), t.2)) in
    omega arith
  where
    other : (x : Row) (t : Slot) → Has rows x → key x ≡ folded (index_id t.name) → same_key (key r) (folded (index_id t.name)) ≡ false
    other x t h e = elim (same_key (key r) (folded (index_id t.name))) as (λ b. same_key (key r) (folded (index_id t.name)) ≡ b → b ≡ false) [
      | true ↦ λ g. absurd (let none = apart.0 in let there = subst (λ k. row_at k rows ≡ Some x) (e ∙ sym (same_means (key r) (folded (index_id t.name)) g)) (Has-found rows x apart.1 h) in cc)
      | false ↦ λ g. refl
    ] refl

pub few-definitions : (M : Machine) → Sound M.world → definitions M.world.store.rows ≤ length M.world.slots
few-definitions M o =
    let rows = M.world.store.rows in
    no_more_than (filter is_defining rows) M.world.slots (AreApart-filter is_defining rows o.store.apart) (λ r h.
    let is = both_true (is_document r) (bytes_eq r.collection (codes "@indexes")) (passes is_defining rows r h) in
    o.listed.only (key r) r (Has-found rows r o.store.apart (Has-filter is_defining rows r h)) is.0 ((bytes_eq-Decides r.collection (codes "@indexes")).0 is.1))
