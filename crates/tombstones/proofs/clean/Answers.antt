use Rattle.std.proofs.Common.{◌≡◌, ℕ, List, [], ◌∷◌, Bool, true, false, cond, ◌||◌, ◌∙◌, filter, ap, refl, sym, arith}
use Rattle.std.specs.List.{list_any}
use Rattle.spec_data.specs.Rows.{Row}
use Rattle.spec_store.specs.Cleaning.{is_old_tombstone, without_tombstones}
use Rattle.spec_store.specs.Store.{Store}
use Rattle.spec_store.proofs.CleanLemmas.{cleans_more}
use Rattle.tombstones.proofs.clean.Goals as goal
use Rattle.tombstones.proofs.clean.Goals.{After-is_empty}

none_any : (p : Row → Bool) (rows : List Row) → filter p rows ≡ [] → list_any p rows ≡ false
none_any p [] h = refl
none_any p (r ∷ rows) h =
    elim (p r) as (λ b. cond b (r ∷ filter p rows) (filter p rows) ≡ [] → b || list_any p rows ≡ false) [
      | true ↦ λ e. absurd cc
      | false ↦ λ e. none_any p rows e
    ] h

some_any : (p : Row → Bool) (rows : List Row) → (filter p rows ≡ [] → ⊥) → list_any p rows ≡ true
some_any p [] h = absurd (h refl)
some_any p (r ∷ rows) h =
    elim (p r) as (λ b. (cond b (r ∷ filter p rows) (filter p rows) ≡ [] → ⊥) → b || list_any p rows ≡ true) [
      | true ↦ λ e. refl
      | false ↦ λ e. some_any p rows e
    ] h

-- the store without them
abbrev cleaned : ℕ → Store → Store
cleaned upto S = record { rows = without_tombstones upto S.rows; cleaned = upto }

-- the store has an old tombstone
some_old : (c : After-is_empty) → c.is_empty.result ≡ false → list_any (is_old_tombstone c.args.upto) c.args.store.now.rows ≡ true
some_old c some =
    some_any (is_old_tombstone c.args.upto) c.args.store.now.rows (λ none. let all : c.is_empty.result ≡ true = c.is_empty.ensures.1 (c.in_ok-gone.ensures.old ∙ none) in let two : true ≡ false = sym all ∙ some in cc)

pub returns-then-is_empty-clause-left : goal.returns-then-is_empty-clause-left
returns-then-is_empty-clause-left c =
    c.in_ok-clone.ensures.cases
    ∙ sym (ap (λ b. cond b (cleaned c.args.upto c.args.store.now) c.args.store.now) (none_any (is_old_tombstone c.args.upto) c.args.store.now.rows (sym c.in_ok-gone.ensures.old ∙ c.is_empty.ensures.0 c.if-is_empty.true)))

pub without-requires-clause-onward : goal.without-requires-clause-onward
without-requires-clause-onward c =
    let more = (cleans_more c.args.upto c.args.store.now c.in_ok-gone.ensures.store c.requires (some_old (goal.at.without-requires-clause-onward c).After-is_empty c.if-is_empty.false)).0 in omega arith

pub returns-clause-left : goal.returns-clause-left
returns-clause-left c =
    c.in_ok-left.ensures
    ∙ sym (ap (λ b. cond b (cleaned c.args.upto c.args.store.now) c.args.store.now) (some_old (goal.at.returns-clause-left c).After-is_empty c.if-is_empty.false))
