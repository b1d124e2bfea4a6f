-- What a keeper stores for the rows of a store.
use Rattle.std.proofs.Common.{◌≡◌, ℕ, ◌+◌, List, [], ◌∷◌, ◌++◌, true, false, not, cond, filter, Option, Some, None, refl, sym, ap, ◌∙◌, subst, arith}
use Rattle.spec_data.specs.Folding.{same_key}
use Rattle.spec_data.specs.Rows.{Row, Body, doc, gone, key}
use Rattle.spec_data.specs.Kept.{EtagsRise, kept, kept_key, all_kept, keep, keep_all, last_kept}
use Rattle.spec_store.specs.Store.{AreRising, IsStore, Store, last, last_of, put, with_row, with_rows}
use Rattle.spec_store.specs.Cleaning.{is_old_tombstone, without_tombstones, clean, is_old_mark, cleared}
use Rattle.spec_store.specs.Commit.{AreNext}
use Rattle.spec_store.proofs.CleanLemmas.{clean-rows}

-- leaving out an id's rows before they are stored is leaving them out of the stored rows
kept-without : (r : Row) (rows : List Row) → filter (λ k. not (same_key (key r) (kept_key k))) (all_kept rows) ≡ all_kept (filter (λ x. not (same_key (key r) (key x))) rows)
kept-without r [] = refl
kept-without r (x ∷ rows) = elim (same_key (key r) (key x)) as (λ b.
    cond (not b) (kept x ∷ filter (λ k. not (same_key (key r) (kept_key k))) (all_kept rows)) (filter (λ k. not (same_key (key r) (kept_key k))) (all_kept rows))
    ≡ all_kept (cond (not b) (x ∷ filter (λ y. not (same_key (key r) (key y))) rows) (filter (λ y. not (same_key (key r) (key y))) rows))) [
      | true ↦ kept-without r rows
      | false ↦ ap (λ ks. kept x ∷ ks) (kept-without r rows)
    ]

kept-append : (xs ys : List Row) → all_kept (xs ++ ys) ≡ all_kept xs ++ all_kept ys
kept-append [] ys = refl
kept-append (x ∷ xs) ys = ap (λ ks. kept x ∷ ks) (kept-append xs ys)

kept-put : (r : Row) (rows : List Row) → keep (kept r) (all_kept rows) ≡ all_kept (put r rows)
kept-put r rows =
    ap (λ ks. ks ++ kept r ∷ []) (kept-without r rows)
    ∙ sym (kept-append (filter (λ x. not (same_key (key r) (key x))) rows) (r ∷ []))

pub kept-with_rows : (S : Store) (rows : List Row) → keep_all (all_kept S.rows) (all_kept rows) ≡ all_kept (with_rows S rows).rows
kept-with_rows S [] = refl
kept-with_rows S (r ∷ rows) = ap (λ ks. keep_all ks (all_kept rows)) (kept-put r S.rows) ∙ kept-with_rows (with_row S r) rows

next-rise : (e : ℕ) (rows : List Row) → AreNext e rows → EtagsRise (Some e) (all_kept rows)
next-rise e [] h = tt
next-rise e (r ∷ rows) h = (let a = h.0 in omega arith, next-rise r.etag rows h.1)

any-rise : (e : ℕ) (rows : List Row) → EtagsRise (Some e) (all_kept rows) → EtagsRise None (all_kept rows)
any-rise e [] h = tt
any-rise e (r ∷ rows) h = (tt, h.1)

pub next-alone : (e : ℕ) (rows : List Row) → AreNext e rows → EtagsRise None (all_kept rows)
next-alone e rows h = any-rise e rows (next-rise e rows h)

last_kept-of : (e : ℕ) (rows : List Row) → last_kept (Some e) (all_kept rows) ≡ Some (last_of e rows)
last_kept-of e [] = refl
last_kept-of e (r ∷ rows) = last_kept-of r.etag rows

behind : (held rows : List Row) → AreNext (last_of 0 held) rows → EtagsRise (last_kept None (all_kept held)) (all_kept rows)
behind [] rows h = next-alone 0 rows h
behind (r ∷ held) rows h =
    let P : Option ℕ → Type 0 = λ o. EtagsRise o (all_kept rows) in
    subst P (sym (last_kept-of r.etag held)) (next-rise (last_of r.etag held) rows h)

pub next-behind : (S : Store) (rows : List Row) → AreNext (last S) rows → EtagsRise (last_kept None (all_kept S.rows)) (all_kept rows)
next-behind S rows h = behind S.rows rows h

rising-rise : (e : ℕ) (rows : List Row) → AreRising e rows → EtagsRise (Some e) (all_kept rows)
rising-rise e [] h = tt
rising-rise e (r ∷ rows) h = (h.0, rising-rise r.etag rows h.1)

pub store-rises : (S : Store) → IsStore S → EtagsRise None (all_kept S.rows)
store-rises S o = any-rise 0 S.rows (rising-rise 0 S.rows o.rising)

-- CLEANING

-- a stored row is an old tombstone exactly if the row is
mark-of : (upto : ℕ) (r : Row) → is_old_mark upto (kept r) ≡ is_old_tombstone upto r
mark-of upto r = by r.body
  where
    by : (body : Body) → is_old_mark upto (kept (record { etag = r.etag; id = r.id; collection = r.collection; body = body; changed = r.changed }))
        ≡ is_old_tombstone upto (record { etag = r.etag; id = r.id; collection = r.collection; body = body; changed = r.changed })
    by (doc d) = refl
    by gone = refl

pub cleared-without : (upto : ℕ) (rows : List Row) → cleared upto (all_kept rows) ≡ all_kept (without_tombstones upto rows)
cleared-without upto [] = refl
cleared-without upto (x ∷ rows) =
    ap (λ b. cond (not b) (kept x ∷ cleared upto (all_kept rows)) (cleared upto (all_kept rows))) (mark-of upto x)
    ∙ elim (is_old_tombstone upto x) as (λ b. cond (not b) (kept x ∷ cleared upto (all_kept rows)) (cleared upto (all_kept rows)) ≡ all_kept (cond (not b) (x ∷ without_tombstones upto rows) (without_tombstones upto rows))) [
      | true ↦ cleared-without upto rows
      | false ↦ ap (λ ks. kept x ∷ ks) (cleared-without upto rows)
    ]

-- a keeper that stores the rows of a store and clears them stores those of the store that is cleaned
pub kept-clean : (upto : ℕ) (S : Store) → cleared upto (all_kept S.rows) ≡ all_kept (clean upto S).rows
kept-clean upto S = cleared-without upto S.rows ∙ sym (ap all_kept (clean-rows upto S))
