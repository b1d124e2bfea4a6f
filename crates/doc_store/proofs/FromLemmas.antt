-- Rows whose ids are not before a given one.
use Rattle.std.proofs.Common.{◌≡◌, ℕ, ◌<◌, ◌+◌, List, [], ◌∷◌, ◌++◌, Bool, true, false, not, cond, ◌&&◌, Option, Some, None, filter, length, take, drop, get_or, unwrap_or, refl, sym, ap, ◌∙◌, subst, arith}
use Rattle.std.specs.declared.cmp.Ordering.TheVariants.{Less, Equal, Greater}
use Rattle.std.specs.Ordering.{is_le, ordering_reverse}
use Rattle.std.proofs.lemmas.Cmp.{tied_itself}
use Rattle.std.specs.FinMap.{values}
use Rattle.std.specs.Map.{lookup}
use Rattle.std.specs.BTreeMap.{is_at}
use Rattle.std.proofs.lemmas.List.{drop_all, take_all, take_more}
use Rattle.paged_map.specs.Pairs.{IsRising}
use Rattle.spec_data.specs.Folding.{folded, key_cmp, same_key}
use Rattle.spec_data.specs.Rows.{Row, is_document, key}
use Rattle.spec_data.specs.Tables.{table_of}
use Rattle.spec_store.specs.Store.{AreApart, put, row_at}
use Rattle.spec_store.proofs.KeyedLemmas.{values-table_of}
use Rattle.doc_store.specs.Maps.{AreFiled, AreFrom, id_cmp, is_from, is_of, rows_in, rows_of}
use Rattle.doc_store.proofs.FilterLemmas.{filter-both, filter-swap}
use Rattle.doc_store.proofs.IdLemmas.{passing_in_order}
use Rattle.doc_store.proofs.MapLemmas.{id_total}

pub AreFrom-filter : (a : Option (List ℕ)) (p : Row → Bool) (rows : List Row) → AreFrom a rows → AreFrom a (filter p rows)
AreFrom-filter a p [] h = tt
AreFrom-filter a p (r ∷ rows) h = elim (p r) as (λ b. AreFrom a (cond b (r ∷ filter p rows) (filter p rows))) [ true ↦ (h.0, AreFrom-filter a p rows h.1) | false ↦ AreFrom-filter a p rows h.1 ]

-- those from an id, and one more, are from the lesser of it and of that one's
pub AreFrom-more : (a b : Option (List ℕ)) (r : Row) (rows : List Row) → ((x : Row) → is_from a x ≡ true → is_from b x ≡ true) → is_from b r ≡ true → AreFrom a rows → AreFrom b (rows ++ r ∷ [])
AreFrom-more a b r [] weaker own h = (own, tt)
AreFrom-more a b r (x ∷ rows) weaker own h = (weaker x h.0, AreFrom-more a b r rows weaker own h.1)

pub AreFrom-put : (a b : Option (List ℕ)) (r : Row) (rows : List Row) → ((x : Row) → is_from a x ≡ true → is_from b x ≡ true) → is_from b r ≡ true → AreFrom a rows → AreFrom b (put r rows)
AreFrom-put a b r rows weaker own h =
    AreFrom-more a b r (filter (λ x. not (same_key (key r) (key x))) rows) weaker own (AreFrom-filter a (λ x. not (same_key (key r) (key x))) rows h)

pub from_on : (a b : Option (List ℕ)) (rows : List Row) (i : ℕ) (r : Row) → i < length rows → get_or rows i r ≡ r → ((x : Row) → is_from a x ≡ true → is_from b x ≡ true) → is_from b r ≡ true
    → AreFrom a (take i rows) → AreFrom b (take (i + 1) rows)
from_on a b rows i r lt is weaker own h = subst (AreFrom b) (sym (take_more rows i r lt ∙ ap (λ x. take i rows ++ x ∷ []) is)) (AreFrom-more a b r (take i rows) weaker own h)

-- the lesser of two ids
pub from_itself : (id : List ℕ) → is_le (id_cmp id id) ≡ true
from_itself id = ap is_le (tied_itself id_total id)

pub from_lesser : (a id : List ℕ) → id_cmp a id ≡ Greater → (r : Row) → is_from (Some a) r ≡ true → is_from (Some id) r ≡ true
from_lesser a id above r h =
    elim (id_cmp a r.id) as (λ o. id_cmp a r.id ≡ o → is_le o ≡ true → is_le (id_cmp id r.id) ≡ true) [
      | Less ↦ λ e t. ap is_le (id_total.trans id a r.id below e)
      | Equal ↦ λ e t. ap is_le (id_total.antisymm id r.id ∙ ap ordering_reverse (id_total.congr r.id a id (id_total.antisymm r.id a ∙ ap ordering_reverse e) ∙ above))
      | Greater ↦ λ e t. absurd cc
    ] refl h
  where
    below : id_cmp id a ≡ Less
    below = id_total.antisymm id a ∙ ap ordering_reverse above

all_from : (a : Option (List ℕ)) (rows : List Row) → AreFrom a rows → filter (is_from a) rows ≡ rows
all_from a [] h = refl
all_from a (r ∷ rows) h = ap (λ b. cond b (r ∷ filter (is_from a) rows) (filter (is_from a) rows)) h.0 ∙ ap (λ xs. r ∷ xs) (all_from a rows h.1)

-- THE ROWS OF A COLLECTION

pub own_is : (collections : List (List ℕ × List Row)) (rows own : List Row) (c : List ℕ) → Some own ≡ lookup (is_at (key_cmp c)) collections → ((c : List ℕ) → rows_of collections c ≡ filter (is_of c) rows) → own ≡ filter (is_of c) rows
own_is collections rows own c found are = ap (λ o. unwrap_or o []) found ∙ are c

pub documents_are : (rows own : List Row) (c : List ℕ) → own ≡ filter (is_of c) rows → filter is_document own ≡ filter (λ r. is_of c r && is_document r) rows
documents_are rows own c are = ap (filter is_document) are ∙ filter-both (is_of c) is_document rows

pub no_documents : (collections : List (List ℕ × List Row)) (rows : List Row) (c : List ℕ) → None ≡ lookup (is_at (key_cmp c)) collections → ((c : List ℕ) → rows_of collections c ≡ filter (is_of c) rows)
    → filter (λ r. is_of c r && is_document r) rows ≡ []
no_documents collections rows c none are = sym (filter-both (is_of c) is_document rows) ∙ ap (filter is_document) (sym (ap (λ o. unwrap_or o []) none ∙ are c))

-- the page of no documents
pub no_page : (size start : ℕ) (documents : List Row) → documents ≡ [] → take size (drop start (values (table_of documents))) ≡ []
no_page size start documents none =
    ap (λ xs. take size (drop start xs)) (ap (λ xs. values (table_of xs)) none ∙ values-table_of [] tt)
    ∙ ap (take size) (drop_all start [] (omega arith)) ∙ take_all size [] (omega arith)

-- THE PAIRS FROM AN ID ON

rows_from : (id : List ℕ) (ids : List (List ℕ × Row)) → AreFiled ids → rows_in (filter (λ e. is_le (id_cmp id e.0)) ids) ≡ filter (is_from (Some id)) (rows_in ids)
rows_from id [] filed = refl
rows_from id (e ∷ ids) filed =
    let same : is_le (id_cmp id e.0) ≡ is_from (Some id) e.1 = ap (λ k. is_le (key_cmp (folded id) k)) filed.0 in
    elim (is_le (id_cmp id e.0)) as (λ b. b ≡ is_from (Some id) e.1 → rows_in (cond b (e ∷ filter (λ e. is_le (id_cmp id e.0)) ids) (filter (λ e. is_le (id_cmp id e.0)) ids)) ≡ cond (is_from (Some id) e.1) (e.1 ∷ filter (is_from (Some id)) (rows_in ids)) (filter (is_from (Some id)) (rows_in ids))) [
      | true ↦ λ is. ap (λ xs. e.1 ∷ xs) (rows_from id ids filed.1) ∙ ap (λ b. cond b (e.1 ∷ filter (is_from (Some id)) (rows_in ids)) (filter (is_from (Some id)) (rows_in ids))) is
      | false ↦ λ is. rows_from id ids filed.1 ∙ ap (λ b. cond b (e.1 ∷ filter (is_from (Some id)) (rows_in ids)) (filter (is_from (Some id)) (rows_in ids))) is
    ] same

-- the documents of a collection are among the pairs from an id on, if none of its rows is before it
pub documents_from : (c id : List ℕ) (ids : List (List ℕ × Row)) (rows own : List Row) → IsRising id_cmp ids → AreFiled ids → ((q : List ℕ) → lookup (is_at (id_cmp q)) ids ≡ row_at (folded q) rows)
    → AreApart rows → own ≡ filter (is_of c) rows → AreFrom (Some id) own
    → filter (λ r. is_of c r && is_document r) (rows_in (filter (λ e. is_le (id_cmp id e.0)) ids)) ≡ values (table_of (filter (λ r. is_of c r && is_document r) rows))
documents_from c id ids rows own up filed is apart are from =
    ap (filter p) (rows_from id ids filed) ∙ filter-both f p (rows_in ids)
    ∙ passing_in_order (λ r. f r && p r) ids rows up filed is apart
    ∙ ap (λ xs. values (table_of xs)) (sym (filter-both f p rows) ∙ filter-swap p f rows ∙ all_from (Some id) (filter p rows) all)
  where
    f : Row → Bool
    f = is_from (Some id)

    p : Row → Bool
    p r = is_of c r && is_document r

    all : AreFrom (Some id) (filter p rows)
    all = subst (AreFrom (Some id)) (ap (filter is_document) are ∙ filter-both (is_of c) is_document rows) (AreFrom-filter (Some id) is_document own from)
