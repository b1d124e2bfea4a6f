-- What a change of the entries is to the trees of their groups.
use Rattle.std.proofs.Common.{◌≡◌, ℕ, Option, Some, None, List, [], ◌∷◌, map, option_map, refl, sym, ap, subst, ◌∙◌}
use Rattle.std.specs.Cmp.{IsTotalOrder, on_total}
use Rattle.std.specs.FinMap.{get, insert, remove}
use Rattle.std.specs.Map.{lookup, remove_entry}
use Rattle.std.specs.BTreeMap.{is_at, insert_entry}
use Rattle.spec_data.specs.Folding.{folded}
use Rattle.index_tree.specs.Meaning.{Fields}
use Rattle.index_tree.specs.declared.reduce_query.ReduceQuery.{ReduceQuery}
use Rattle.paged_map.specs.Pairs.{IsRising}
use Rattle.paged_map.proofs.Rising.{rising_insert, rising_remove}
use Rattle.reduce_tree.specs.Tree.{Tree}
use Rattle.reduce_groups.specs.Grouping.{AreGrouped, all_inserted, all_removed}
use Rattle.reduce_groups.specs.Grouping as tree
use Rattle.reduce_folds.specs.declared.row_fold.RowFold.{RowFold}
use Rattle.spec_index.specs.Rows.{Key, key_of, key_order}
use Rattle.index_groups.specs.Cells.{folds_of}
use Rattle.reference_track.specs.Folded.{by_folded}
use Rattle.reference_track.specs.Sets.{id_cmp}
use Rattle.index_groups.specs.Groups.{AreNew, AreThere, Entries, HaveWords, fields_of, with_all, without_all}
use Rattle.index_groups.specs.KeyLaws.{keys_total}
use Rattle.index_groups.specs.Trees.{AreIndexed, entries_in, insertion, key_in, removal}
use Rattle.reference_track.proofs.FoldedMaps.{by_folded-with, by_folded-without, get-by_folded, total}
use Rattle.index_groups.proofs.FieldLemmas.{fields_found, fields_insert, fields_remove, fields_rising, words_insert, words_remove}
use Rattle.index_groups.proofs.Gathering.{gathered}

ids_total : IsTotalOrder id_cmp
ids_total = on_total folded total

none_of : {V : Type 0} (f : V → Fields) (o : Option V) → option_map f o ≡ None → o ≡ None
none_of f None h = refl
none_of f (Some v) h = absurd (cc h)

some_of : {V : Type 0} (f : V → Fields) (o : Option V) (x : Fields) → option_map f o ≡ Some x → (v : V) × ((Some v ≡ o) × (f v ≡ x))
some_of f None x h = absurd (cc h)
some_of f (Some v) x h = let same : f v ≡ x = cc h in (v, (refl, same))

module _ {V : Type 0} (f : V → Fields) where
  abbrev seen : List (List ℕ × V) → Entries
  seen es = by_folded (fields_of f es)

  found : (k : List ℕ) (es : List (List ℕ × V)) → get (seen es) (folded k) ≡ option_map f (lookup (is_at (id_cmp k)) es)
  found k es = get-by_folded k (fields_of f es) ∙ fields_found f (is_at (id_cmp k)) es

  seen_without : (k : List ℕ) (es : List (List ℕ × V)) → IsRising id_cmp es → seen (remove_entry (is_at (id_cmp k)) es) ≡ remove (seen es) (folded k)
  seen_without k es s = ap by_folded (fields_remove f (is_at (id_cmp k)) es) ∙ by_folded-without k (fields_of f es) (fields_rising f es s)

  seen_with : (k : List ℕ) (v : V) (es : List (List ℕ × V)) → seen (insert_entry id_cmp es k v) ≡ insert (seen es) (folded k) (f v)
  seen_with k v es = ap by_folded (fields_insert f k v es) ∙ by_folded-with k (f v) (fields_of f es)

  module _ (names : List (List ℕ)) where
    abbrev gone_of : List (List ℕ × V) → List (Key × List ℕ)
    gone_of gone = map (removal names f) gone

    abbrev come_of : List (List ℕ × V) → List (Key × (List ℕ × V))
    come_of come = map (insertion names f) come

    are_there : (gone es : List (List ℕ × V)) → IsRising id_cmp es → AreThere (seen es) (fields_of f gone) → tree.AreThere id_cmp (key_in names f) es (gone_of gone)
    are_there [] es s a = tt
    are_there (c ∷ cs) es s a =
        let here = some_of f (lookup (is_at (id_cmp c.0)) es) (f c.1) (sym (found c.0 es) ∙ a.0) in (
          (here.0, (here.1.0, ap (key_of names) (sym here.1.1))),
          are_there cs (remove_entry (is_at (id_cmp c.0)) es) (rising_remove id_cmp c.0 es s) (subst (λ m. AreThere m (fields_of f cs)) (sym (seen_without c.0 es s)) a.1),
        )

    are_new : (come es : List (List ℕ × V)) → IsRising id_cmp es → AreNew (seen es) (fields_of f come) → tree.AreNew id_cmp (key_in names f) es (come_of come)
    are_new [] es s a = tt
    are_new (c ∷ cs) es s a = (
      (none_of f (lookup (is_at (id_cmp c.0)) es) (sym (found c.0 es) ∙ a.0), refl),
      are_new cs (insert_entry id_cmp es c.0 c.1) (rising_insert id_cmp ids_total c.0 c.1 es s) (subst (λ m. AreNew m (fields_of f cs)) (sym (seen_with c.0 c.1 es)) a.1),
    )

    removed_rising : (gone es : List (List ℕ × V)) → IsRising id_cmp es → IsRising id_cmp (all_removed id_cmp es (gone_of gone))
    removed_rising [] es s = s
    removed_rising (c ∷ cs) es s = removed_rising cs (remove_entry (is_at (id_cmp c.0)) es) (rising_remove id_cmp c.0 es s)

    inserted_rising : (come es : List (List ℕ × V)) → IsRising id_cmp es → IsRising id_cmp (all_inserted id_cmp es (come_of come))
    inserted_rising [] es s = s
    inserted_rising (c ∷ cs) es s = inserted_rising cs (insert_entry id_cmp es c.0 c.1) (rising_insert id_cmp ids_total c.0 c.1 es s)

    seen_removed : (gone es : List (List ℕ × V)) → IsRising id_cmp es → seen (all_removed id_cmp es (gone_of gone)) ≡ without_all (seen es) (fields_of f gone)
    seen_removed [] es s = refl
    seen_removed (c ∷ cs) es s = seen_removed cs (remove_entry (is_at (id_cmp c.0)) es) (rising_remove id_cmp c.0 es s) ∙ ap (λ m. without_all m (fields_of f cs)) (seen_without c.0 es s)

    seen_inserted : (come es : List (List ℕ × V)) → seen (all_inserted id_cmp es (come_of come)) ≡ with_all (seen es) (fields_of f come)
    seen_inserted [] es = refl
    seen_inserted (c ∷ cs) es = seen_inserted cs (insert_entry id_cmp es c.0 c.1) ∙ ap (λ m. with_all m (fields_of f cs)) (seen_with c.0 c.1 es)

    removed_words : (gone es : List (List ℕ × V)) → HaveWords (fields_of f es) → HaveWords (fields_of f (all_removed id_cmp es (gone_of gone)))
    removed_words [] es w = w
    removed_words (c ∷ cs) es w =
        removed_words cs (remove_entry (is_at (id_cmp c.0)) es) (subst HaveWords (sym (fields_remove f (is_at (id_cmp c.0)) es)) (words_remove (is_at (id_cmp c.0)) (fields_of f es) w))

    inserted_words : (come es : List (List ℕ × V)) → HaveWords (fields_of f come) → HaveWords (fields_of f es) → HaveWords (fields_of f (all_inserted id_cmp es (come_of come)))
    inserted_words [] es h w = w
    inserted_words (c ∷ cs) es h w =
        inserted_words cs (insert_entry id_cmp es c.0 c.1) h.1 (subst HaveWords (sym (fields_insert f c.0 c.1 es)) (words_insert c.0 (f c.1) (fields_of f es) h.0 w))

pub none_indexed : {V : Type 0} (query : ReduceQuery) (f : V → Fields) (fold : RowFold) (trees : List (Key × Tree RowFold (List ℕ) V)) → fold.fields ≡ folds_of query.members → trees ≡ [] → AreIndexed query f fold trees
none_indexed query f fold trees folds none = record { folds = folds; all = []; rising = tt; grouped = subst (λ ts. AreGrouped key_order (key_in query.key f) [] ts) (sym none) (λ q. refl); words = tt }

-- what the trees are once some entries have gone and others have come
module _ {V : Type 0} (query : ReduceQuery) (f : V → Fields) (fold : RowFold) (before : List (Key × Tree RowFold (List ℕ) V)) (entries : Entries) (gone come : List (List ℕ × V)) (is : AreIndexed query f fold before) (rises : IsRising key_order before)
    (seen_before : entries_in f before ≡ entries) (there : AreThere entries (fields_of f gone)) (new : AreNew (without_all entries (fields_of f gone)) (fields_of f come)) where
  abbrev left : List (List ℕ × V)
  left = all_removed id_cmp is.all (gone_of f query.key gone)

  abbrev grown : List (List ℕ × V)
  grown = all_inserted id_cmp left (come_of f query.key come)

  same : entries ≡ by_folded (fields_of f is.all)
  same = sym seen_before ∙ gathered key_order keys_total f (key_in query.key f) is.all before is.rising rises is.grouped

  left_rises : IsRising id_cmp left
  left_rises = removed_rising f query.key gone is.all is.rising

  grown_rises : IsRising id_cmp grown
  grown_rises = inserted_rising f query.key come left left_rises

  all_there : tree.AreThere id_cmp (key_in query.key f) is.all (gone_of f query.key gone)
  all_there = are_there f query.key gone is.all is.rising (subst (λ m. AreThere m (fields_of f gone)) same there)

  left_seen : by_folded (fields_of f left) ≡ without_all entries (fields_of f gone)
  left_seen = seen_removed f query.key gone is.all is.rising ∙ ap (λ m. without_all m (fields_of f gone)) (sym same)

  all_new : tree.AreNew id_cmp (key_in query.key f) left (come_of f query.key come)
  all_new = are_new f query.key come left left_rises (subst (λ m. AreNew m (fields_of f come)) (sym left_seen) new)

  module _ (after : List (Key × Tree RowFold (List ℕ) V)) (names : List (List ℕ)) (removals : List (Key × List ℕ)) (insertions : List (Key × (List ℕ × V))) (named : names ≡ query.key) (out : removals ≡ map (removal names f) gone) (inn : insertions ≡ map (insertion names f) come)
      (told : (key : V → Key) (es : List (List ℕ × V)) → IsRising id_cmp es → AreGrouped key_order key es before → tree.AreThere id_cmp key es removals → tree.AreNew id_cmp key (all_removed id_cmp es removals) insertions →
      AreGrouped key_order key (all_inserted id_cmp (all_removed id_cmp es removals) insertions) after) where
    out_is : removals ≡ gone_of f query.key gone
    out_is = out ∙ ap (λ n. map (removal n f) gone) named

    inn_is : insertions ≡ come_of f query.key come
    inn_is = inn ∙ ap (λ n. map (insertion n f) come) named

    grouped_after : AreGrouped key_order (key_in query.key f) grown after
    grouped_after =
        let all_out = subst (λ (cs : List (Key × List ℕ)). tree.AreThere id_cmp (key_in query.key f) is.all cs) (sym out_is) all_there in
        let all_in = subst (λ (cs : List (Key × (List ℕ × V))). tree.AreNew id_cmp (key_in query.key f) (all_removed id_cmp is.all removals) cs) (sym inn_is)
        (subst (λ (cs : List (Key × List ℕ)). tree.AreNew id_cmp (key_in query.key f) (all_removed id_cmp is.all cs) (come_of f query.key come)) (sym out_is) all_new) in
        subst (λ (cs : List (Key × List ℕ)). AreGrouped key_order (key_in query.key f) (all_inserted id_cmp (all_removed id_cmp is.all cs) (come_of f query.key come)) after) out_is
        (subst (λ (cs : List (Key × (List ℕ × V))). AreGrouped key_order (key_in query.key f) (all_inserted id_cmp (all_removed id_cmp is.all removals) cs) after) inn_is
        (told (key_in query.key f) is.all is.rising is.grouped all_out all_in))

    -- the trees are those of the entries that are left and come
    pub still_indexed : (query_too : ReduceQuery) (new_fold : RowFold) → query_too ≡ query → new_fold ≡ fold → HaveWords (fields_of f come) → AreIndexed query_too f new_fold after
    still_indexed query_too new_fold q e words =
        let all : AreIndexed query f new_fold after = record {
          folds = ap (λ (x : RowFold). x.fields) e ∙ is.folds;
          all = grown;
          rising = grown_rises;
          grouped = grouped_after;
          words = inserted_words f query.key come left words (removed_words f query.key gone is.all is.words);
        } in
        subst (λ x. AreIndexed x f new_fold after) (sym q) all

    pub entries_after : IsRising key_order after → entries_in f after ≡ with_all (without_all entries (fields_of f gone)) (fields_of f come)
    entries_after rises_too =
        gathered key_order keys_total f (key_in query.key f) grown after grown_rises rises_too grouped_after
        ∙ seen_inserted f query.key come left ∙ ap (λ m. with_all m (fields_of f come)) left_seen
