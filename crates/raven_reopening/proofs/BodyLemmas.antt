-- A stored body is read back.
use Rattle.std.proofs.Common.{◌≡◌, ℕ, ◌≤◌, List, [], ◌∷◌, Bool, true, false, not, ◌&&◌, ◌||◌, cond, filter, length, map, nat_lt, codes, Option, Some, None, option_map, IfSome, IsUtf8, Less, Equal, Greater, refl, sym, ap, ◌∙◌, subst, arith}
use Rattle.std.proofs.lemmas.Bool.{lt-ltb, ltb-true}
use Rattle.std.proofs.lemmas.Slice.Eq.{bytes_eq-Decides}
use Rattle.std.specs.List.{list_all, list_any}
use Rattle.std.specs.Ordering.{match_ordering}
use Rattle.json.proofs.Printed.Utf8.{IsUtf8-are_ascii}
use Rattle.spec_data.specs.Data.{Data, null, flag, num, text, array, object, Entries, no_entries, entry, depth, entries_depth, entries_of, items_depth, items_of, pairs_of}
use Rattle.spec_data.specs.Folding.{key_cmp}
use Rattle.spec_data.specs.Members.{Path, member}
use Rattle.spec_data.specs.Rising.{Pairs, IsBelowAll, IsRising, put}
use Rattle.spec_data.specs.Sound.{AreSound, IsSound, HasSound}
use Rattle.spec_data.specs.Written.{text_of}
use Rattle.spec_store.specs.Commit.{clean_metadata, is_server_member, stored_body}
use Rattle.spec_store.specs.Kept.{is_clean, max_body}
use Rattle.index_tree.specs.declared.map_query.MapQuery.{MapQuery}
use Rattle.index_tree.specs.declared.reduce_query.ReduceQuery.{ReduceQuery}
use Rattle.index_tree.specs.Definitions.{Auto, AutoReduce, Definition, Static}
use Rattle.spec_server.specs.Opening.{AutoForm, BodyForm, StaticForm, and_then_some, are_rising, body_form, dividing, form_of, is_part, is_path, path_of, paths_of, paths_read, reduce_form, words_of}
use Rattle.spec_index.specs.World.{first_body, path_list, row_body, text_list, text_or_null, version_member}
use Rattle.spec_store.proofs.KeyedLemmas.{differ_greater}
use Rattle.spec_store.proofs.StoreLemmas.{both_true}
use Rattle.spec_data.proofs.MemberLemmas.{IsRising-put, pairs_of-entries_of}
use Rattle.index_lang.specs.Openings.{IsOfForm}
use Rattle.raven_reading.specs.Requests.{AreAll, ArePaths, IsPart, IsPath, IsRequestBody}
use Rattle.raven_json.proofs.PairLemmas.{ArePairsSound, member-depth, member-sound, object-sound, put-depth, put-sound}
use Rattle.raven_reopening.specs.Form.{IsStorable, AreKept, IsKept}
use Rattle.raven_reopening.proofs.ReadLemmas.{IsReadBack, document-back}

pub entries-pairs : (ms : Entries) → entries_of (pairs_of ms) ≡ ms
entries-pairs no_entries = refl
entries-pairs (entry k d ms) = ap (entry k d) (entries-pairs ms)

-- SOUND MEMBERS

pub pairs-sound : (ms : Entries) → HasSound ms → ArePairsSound (pairs_of ms)
pairs-sound no_entries h = tt
pairs-sound (entry k d ms) h = (h.0, (h.1.0, pairs-sound ms h.1.1))

filter-sound : (p : List ℕ × Data → Bool) (ps : Pairs) → ArePairsSound ps → ArePairsSound (filter p ps)
filter-sound p [] h = tt
filter-sound p (m ∷ ps) h = elim (p m) as (λ b. ArePairsSound (cond b (m ∷ filter p ps) (filter p ps))) [
  | true ↦ (h.0, (h.1.0, filter-sound p ps h.1.1))
  | false ↦ filter-sound p ps h.1.1
]

below-filter : (k : List ℕ) (p : List ℕ × Data → Bool) (ps : Pairs) → IsBelowAll k ps → IsBelowAll k (filter p ps)
below-filter k p [] h = tt
below-filter k p (m ∷ ps) h = elim (p m) as (λ b. IsBelowAll k (cond b (m ∷ filter p ps) (filter p ps))) [ true ↦ (h.0, below-filter k p ps h.1) | false ↦ below-filter k p ps h.1 ]

rising-filter : (p : List ℕ × Data → Bool) (ps : Pairs) → IsRising ps → IsRising (filter p ps)
rising-filter p [] h = tt
rising-filter p (m ∷ ps) h = elim (p m) as (λ b. IsRising (cond b (m ∷ filter p ps) (filter p ps))) [ true ↦ (below-filter m.0 p ps h.0, rising-filter p ps h.1) | false ↦ rising-filter p ps h.1 ]

-- HOW DEEP MEMBERS ARE

filter-depth : (p : List ℕ × Data → Bool) (ps : Pairs) → entries_depth (entries_of (filter p ps)) ≤ entries_depth (entries_of ps)
filter-depth p [] = omega arith
filter-depth p (m ∷ ps) = let more = filter-depth p ps in elim (p m) as (λ b. entries_depth (entries_of (cond b (m ∷ filter p ps) (filter p ps))) ≤ entries_depth (entries_of (m ∷ ps))) [
  | true ↦ omega arith
  | false ↦ omega arith
]

-- CLEAN METADATA

abbrev is_others : List ℕ × Data → Bool
is_others m = not (is_server_member m.0)

clean-sound : (o : Option Data) → ((d : Data) → o ≡ Some d → IsSound d) → IsSound (clean_metadata o)
clean-sound None h = (tt, tt)
clean-sound (Some null) h = (tt, tt)
clean-sound (Some (flag b)) h = (tt, tt)
clean-sound (Some (num n)) h = (tt, tt)
clean-sound (Some (text s)) h = (tt, tt)
clean-sound (Some (array ds)) h = (tt, tt)
clean-sound (Some (object ms)) h =
    let s = h (object ms) refl in
    object-sound (filter is_others (pairs_of ms)) (rising-filter is_others (pairs_of ms) s.0) (filter-sound is_others (pairs_of ms) (pairs-sound ms s.1))

clean-depth : (o : Option Data) (n : ℕ) → 1 ≤ n → ((d : Data) → o ≡ Some d → depth d ≤ n) → depth (clean_metadata o) ≤ n
clean-depth None n some h = some
clean-depth (Some null) n some h = some
clean-depth (Some (flag b)) n some h = some
clean-depth (Some (num z)) n some h = some
clean-depth (Some (text s)) n some h = some
clean-depth (Some (array ds)) n some h = some
clean-depth (Some (object ms)) n some h =
    let whole = h (object ms) refl in
    let same = ap entries_depth (entries-pairs ms) in
    let less = filter-depth is_others (pairs_of ms) in omega arith

none_own : (ps : Pairs) → list_any (λ m. is_server_member m.0) (filter is_others ps) ≡ false
none_own [] = refl
none_own (m ∷ ps) = elim (is_server_member m.0) as (λ b. is_server_member m.0 ≡ b → list_any (λ x. is_server_member x.0) (cond (not b) (m ∷ filter is_others ps) (filter is_others ps)) ≡ false) [
  | true ↦ λ e. none_own ps
  | false ↦ λ e. ap (λ b. b || list_any (λ x. is_server_member x.0) (filter is_others ps)) e ∙ none_own ps
] refl

clean-clean : (o : Option Data) → is_clean (Some (clean_metadata o)) ≡ true
clean-clean None = refl
clean-clean (Some null) = refl
clean-clean (Some (flag b)) = refl
clean-clean (Some (num n)) = refl
clean-clean (Some (text s)) = refl
clean-clean (Some (array ds)) = refl
clean-clean (Some (object ms)) =
    ap (λ ps. not (list_any (λ m. is_server_member m.0) ps)) (pairs_of-entries_of (filter is_others (pairs_of ms))) ∙ ap not (none_own (pairs_of ms))

-- what was put is found
member-put : (k : List ℕ) (d : Data) (ps : Pairs) → member k (entries_of (put k d ps)) ≡ Some d
member-put k d [] = ap (λ b. cond b (Some d) None) ((bytes_eq-Decides k k).1 refl)
member-put k d (p ∷ ps) = elim (key_cmp k p.0) as (λ o. key_cmp k p.0 ≡ o → member k (entries_of (match_ordering o ((k, d) ∷ p ∷ ps) ((k, d) ∷ ps) (p ∷ put k d ps))) ≡ Some d) [
  | Less ↦ λ e. ap (λ b. cond b (Some d) (member k (entries_of (p ∷ ps)))) ((bytes_eq-Decides k k).1 refl)
  | Equal ↦ λ e. ap (λ b. cond b (Some d) (member k (entries_of ps))) ((bytes_eq-Decides k k).1 refl)
  | Greater ↦ λ e. ap (λ b. cond b (Some p.1) (member k (entries_of (put k d ps)))) (differ_greater k p.0 e) ∙ member-put k d ps
] refl

-- STORED BODIES

stored-document : (ms : Entries) → IsSound (object ms) → depth (object ms) ≤ 100 → length (text_of (stored_body (object ms))) ≤ max_body → IsStorable (stored_body (object ms))
stored-document ms s few small =
    let name = codes "@metadata" in
    let clean = clean_metadata (member name ms) in
    let clean_is = clean-sound (member name ms) (λ d is. member-sound name ms d s.1 is) in
    let shallow : depth clean ≤ 99 = clean-depth (member name ms) 99 (omega arith) (λ d is. let a = member-depth name ms d is in omega arith) in
    let same = ap entries_depth (entries-pairs ms) in
    let inner = put-depth name clean (pairs_of ms) 99 shallow (omega arith) in
    record {
      sound = object-sound (put name clean (pairs_of ms)) (IsRising-put name clean (pairs_of ms) s.0) (put-sound name clean (pairs_of ms) (IsUtf8-are_ascii name refl) clean_is (pairs-sound ms s.1));
      shallow = omega arith;
      clean = ap is_clean (member-put name clean (pairs_of ms)) ∙ clean-clean (member name ms);
      small = small;
    }

-- a stored body is read back
pub stored-back : (d : Data) → IsRequestBody d → length (text_of (stored_body d)) ≤ max_body → IsReadBack (stored_body d)
stored-back d b small =
    let same = b.an_object in
    subst (λ x. IsReadBack (stored_body x)) (sym same)
    (document-back (stored_body (object b.members))
    (stored-document b.members (subst IsSound same b.sound) (subst (λ x. depth x ≤ 100) same b.shallow) (subst (λ x. length (text_of (stored_body x)) ≤ max_body) same small)))

-- PATHS

parts-sound : (path : Path) → AreAll IsPart path → AreSound (items_of (map text path))
parts-sound [] h = tt
parts-sound (part ∷ path) h = (h.0.0, parts-sound path h.1)

paths-sound : (fs : List Path) → ArePaths fs → AreSound (items_of (map text_list fs))
paths-sound [] h = tt
paths-sound (p ∷ fs) h = (parts-sound p h.0.1, paths-sound fs h.1)

parts-flat : (path : Path) → items_depth (items_of (map text path)) ≤ 0
parts-flat [] = omega arith
parts-flat (part ∷ path) = let more = parts-flat path in omega arith

paths-flat : (fs : List Path) → items_depth (items_of (map text_list fs)) ≤ 1
paths-flat [] = omega arith
paths-flat (p ∷ fs) = let one = parts-flat p in let more = paths-flat fs in omega arith

-- the member that says the version
version-sound : HasSound (entries_of (version_member ∷ []))
version-sound = (IsUtf8-are_ascii _ refl, (omega arith, tt))

-- the body of an automatic index's definition is a valid one
pub auto-body : (c : List ℕ) (fs : List Path) → IsUtf8 c → ArePaths fs → IsRequestBody (row_body (Auto c fs))
auto-body c fs u v = record {
  sound = (
    ((refl, (refl, (refl, (refl, tt)))), ((refl, (refl, (refl, tt))), ((refl, (refl, tt)), ((refl, tt), (tt, tt))))),
    (
      IsUtf8-are_ascii _ refl,
      (
        ((tt, tt), (IsUtf8-are_ascii _ refl, (IsUtf8-are_ascii _ refl, tt))),
        (
          IsUtf8-are_ascii _ refl,
          (
            u,
            (
              IsUtf8-are_ascii _ refl,
              (
                paths-sound fs v,
                (IsUtf8-are_ascii _ refl, (IsUtf8-are_ascii _ refl, version-sound)),
              ),
            ),
          ),
        ),
      ),
    ),
  );
  shallow = let flat = paths-flat fs in omega arith;
  members = _;
  an_object = refl;
}

-- and so is that of one with groups
pub reduce-body : (c : List ℕ) (gs ss : List Path) → IsUtf8 c → ArePaths gs → ArePaths ss → IsRequestBody (row_body (AutoReduce c gs ss))
reduce-body c gs ss u v w = record {
  sound = (
    ((refl, (refl, (refl, (refl, (refl, tt))))), ((refl, (refl, (refl, (refl, tt)))), ((refl, (refl, (refl, tt))), ((refl, (refl, tt)), ((refl, tt), (tt, tt)))))),
    (
      IsUtf8-are_ascii _ refl,
      (
        ((tt, tt), (IsUtf8-are_ascii _ refl, (IsUtf8-are_ascii _ refl, tt))),
        (
          IsUtf8-are_ascii _ refl,
          (
            u,
            (
              IsUtf8-are_ascii _ refl,
              (
                paths-sound gs v,
                (
                  IsUtf8-are_ascii _ refl,
                  (
                    IsUtf8-are_ascii _ refl,
                    (IsUtf8-are_ascii _ refl, (paths-sound ss w, version-sound)),
                  ),
                ),
              ),
            ),
          ),
        ),
      ),
    ),
  );
  shallow = let flat = paths-flat gs in let other = paths-flat ss in omega arith;
  members = _;
  an_object = refl;
}

-- the text of a reduce, or null
text-sound : (words : Option (List ℕ)) → IfSome words IsUtf8 → IsSound (text_or_null words)
text-sound None u = tt
text-sound (Some words) u = u

text-flat : (words : Option (List ℕ)) → depth (text_or_null words) ≡ 0
text-flat None = refl
text-flat (Some words) = refl

-- and so is that of a definition by texts
pub static-body : (query : MapQuery) (reduce : Option ReduceQuery) (words : List ℕ) (reduce_words : Option (List ℕ)) → IsUtf8 words → IfSome reduce_words IsUtf8
    → IsRequestBody (row_body (Static query reduce words reduce_words))
static-body query reduce words reduce_words u v = record {
  sound = (
    ((refl, (refl, (refl, (refl, tt)))), ((refl, (refl, (refl, tt))), ((refl, (refl, tt)), ((refl, tt), (tt, tt))))),
    (
      IsUtf8-are_ascii _ refl,
      (
        ((tt, tt), (IsUtf8-are_ascii _ refl, (IsUtf8-are_ascii _ refl, tt))),
        (
          IsUtf8-are_ascii _ refl,
          (
            IsUtf8-are_ascii _ refl,
            (
              IsUtf8-are_ascii _ refl,
              (u, (IsUtf8-are_ascii _ refl, (text-sound reduce_words v, version-sound))),
            ),
          ),
        ),
      ),
    ),
  );
  shallow = let flat = text-flat reduce_words in omega arith;
  members = _;
  an_object = refl;
}

-- the same from the soundness of what is stored
pub static-stored : (query : MapQuery) (reduce : Option ReduceQuery) (words : List ℕ) (reduce_words : Option (List ℕ)) → IsSound (stored_body (row_body (Static query reduce words reduce_words)))
    → IsRequestBody (row_body (Static query reduce words reduce_words))
static-stored query reduce words None h = static-body query reduce words None h.1.1.1.1.1.1.0 tt
static-stored query reduce words (Some other) h = static-body query reduce words (Some other) h.1.1.1.1.1.1.0 h.1.1.1.1.1.1.1.1.0

-- WHAT IS READ OF A DEFINITION'S BODY

-- the texts of a list of texts
words-back : (path : Path) → words_of (items_of (map text path)) ≡ Some path
words-back [] = refl
words-back (part ∷ path) = ap (option_map (λ ts. part ∷ ts)) (words-back path)

path-read : (p : Path) → path_of (text_list p) ≡ cond (is_path p) (Some p) None
path-read p = ap (λ o. and_then_some o (λ path. cond (is_path path) (Some path) None)) (words-back p)

-- all are paths, or the list is none
all-read : (fs : List Path) → paths_of (items_of (map text_list fs)) ≡ cond (list_all is_path fs) (Some fs) None
all-read [] = refl
all-read (p ∷ fs) =
    ap (λ o. and_then_some o (λ path. option_map (λ paths. path ∷ paths) (paths_of (items_of (map text_list fs))))) (path-read p)
    ∙ elim (is_path p) as (λ b. and_then_some (cond b (Some p) None) (λ path. option_map (λ paths. path ∷ paths) (paths_of (items_of (map text_list fs)))) ≡ cond (b && list_all is_path fs) (Some (p ∷ fs)) None) [
      | true ↦ ap (option_map (λ paths. p ∷ paths)) (all-read fs)
          ∙ elim (list_all is_path fs) as (λ b. option_map (λ paths. p ∷ paths) (cond b (Some fs) None) ≡ cond b (Some (p ∷ fs)) None) [ true ↦ refl | false ↦ refl ]
      | false ↦ refl
    ]

abbrev are_paths : List Path → Bool
are_paths fs = list_all is_path fs && are_rising fs

-- a list is read back exactly if it is one of paths in order
list-read : (fs : List Path) → paths_read (Some (path_list fs)) ≡ cond (are_paths fs) (Some fs) None
list-read fs =
    ap (λ o. and_then_some o (λ paths. cond (are_rising paths) (Some paths) None)) (all-read fs)
    ∙ elim (list_all is_path fs) as (λ b. and_then_some (cond b (Some fs) None) (λ paths. cond (are_rising paths) (Some paths) None) ≡ cond (b && are_rising fs) (Some fs) None) [ true ↦ refl | false ↦ refl ]

list-back : (fs : List Path) → list_all is_path fs ≡ true → are_rising fs ≡ true → paths_read (Some (path_list fs)) ≡ Some fs
list-back fs all up = list-read fs ∙ (λ i. cond (all i && up i) (Some fs) None)

-- What is read of the body of an automatic index's definition, by what its lists are read as. Either version says the same.
abbrev auto_form : List ℕ → Option (List Path) → BodyForm
auto_form c o = form_of (option_map (Auto c) o) None

abbrev grouped_form : List ℕ → Option (List Path) → Option (List Path) → BodyForm
grouped_form c o p = reduce_form (and_then_some o (λ gs. option_map (AutoReduce c gs) p))

auto-form : (c : List ℕ) (fs : List Path) → body_form (stored_body (first_body (Auto c fs))) ≡ auto_form c (paths_read (Some (path_list fs)))
auto-form c fs = refl

grouped-form : (c : List ℕ) (gs ss : List Path)
    → body_form (stored_body (first_body (AutoReduce c gs ss))) ≡ grouped_form c (paths_read (Some (path_list gs))) (paths_read (Some (path_list ss)))
grouped-form c gs ss = refl

-- the second version says what the first one does, and may divide
pub versions-alike : (d : Definition) → body_form (stored_body (row_body d)) ≡ dividing (body_form (stored_body (first_body d)))
versions-alike (Static query reduce words None) = refl
versions-alike (Static query reduce words (Some other)) = refl
versions-alike (Auto c fs) = refl
versions-alike (AutoReduce c gs ss) = refl

pub auto-first : (c : List ℕ) (fs : List Path) → list_all is_path fs ≡ true → are_rising fs ≡ true → body_form (stored_body (first_body (Auto c fs))) ≡ AutoForm (Auto c fs)
auto-first c fs all up = auto-form c fs ∙ ap (auto_form c) (list-back fs all up)

pub auto-back : (c : List ℕ) (fs : List Path) → list_all is_path fs ≡ true → are_rising fs ≡ true → body_form (stored_body (row_body (Auto c fs))) ≡ AutoForm (Auto c fs)
auto-back c fs all up = versions-alike (Auto c fs) ∙ ap dividing (auto-first c fs all up)

pub reduce-first : (c : List ℕ) (gs ss : List Path) → list_all is_path gs ≡ true → are_rising gs ≡ true → list_all is_path ss ≡ true → are_rising ss ≡ true
    → body_form (stored_body (first_body (AutoReduce c gs ss))) ≡ AutoForm (AutoReduce c gs ss)
reduce-first c gs ss all up each over = grouped-form c gs ss ∙ (λ i. grouped_form c (list-back gs all up i) (list-back ss each over i))

pub reduce-back : (c : List ℕ) (gs ss : List Path) → list_all is_path gs ≡ true → are_rising gs ≡ true → list_all is_path ss ≡ true → are_rising ss ≡ true
    → body_form (stored_body (row_body (AutoReduce c gs ss))) ≡ AutoForm (AutoReduce c gs ss)
reduce-back c gs ss all up each over = versions-alike (AutoReduce c gs ss) ∙ ap dividing (reduce-first c gs ss all up each over)

-- PATHS THAT CAN BE KEPT are read back, and what is read back can be kept

path-true : (p : Path) → IsPath p → is_path p ≡ true
path-true p h = λ i. lt-ltb 0 (length p) h.0 i && parts-true p h.1 i
  where
    parts-true : (q : Path) → AreAll IsPart q → list_all is_part q ≡ true
    parts-true [] k = refl
    parts-true (part ∷ q) k = λ i. k.0.1 i && parts-true q k.1 i

pub paths-true : (fs : List Path) → ArePaths fs → list_all is_path fs ≡ true
paths-true [] h = refl
paths-true (p ∷ fs) h = λ i. path-true p h.0 i && paths-true fs h.1 i

parts-told : (q : Path) → list_all is_part q ≡ true → AreSound (items_of (map text q)) → AreAll IsPart q
parts-told [] h s = tt
parts-told (part ∷ q) h s = let both = both_true (is_part part) (list_all is_part q) h in ((s.0, both.0), parts-told q both.1 s.1)

paths-told : (fs : List Path) → list_all is_path fs ≡ true → AreSound (items_of (map text_list fs)) → ArePaths fs
paths-told [] h s = tt
paths-told (p ∷ fs) h s =
    let both = both_true (is_path p) (list_all is_path fs) h in
    let path = both_true (nat_lt 0 (length p)) (list_all is_part p) both.0 in ((ltb-true 0 (length p) path.0, parts-told p path.1 s.0), paths-told fs both.1 s.1)

list-told : (fs : List Path) → are_paths fs ≡ true → AreSound (items_of (map text_list fs)) → AreKept fs
list-told fs h s = let both = both_true (list_all is_path fs) (are_rising fs) h in record { paths = paths-told fs both.0 s; rising = both.1 }

auto-told : (c : List ℕ) (fs : List Path) (d : Definition) → IsOfForm (dividing (auto_form c (paths_read (Some (path_list fs))))) (Some d) → are_paths fs ≡ true
auto-told c fs d h = elim (are_paths fs) as (λ b. IsOfForm (dividing (auto_form c (cond b (Some fs) None))) (Some d) → b ≡ true) [
  | true ↦ λ g. refl
  | false ↦ λ g. absurd cc
] (subst (λ o. IsOfForm (dividing (auto_form c o)) (Some d)) (list-read fs) h)

reduce-told : (c : List ℕ) (gs ss : List Path) (d : Definition) → IsOfForm (dividing (grouped_form c (paths_read (Some (path_list gs))) (paths_read (Some (path_list ss))))) (Some d)
    → (are_paths gs ≡ true) × (are_paths ss ≡ true)
reduce-told c gs ss d h = elim (are_paths gs) as (λ b. IsOfForm (dividing (grouped_form c (cond b (Some gs) None) (paths_read (Some (path_list ss))))) (Some d) → (b ≡ true) × (are_paths ss ≡ true)) [
  | true ↦ λ g. (
    refl,
    elim (are_paths ss) as (λ b. IsOfForm (dividing (grouped_form c (Some gs) (cond b (Some ss) None))) (Some d) → b ≡ true) [
      | true ↦ λ k. refl
      | false ↦ λ k. absurd cc
    ] (subst (λ o. IsOfForm (dividing (grouped_form c (Some gs) o)) (Some d)) (list-read ss) g),
  )
  | false ↦ λ g. absurd cc
] (subst (λ o. IsOfForm (dividing (grouped_form c o (paths_read (Some (path_list ss))))) (Some d)) (list-read gs) h)

-- the paths of a definition that was stored, and is read of its body, can be kept
pub stored-kept : (d : Definition) → IsSound (stored_body (row_body d)) → IsOfForm (body_form (stored_body (row_body d))) (Some d) → IsKept d
stored-kept (Static query reduce words reduce_words) s h = tt
stored-kept (Auto c fs) s h = (s.1.1.1.1.0, list-told fs (auto-told c fs (Auto c fs) h) s.1.1.1.1.1.1.0)
stored-kept (AutoReduce c gs ss) s h =
    let told = reduce-told c gs ss (AutoReduce c gs ss) h in (s.1.1.1.1.0, (list-told gs told.0 s.1.1.1.1.1.1.0, list-told ss told.1 s.1.1.1.1.1.1.1.1.1.1.0))

pub static-first : (query : MapQuery) (reduce : Option ReduceQuery) (words : List ℕ) (reduce_words : Option (List ℕ))
    → body_form (stored_body (first_body (Static query reduce words reduce_words))) ≡ StaticForm false (words, reduce_words)
static-first query reduce words None = refl
static-first query reduce words (Some other) = refl

pub static-back : (query : MapQuery) (reduce : Option ReduceQuery) (words : List ℕ) (reduce_words : Option (List ℕ))
    → body_form (stored_body (row_body (Static query reduce words reduce_words))) ≡ StaticForm true (words, reduce_words)
static-back query reduce words reduce_words = versions-alike (Static query reduce words reduce_words) ∙ ap dividing (static-first query reduce words reduce_words)
