-- What the map gave for ids, one by one and all together.
use Rattle.std.proofs.Common.{◌≡◌, ℕ, List, [], ◌∷◌, ◌++◌, cond, Ok, IfOk, Option, map, length, refl, sym, ap, subst, ◌∙◌, take}
use Rattle.std.specs.List.{All, AllZip}
use Rattle.std.proofs.lemmas.List.{map_push}
use Rattle.std.proofs.lemmas.List.Elements.{All-nil, All-cons, All-head, All-tail}
use Rattle.std.specs.FinMap.{FinMap, get}
use Rattle.spec_data.specs.Folding.{folded, key_cmp, same_key}
use Rattle.spec_data.specs.Rows.{Row}
use Rattle.spec_data.specs.Tables.{Table}
use Rattle.index_tree.specs.Meaning.{Mapped}
use Rattle.index_tree.specs.Mapper.{Mapper}
use Rattle.index_version.specs.Asked.{IsAnswer, IsAnswered, IsQuestion}
use Rattle.reference_track.specs.Sets.{is_id}
use Rattle.reference_track.specs.Tracks.{Track, is_pair}
use Rattle.index_version.specs.Kept.{Given, given_at, is_loaded}
use Rattle.index_version.specs.Renewed.{ArePaired, AreRenewed}
use Rattle.index_version.proofs.Keeping.{paired_more, renewed_more}
use Rattle.index_version.specs.declared.asking.Asked.{Asked}

pub ids_answered : (meaning : Row → Mapped) (before after : List Asked) → AllZip (IsAnswer meaning) before after → map (λ a. a.id.now) after ≡ map (λ a. a.id.now) before
ids_answered meaning [] [] h = refl
ids_answered meaning [] (b ∷ after) h = absurd h
ids_answered meaning (a ∷ before) [] h = absurd h
ids_answered meaning (a ∷ before) (b ∷ after) h = λ i. h.0.0 i ∷ ids_answered meaning before after h.1 i

is_answered : (m : Mapper) (T : Table) (before after : Asked) → IsQuestion m T before → IsAnswer (λ d. m.meaning d T) before after → IsAnswered m T after
is_answered m T before after question answer =
    subst (λ expected. IfOk after.given (λ given. given ≡ expected)) (question ∙ ap (λ id. given_at m T (folded id)) (sym answer.0)) answer.1

-- the answers to questions are what the map gives for their ids
pub all_answered : (m : Mapper) (T : Table) (before after : List Asked) → All (IsQuestion m T) before → AllZip (IsAnswer (λ d. m.meaning d T)) before after → All (IsAnswered m T) after
all_answered m T [] [] questions answers = All-nil (IsAnswered m T)
all_answered m T [] (b ∷ after) questions answers = absurd answers
all_answered m T (a ∷ before) [] questions answers = absurd answers
all_answered m T (a ∷ before) (b ∷ after) questions answers =
    All-cons (IsAnswered m T) b after (is_answered m T a b (All-head (IsQuestion m T) a before questions) answers.0)
    (all_answered m T before after (All-tail (IsQuestion m T) a before questions) answers.1)

pub taken : (n : ℕ) (xs ys : List Asked) → length xs ≡ n → take n (xs ++ ys) ≡ xs
taken n [] ys same = ap (λ k. take k ys) (sym same)
taken n (x ∷ xs) ys same = ap (λ k. take k (x ∷ xs ++ ys)) (sym same) ∙ ap (λ rest. x ∷ rest) (taken (length xs) xs ys refl)

abbrev pub folded_ids : List Asked → List (List ℕ)
folded_ids all = map (λ a. folded a.id.now) all

pub folded_answered : (all : List Asked) (ids : List (List ℕ)) → map (λ a. a.id.now) all ≡ ids → folded_ids all ≡ map folded ids
folded_answered all ids h = each all ∙ ap (map folded) h
  where
    each : (all : List Asked) → folded_ids all ≡ map folded (map (λ a. a.id.now) all)
    each [] = refl
    each (a ∷ all) = ap (λ xs. folded a.id.now ∷ xs) (each all)

-- nothing is stored before the first answer
pub none_renewed : (m : Mapper) (T : Table) (G : FinMap key_cmp Given) → AreRenewed m T [] G G
none_renewed m T G = λ q. refl

pub none_paired : (m : Mapper) (T : Table) (L : Track) → ArePaired m T [] L L
none_paired m T L = λ x y. refl

one_more : (yielded : List Asked) (a : Asked) → folded_ids (yielded ++ a ∷ []) ≡ folded_ids yielded ++ folded a.id.now ∷ []
one_more yielded a = map_push (λ (x : Asked). folded x.id.now) yielded a

given_is : (m : Mapper) (T : Table) (a : Asked) (given : Option Given) → IsAnswered m T a → a.given ≡ Ok given → given ≡ given_at m T (folded a.id.now)
given_is m T a given answered is = subst (λ r. IfOk r (λ g. g ≡ given_at m T (folded a.id.now))) is answered

-- one answer more is stored
pub renewed_answer : (m : Mapper) (T : Table) (yielded : List Asked) (a : Asked) (given : Option Given) (G H N : FinMap key_cmp Given) → IsAnswered m T a → a.given ≡ Ok given
    → AreRenewed m T (folded_ids yielded) G H → ((q : List ℕ) → get N q ≡ cond (same_key q (folded a.id.now)) given (get H q)) → AreRenewed m T (folded_ids (yielded ++ a ∷ [])) G N
renewed_answer m T yielded a given G H N answered is so_far next =
    subst (λ ids. AreRenewed m T ids G N) (sym (one_more yielded a))
    (renewed_more m T (folded_ids yielded) (folded a.id.now) G H N so_far
    (λ q. next q ∙ ap (λ o. cond (same_key q (folded a.id.now)) o (get H q)) (given_is m T a given answered is)))

pub paired_answer : (m : Mapper) (T : Table) (yielded : List Asked) (a : Asked) (given : Option Given) (L H N : Track) → IsAnswered m T a → a.given ≡ Ok given
    → ArePaired m T (folded_ids yielded) L H → ((x y : List ℕ) → is_pair x y N ≡ cond (is_id x a.id.now) (is_loaded (folded y) given) (is_pair x y H)) → ArePaired m T (folded_ids (yielded ++ a ∷ [])) L N
paired_answer m T yielded a given L H N answered is so_far next =
    subst (λ ids. ArePaired m T ids L N) (sym (one_more yielded a))
    (paired_more m T (folded_ids yielded) a.id.now L H N so_far
    (λ x y. next x y ∙ ap (λ o. cond (is_id x a.id.now) (is_loaded (folded y) o) (is_pair x y H)) (given_is m T a given answered is)))
