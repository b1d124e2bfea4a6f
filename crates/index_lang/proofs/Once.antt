-- Texts have one answer.
use Rattle.std.proofs.Common.{◌≡◌, ℕ, List, Option, Some, None, Result, Ok, Err, inl, inr, refl, sym, subst, ◌∙◌, ap}
use Rattle.exact_parse.specs.Answers.{Answer, Spelled, IsUnexpected, IsTooLarge, IsAnswer}
use Rattle.exact_parse.proofs.Exact.{one_answer}
use Rattle.index_tokens.specs.declared.token.Placed.{Placed}
use Rattle.index_tokens.specs.Tokens.{tokens_of}
use Rattle.index_tokens.specs.Reads.{Kind}
use Rattle.index_tokens.specs.Words.{Tokens, place_of}
use Rattle.index_grammar.specs.declared.spelled.SpelledMap.{SpelledMap}
use Rattle.index_grammar.specs.Maps.{SpellsMap}
use Rattle.index_grammar.specs.Limits as maps
use Rattle.index_grammar.specs.MapReading.{map_text}
use Rattle.index_grammar.proofs.MapKeeps.{map_text_keeps}
use Rattle.index_grammar.proofs.MapMeets.{map_text_meets}
use Rattle.reduce_grammar.specs.declared.spelled.SpelledReduce.{SpelledReduce}
use Rattle.reduce_grammar.specs.Reduces.{SpellsReduce}
use Rattle.reduce_grammar.specs.Limits as reduces
use Rattle.reduce_grammar.specs.ReduceReading.{reduce_text}
use Rattle.reduce_grammar.proofs.ReduceKeeps.{reduce_keeps}
use Rattle.reduce_grammar.proofs.ReduceMeets.{reduce_meets}
use Rattle.index_definition.specs.declared.refusal.Part.TheVariants as part
use Rattle.index_definition.specs.declared.refusal.LangKind.TheVariants as kind
use Rattle.index_definition.specs.declared.refusal.LangRefusal.{LangRefusal}
use Rattle.index_definition.specs.declared.refusal.LangRefusal.TheVariants.{At, NoMemory}
use Rattle.index_definition.specs.declared.definition.Definition.{Definition}
use Rattle.index_lang.specs.declared.reading.ReadMap.{ReadMap}
use Rattle.index_lang.specs.declared.reading.ReadReduce.{ReadReduce}
use Rattle.index_lang.specs.declared.reading.Trees.{Trees}
use Rattle.index_lang.specs.Scan.{scan_map}
use Rattle.index_lang.specs.ScanGroups.{scan_reduce}
use Rattle.index_lang.specs.Parse.{IsMapRead, IsReduceRead, IsReduceReadIf, AreRead, IsParsed, first_cause, is_long, judged_if, lengths}
use Rattle.index_lang.proofs.Scans.{map_scans}
use Rattle.index_lang.proofs.GroupScans.{reduce_scans}

-- ---- maps

abbrev map_result : Tokens → Answer Placed Kind SpelledMap → Result ReadMap LangRefusal
map_result ts (Spelled a) = Ok (record { map = a; unbound = scan_map a ts })
map_result ts (IsUnexpected p) = Err (At part.Map (place_of p) kind.Unexpected)
map_result ts (IsTooLarge k p) = Err (At part.Map (place_of p) kind.TooLarge)

map_answer : (text : List ℕ) (r : Result ReadMap LangRefusal) → IsMapRead text r → (answer : Answer Placed Kind SpelledMap) × IsAnswer SpellsMap maps.limit (tokens_of text) answer × (r ≡ map_result (tokens_of text) answer)
map_answer text (Ok r) x = (Spelled r.map, x.0, ap (λ (u : Option ℕ). Ok (record { map = r.map; unbound = u })) (x.1 ∙ sym (map_scans x.0.spelling)))
map_answer text (Err (At part.Map place kind.Unexpected)) x = (IsUnexpected x.0, x.1, ap (λ (place : ℕ). Err (At part.Map place kind.Unexpected)) x.2)
map_answer text (Err (At part.Map place kind.TooLarge)) x = (IsTooLarge tt x.0, x.1, ap (λ (place : ℕ). Err (At part.Map place kind.TooLarge)) x.2)
map_answer text (Err (At part.Map place kind.UnknownName)) x = absurd x
map_answer text (Err (At part.Map place kind.DuplicateField)) x = absurd x
map_answer text (Err (At part.Map place kind.FieldsDiffer)) x = absurd x
map_answer text (Err (At part.Map place kind.NotReducible)) x = absurd x
map_answer text (Err (At part.Reduce place kind.Unexpected)) x = absurd x
map_answer text (Err (At part.Reduce place kind.UnknownName)) x = absurd x
map_answer text (Err (At part.Reduce place kind.DuplicateField)) x = absurd x
map_answer text (Err (At part.Reduce place kind.FieldsDiffer)) x = absurd x
map_answer text (Err (At part.Reduce place kind.NotReducible)) x = absurd x
map_answer text (Err (At part.Reduce place kind.TooLarge)) x = absurd x
map_answer text (Err NoMemory) x = absurd x

pub map_read_once : (text : List ℕ) (a b : Result ReadMap LangRefusal) → IsMapRead text a → IsMapRead text b → a ≡ b
map_read_once text a b x y =
    let u = map_answer text a x in let v = map_answer text b y in
    u.2 ∙ ap (map_result (tokens_of text)) (one_answer SpellsMap maps.limit map_text map_text_keeps map_text_meets (tokens_of text) u.0 v.0 u.1 v.1) ∙ sym v.2

-- ---- reduces

abbrev reduce_result : Tokens → Answer Placed Kind SpelledReduce → Result ReadReduce LangRefusal
reduce_result ts (Spelled a) = Ok (record { reduce = a; unbound = scan_reduce a ts })
reduce_result ts (IsUnexpected p) = Err (At part.Reduce (place_of p) kind.Unexpected)
reduce_result ts (IsTooLarge k p) = Err (At part.Reduce (place_of p) kind.TooLarge)

reduce_answer : (text : List ℕ) (r : Result ReadReduce LangRefusal) → IsReduceRead text r → (answer : Answer Placed Kind SpelledReduce) × IsAnswer SpellsReduce reduces.limit (tokens_of text) answer × (r ≡ reduce_result (tokens_of text) answer)
reduce_answer text (Ok r) x = (Spelled r.reduce, x.0, ap (λ (u : Option ℕ). Ok (record { reduce = r.reduce; unbound = u })) (x.1 ∙ sym (reduce_scans x.0.spelling)))
reduce_answer text (Err (At part.Reduce place kind.Unexpected)) x = (IsUnexpected x.0, x.1, ap (λ (place : ℕ). Err (At part.Reduce place kind.Unexpected)) x.2)
reduce_answer text (Err (At part.Reduce place kind.TooLarge)) x = (IsTooLarge tt x.0, x.1, ap (λ (place : ℕ). Err (At part.Reduce place kind.TooLarge)) x.2)
reduce_answer text (Err (At part.Reduce place kind.UnknownName)) x = absurd x
reduce_answer text (Err (At part.Reduce place kind.DuplicateField)) x = absurd x
reduce_answer text (Err (At part.Reduce place kind.FieldsDiffer)) x = absurd x
reduce_answer text (Err (At part.Reduce place kind.NotReducible)) x = absurd x
reduce_answer text (Err (At part.Map place kind.Unexpected)) x = absurd x
reduce_answer text (Err (At part.Map place kind.UnknownName)) x = absurd x
reduce_answer text (Err (At part.Map place kind.DuplicateField)) x = absurd x
reduce_answer text (Err (At part.Map place kind.FieldsDiffer)) x = absurd x
reduce_answer text (Err (At part.Map place kind.NotReducible)) x = absurd x
reduce_answer text (Err (At part.Map place kind.TooLarge)) x = absurd x
reduce_answer text (Err NoMemory) x = absurd x

pub reduce_read_once : (text : List ℕ) (a b : Result ReadReduce LangRefusal) → IsReduceRead text a → IsReduceRead text b → a ≡ b
reduce_read_once text a b x y =
    let u = reduce_answer text a x in let v = reduce_answer text b y in
    u.2 ∙ ap (reduce_result (tokens_of text)) (one_answer SpellsReduce reduces.limit reduce_text reduce_keeps reduce_meets (tokens_of text) u.0 v.0 u.1 v.1) ∙ sym v.2

-- ---- both

abbrev ok_or : {A : Type 0} → A → Result A LangRefusal → A
ok_or other (Ok a) = a
ok_or other (Err e) = other

abbrev some_or : {A : Type 0} → A → Option A → A
some_or other (Some a) = a
some_or other None = other

not_both : {A : Type 0} (a : A) (e : LangRefusal) → Ok a ≡ Err e → ⊥
not_both a e p = cc

reduce_if_once : (reduce : Option (List ℕ)) (a b : Option ReadReduce) → IsReduceReadIf reduce a → IsReduceReadIf reduce b → a ≡ b
reduce_if_once None None None x y = refl
reduce_if_once (Some text) (Some a) (Some b) x y = ap (λ r. Some (ok_or a r)) (reduce_read_once text (Ok a) (Ok b) x y)
reduce_if_once None (Some a) b x y = absurd x
reduce_if_once None None (Some b) x y = absurd y
reduce_if_once (Some text) None b x y = absurd x
reduce_if_once (Some text) (Some a) None x y = absurd y

read_or_refused : (text : List ℕ) (reduce : Option (List ℕ)) (a : Option ReadReduce) (e : LangRefusal) → reduce ≡ Some text → IsReduceReadIf reduce a → IsReduceRead text (Err e) → ⊥
read_or_refused text None a e is x y = cc
read_or_refused text (Some other) None e is x y = absurd x
read_or_refused text (Some other) (Some a) e is x y =
    not_both a e (reduce_read_once text (Ok a) (Err e) (subst (λ (t : List ℕ). IsReduceRead t (Ok a)) (ap (some_or other) is) x) y)

pub read_once : (text : List ℕ) (reduce : Option (List ℕ)) (a b : Result Trees LangRefusal) → AreRead text reduce a → AreRead text reduce b → a ≡ b
read_once text reduce (Ok a) (Ok b) x y =
    let m : a.map ≡ b.map = ap (ok_or a.map) (map_read_once text (Ok a.map) (Ok b.map) x.0 y.0) in
    let r : a.reduce ≡ b.reduce = reduce_if_once reduce a.reduce b.reduce x.1 y.1 in
    λ i. Ok (record { map = m i; reduce = r i })
read_once text reduce (Ok a) (Err e) x (inl y) = absurd (not_both a.map e (map_read_once text (Ok a.map) (Err e) x.0 y))
read_once text reduce (Ok a) (Err e) x (inr y) = absurd (read_or_refused y.2 reduce a.reduce e y.3 x.1 y.4)
read_once text reduce (Err e) (Ok b) (inl x) y = absurd (not_both b.map e (map_read_once text (Ok b.map) (Err e) y.0 x))
read_once text reduce (Err e) (Ok b) (inr x) y = absurd (read_or_refused x.2 reduce b.reduce e x.3 y.1 x.4)
read_once text reduce (Err e) (Err f) (inl x) (inl y) = ap (as_trees e) (map_read_once text (Err e) (Err f) x y)
  where
    as_trees : LangRefusal → Result ReadMap LangRefusal → Result Trees LangRefusal
    as_trees other (Ok m) = Err other
    as_trees other (Err e) = Err e
read_once text reduce (Err e) (Err f) (inl x) (inr y) = absurd (not_both y.0 e (map_read_once text (Ok y.0) (Err e) y.1 x))
read_once text reduce (Err e) (Err f) (inr x) (inl y) = absurd (not_both x.0 f (map_read_once text (Ok x.0) (Err f) x.1 y))
read_once text reduce (Err e) (Err f) (inr x) (inr y) =
    ap (as_trees e) (reduce_read_once x.2 (Err e) (Err f) x.4 (subst (λ (t : List ℕ). IsReduceRead t (Err f)) (ap (some_or x.2) (sym y.3 ∙ x.3)) y.4))
  where
    as_trees : LangRefusal → Result ReadReduce LangRefusal → Result Trees LangRefusal
    as_trees other (Ok m) = Err other
    as_trees other (Err e) = Err e

long_once : (long : Option LangRefusal) (a b : Result Definition LangRefusal) (A B : Type 0) → is_long long a A → is_long long b B → (A → B → a ≡ b) → a ≡ b
long_once (Some refusal) a b A B x y h = x ∙ sym y
long_once None a b A B x y h = h x y

pub parsed_once : (name text : List ℕ) (reduce : Option (List ℕ)) (a b : Result Definition LangRefusal) → IsParsed name text reduce a → IsParsed name text reduce b → a ≡ b
parsed_once name text reduce a b x y =
    long_once (first_cause (lengths text reduce)) a b
    ((trees : Result Trees LangRefusal) × AreRead text reduce trees × (a ≡ judged_if name text reduce trees))
    ((trees : Result Trees LangRefusal) × AreRead text reduce trees × (b ≡ judged_if name text reduce trees))
    x y (λ u v. u.2 ∙ ap (judged_if name text reduce) (read_once text reduce u.0 v.0 u.1 v.1) ∙ sym v.2)
