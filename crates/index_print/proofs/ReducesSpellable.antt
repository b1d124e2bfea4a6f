-- What the tokens of a text spell as a reduce can be printed.
use Rattle.std.proofs.Common.{◌≡◌, ℕ, List, [], ◌∷◌, ◌++◌, sym, Some, map}
use Rattle.index_tokens.specs.Tokens.{tokens_of}
use Rattle.index_tokens.specs.Words.{Tokens}
use Rattle.index_tree.specs.declared.reduce_query.FoldMember.{FoldMember}
use Rattle.index_tree.specs.declared.reduce_query.FoldValue.{FoldValue}
use Rattle.index_tree.specs.declared.reduce_query.FoldValue.TheVariants as f
use Rattle.reduce_grammar.specs.declared.spelled.KeyForm.{KeyForm}
use Rattle.reduce_grammar.specs.declared.spelled.KeyForm.TheVariants as forms
use Rattle.reduce_grammar.specs.declared.spelled.PlacedFold.{PlacedFold}
use Rattle.reduce_grammar.specs.declared.spelled.SpelledKey.{SpelledKey}
use Rattle.reduce_grammar.specs.declared.spelled.SpelledReduce.{SpelledReduce}
use Rattle.reduce_grammar.specs.Reduces.{SpellsSource, source, SpellsPart, part, SpellsParts, first_part, next_part, SpellsKey, alone, in_braces, only, only_part, parts_of, SpellsGroup, group, SpellsSum, sum, SpellsValue, whole_key, key_part, fold, quotient, SpellsFold, named, bare, SpellsFolds, last, last_comma, more, SpellsReduce, reduce}
use Rattle.index_print.specs.ReadBack.{reduce_of}
use Rattle.index_print.specs.Spellable.{IsName, IsVariable, IsKeyPart, NamesPart, IsSpellableValue, IsSpellableFold, IsSpellableReduce, Each, HasSome}
use Rattle.index_print.proofs.TokensSound.{AllSound, all_sound}
use Rattle.index_print.proofs.TreesSpellable.{name_sound, variable_sound}

source_spellable : {s r : Tokens} {v : List ℕ} → SpellsSource s v r → AllSound s → IsVariable v × AllSound r
source_spellable (source {x = x} {v = v} a is b c d also e) h = (variable_sound x v is h.1.0, h.1.1.1.1.1.1.1)

-- ---- the key

part_spellable : {s r : Tokens} {n : List ℕ} → SpellsPart s n r → AllSound s → IsName n × AllSound r
part_spellable (part {y = y} {n = n} v p is) h = (name_sound y n is h.1.1.0, h.1.1.1)

abbrev AreNames : List (List ℕ) → Type 0
AreNames names = HasSome names × Each IsName names

one_more : (names : List (List ℕ)) (n : List ℕ) → Each IsName names → IsName n → AreNames (names ++ n ∷ [])
one_more [] n each is = (tt, (is, tt))
one_more (a ∷ names) n each is = (tt, (each.0, (one_more names n each.1 is).1))

parts_spellable : {s r : Tokens} {names : List (List ℕ)} → SpellsParts s names r → AllSound s → AreNames names × AllSound r
parts_spellable (first_part x) h = let p = part_spellable x h in ((tt, (p.0, tt)), p.1)
parts_spellable (next_part {ns = names} {n = n} x is y) h = let p = parts_spellable x h in let q = part_spellable y p.1.1 in (one_more names n p.0.1 q.0, q.1)

key_spellable : {s r : Tokens} {key : SpelledKey} → SpellsKey s key r → AllSound s → AreNames (parts_of key.form) × AllSound r
key_spellable (alone {y = y} {n = n} v p is) h = ((tt, (name_sound y n is h.1.1.0, tt)), h.1.1.1)
key_spellable (in_braces word opening x closing) h = let p = parts_spellable x h.1.1 in (p.0, p.1.1)

group_spellable : {s r : Tokens} {g : List ℕ} → SpellsGroup s g r → AllSound s → IsVariable g × AllSound r
group_spellable (group {x = x} {g = g} a is b c d) h = (variable_sound x g is h.1.0, h.1.1.1.1.1)

-- ---- values

only_key : (names : List (List ℕ)) (n : List ℕ) → only names ≡ Some n → IsKeyPart names n
only_key [] n is = cc
only_key (a ∷ []) n is = let same : a ≡ n = cc in sym same
only_key (a ∷ b ∷ names) n is = cc

whole_part : (form : KeyForm) (n : List ℕ) → only_part form ≡ Some n → IsKeyPart (parts_of form) n
whole_part (forms.Alone a) n is = let same : a ≡ n = cc in sym same
whole_part (forms.New names) n is = only_key names n is

named_part : (names : List (List ℕ)) (n : List ℕ) → IsName n → NamesPart names (f.Key n) → IsKeyPart names n
named_part [] n is h = is
named_part (a ∷ []) n is h = h
named_part (a ∷ b ∷ names) n is h = is

sum_spellable : {g : List ℕ} {s r : Tokens} {a : List ℕ × List ℕ} → SpellsSum g s a r → AllSound s → (IsVariable a.0 × IsName a.1) × AllSound r
sum_spellable (sum {y = y} {u = u} {v = v} {n = n} x p f o is a w q called c) h =
    ((variable_sound y v is h.1.1.1.1.0, name_sound u n called h.1.1.1.1.1.1.1.1.0), h.1.1.1.1.1.1.1.1.1.1)

value_spellable : {g : List ℕ} {form : KeyForm} {s r : Tokens} {a : FoldValue} → SpellsValue g form s a r → AllSound s → NamesPart (parts_of form) a → IsSpellableValue (parts_of form) a × AllSound r
value_spellable {form = form} (whole_key {n = n} x p k is) h names = (whole_part form n is, h.1.1.1)
value_spellable {form = form} (key_part {y = y} {n = n} x p k is q called) h names = (named_part (parts_of form) n (name_sound y n called h.1.1.1.1.0) names, h.1.1.1.1.1)
value_spellable (fold {y = y} {u = u} {v = v} {n = n} x p kind o is a w q called c) h names =
    ((variable_sound y v is h.1.1.1.1.0, name_sound u n called h.1.1.1.1.1.1.1.1.0), h.1.1.1.1.1.1.1.1.1.1)
value_spellable (quotient {y = y} {u = u} {v = v} {n = n} x p k o is a w q called c d second) h names =
    let by = sum_spellable second h.1.1.1.1.1.1.1.1.1.1.1 in
    ((variable_sound y v is h.1.1.1.1.0, name_sound u n called h.1.1.1.1.1.1.1.1.0, by.0.0, by.0.1), by.1)

-- ---- members

fold_spellable : {g : List ℕ} {form : KeyForm} {s r : Tokens} {a : PlacedFold} → SpellsFold g form s a r → AllSound s → NamesPart (parts_of form) a.member.value
    → IsSpellableFold (parts_of form) a.member × AllSound r
fold_spellable (named {x = x} {n = n} is also y) h names = let p = value_spellable y h.1.1 names in ((name_sound x n is h.0, p.0), p.1)
fold_spellable {form = form} (bare {y = y} {n = n} x is p k q called) h names =
    let word = name_sound y n called h.1.1.1.1.0 in ((word, named_part (parts_of form) n word names), h.1.1.1.1.1)

abbrev members_of : List PlacedFold → List FoldMember
members_of all = map (λ p. p.member) all

abbrev EachNamesPart : KeyForm → List PlacedFold → Type 0
EachNamesPart form all = Each (λ m. NamesPart (parts_of form) m.value) (members_of all)

abbrev AreSpellable : KeyForm → List PlacedFold → Type 0
AreSpellable form all = HasSome (members_of all) × Each (IsSpellableFold (parts_of form)) (members_of all)

folds_spellable : {g : List ℕ} {form : KeyForm} {s r : Tokens} {all : List PlacedFold} → SpellsFolds g form s all r → AllSound s → EachNamesPart form all → AreSpellable form all × AllSound r
folds_spellable (last x is) h names = let p = fold_spellable x h names.0 in ((tt, (p.0, tt)), p.1.1)
folds_spellable (last_comma x is also) h names = let p = fold_spellable x h names.0 in ((tt, (p.0, tt)), p.1.1.1)
folds_spellable (more x is y) h names = let p = fold_spellable x h names.0 in let q = folds_spellable y p.1.1 names.1 in ((tt, (p.0, q.0.1)), q.1)

-- ---- the whole reduce

abbrev EachNames : SpelledReduce → Type 0
EachNames spelled = Each (λ m. NamesPart spelled.key m.value) (members_of spelled.members)

reduce_by : {s r : Tokens} {a : SpelledReduce} → SpellsReduce s a r → AllSound s → EachNames a → IsSpellableReduce (reduce_of a)
reduce_by (reduce entries key called all end) h names =
    let p = source_spellable entries h in
    let q = key_spellable key p.1 in
    let u = group_spellable called q.1 in
    let w = folds_spellable all u.1 names in
    (p.0, u.0, q.0.0, q.0.1, w.0.0, w.0.1)

pub reduce_spellable : (bytes : List ℕ) (a : SpelledReduce) (r : Tokens) → SpellsReduce (tokens_of bytes) a r → EachNames a → IsSpellableReduce (reduce_of a)
reduce_spellable bytes a r x names = reduce_by x (all_sound bytes) names
