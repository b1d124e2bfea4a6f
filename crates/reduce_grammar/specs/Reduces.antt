-- The grammar of reduces: which tokens spell which reduce.
use Rattle.std.specs.Prelude.{◌≡◌, ℕ, List, [], ◌∷◌, ◌++◌, Bool, true, false, if◌then◌else◌, codes, Option, Some, None}
use Rattle.std.specs.Str.{bytes_eq}
use Rattle.index_tokens.specs.declared.token.Token.{Token}
use Rattle.index_tokens.specs.declared.token.Token.TheVariants as t
use Rattle.index_tokens.specs.declared.token.Placed.{Placed}
use Rattle.index_tokens.specs.Words.{Tokens, Is, word_from, word_in, word_results, word_group, word_by, word_into, word_select, word_new, name, variable}
use Rattle.index_tree.specs.declared.reduce_query.FoldKind.{FoldKind}
use Rattle.index_tree.specs.declared.reduce_query.FoldKind.TheVariants as kinds
use Rattle.index_tree.specs.declared.reduce_query.FoldValue.{FoldValue}
use Rattle.index_tree.specs.declared.reduce_query.FoldValue.TheVariants as values
use Rattle.reduce_grammar.specs.declared.spelled.KeyForm.{KeyForm}
use Rattle.reduce_grammar.specs.declared.spelled.KeyForm.TheVariants as forms
use Rattle.reduce_grammar.specs.declared.spelled.SpelledKey.{SpelledKey}
use Rattle.reduce_grammar.specs.declared.spelled.PlacedFold.{PlacedFold}
use Rattle.reduce_grammar.specs.declared.spelled.SpelledReduce.{SpelledReduce}

-- ---- which entries

-- source = "from" var "in" "results" "group" var "by"
-- The first variable names an entry. Whether the second is that name too is not decided here.
pub data SpellsSource : Tokens → List ℕ → Tokens → Type 0 where
  source : {r : Tokens} {f x i d h y b : Placed} {v w : List ℕ} →
      Is word_from f → variable x ≡ Some v → Is word_in i → Is word_results d → Is word_group h → variable y ≡ Some w → Is word_by b →
      SpellsSource (f ∷ x ∷ i ∷ d ∷ h ∷ y ∷ b ∷ r) v r

-- ---- the key

-- part = var "." name
pub data SpellsPart : Tokens → List ℕ → Tokens → Type 0 where
  part : {r : Tokens} {x p y : Placed} {v n : List ℕ} → variable x ≡ Some v → Is t.Point p → name y ≡ Some n → SpellsPart (x ∷ p ∷ y ∷ r) n r

-- parts = part { "," part }
pub data SpellsParts : Tokens → List (List ℕ) → Tokens → Type 0 where
  first_part : {s r : Tokens} {n : List ℕ} → SpellsPart s n r → SpellsParts s (n ∷ []) r
  next_part : {s m r : Tokens} {k : Placed} {ns : List (List ℕ)} {n : List ℕ} →
      SpellsParts s ns (k ∷ m) → Is t.Comma k → SpellsPart m n r → SpellsParts s (ns ++ n ∷ []) r

abbrev pub spelled_key : ℕ → KeyForm → SpelledKey
spelled_key place form = record { at = place; form = form }

-- key = part | "new" "{" parts "}"
pub data SpellsKey : Tokens → SpelledKey → Tokens → Type 0 where
  alone : {r : Tokens} {x p y : Placed} {v n : List ℕ} → variable x ≡ Some v → Is t.Point p → name y ≡ Some n → SpellsKey (x ∷ p ∷ y ∷ r) (spelled_key x.at (forms.Alone n)) r
  in_braces : {s r : Tokens} {x b q : Placed} {ns : List (List ℕ)} →
      Is word_new x → Is t.OpenBrace b → SpellsParts s ns (q ∷ r) → Is t.CloseBrace q → SpellsKey (x ∷ b ∷ s) (spelled_key x.at (forms.New ns)) r

-- whether the key is in `new { }`
abbrev pub in_new : KeyForm → Bool
in_new (forms.Alone n) = false
in_new (forms.New ns) = true

abbrev pub only : List (List ℕ) → Option (List ℕ)
only (n ∷ []) = Some n
only _ = None

-- the part of a key that has just one, in `new { }` or not
abbrev pub only_part : KeyForm → Option (List ℕ)
only_part (forms.Alone n) = Some n
only_part (forms.New ns) = only ns

abbrev pub parts_of : KeyForm → List (List ℕ)
parts_of (forms.Alone n) = n ∷ []
parts_of (forms.New ns) = ns

-- ---- the group

-- group = "into" var "select" "new" "{"
-- The variable names a group.
pub data SpellsGroup : Tokens → List ℕ → Tokens → Type 0 where
  group : {r : Tokens} {i x z n b : Placed} {g : List ℕ} →
      Is word_into i → variable x ≡ Some g → Is word_select z → Is word_new n → Is t.OpenBrace b → SpellsGroup (i ∷ x ∷ z ∷ n ∷ b ∷ r) g r

-- ---- members

-- words that only follow a group and a point, and are no reserved ones
abbrev pub word_key : Token
word_key = t.Word (codes "Key")

abbrev pub word_sum : Token
word_sum = t.Word (codes "Sum")

abbrev pub fold_word : List ℕ → Option FoldKind
fold_word w =
    if bytes_eq w (codes "Sum") then Some kinds.Sum else (
    if bytes_eq w (codes "Min") then Some kinds.Min else (
    if bytes_eq w (codes "Max") then Some kinds.Max else None))

abbrev pub fold_as : Token → Option FoldKind
fold_as (t.Word w) = fold_word w
fold_as _ = None

-- the word of a fold
abbrev pub fold_of : Placed → Option FoldKind
fold_of x = fold_as x.token

-- sum = g "." "Sum" folded
-- The sum by which another one is divided: the name of an entry in it, and the field.
pub data SpellsSum (g : List ℕ) : Tokens → List ℕ × List ℕ → Tokens → Type 0 where
  sum : {r : Tokens} {x p f o y a z q u c : Placed} {v w n : List ℕ} →
      Is (t.Word g) x → Is t.Point p → Is word_sum f → Is t.Open o → variable y ≡ Some v → Is t.Arrow a → variable z ≡ Some w → Is t.Point q → name u ≡ Some n → Is t.Close c →
      SpellsSum g (x ∷ p ∷ f ∷ o ∷ y ∷ a ∷ z ∷ q ∷ u ∷ c ∷ r) (v, n) r

-- value = g "." "Key" [ "." name ] | g "." fold folded | g "." "Sum" folded "/" g "." "Sum" folded, where g is the name of a group, and no other name
-- folded = "(" var "=>" var "." name ")"
-- `Key` with no name after it means a key of one part, and `Key` with a name for one in `new { }`. Whether the key has a part of that name,
-- and whether both variables of a fold are the same, is not decided here.
pub data SpellsValue (g : List ℕ) (form : KeyForm) : Tokens → FoldValue → Tokens → Type 0 where
  whole_key : {r : Tokens} {x p k : Placed} {n : List ℕ} →
      Is (t.Word g) x → Is t.Point p → Is word_key k → only_part form ≡ Some n → SpellsValue g form (x ∷ p ∷ k ∷ r) (values.Key n) r
  key_part : {r : Tokens} {x p k q y : Placed} {n : List ℕ} →
      Is (t.Word g) x → Is t.Point p → Is word_key k → in_new form ≡ true → Is t.Point q → name y ≡ Some n → SpellsValue g form (x ∷ p ∷ k ∷ q ∷ y ∷ r) (values.Key n) r
  fold : {r : Tokens} {x p f o y a z q u c : Placed} {kind : FoldKind} {v w n : List ℕ} →
      Is (t.Word g) x → Is t.Point p → fold_of f ≡ Some kind → Is t.Open o → variable y ≡ Some v → Is t.Arrow a → variable z ≡ Some w → Is t.Point q → name u ≡ Some n → Is t.Close c →
      SpellsValue g form (x ∷ p ∷ f ∷ o ∷ y ∷ a ∷ z ∷ q ∷ u ∷ c ∷ r) (values.Fold kind v n) r
  quotient : {s r : Tokens} {x p f o y a z q u c d : Placed} {v w n : List ℕ} {by : List ℕ × List ℕ} →
      Is (t.Word g) x → Is t.Point p → fold_of f ≡ Some kinds.Sum → Is t.Open o → variable y ≡ Some v → Is t.Arrow a → variable z ≡ Some w → Is t.Point q → name u ≡ Some n → Is t.Close c →
      Is t.Slash d → SpellsSum g s by r →
      SpellsValue g form (x ∷ p ∷ f ∷ o ∷ y ∷ a ∷ z ∷ q ∷ u ∷ c ∷ d ∷ s) (values.Quotient v n by.0 by.1) r

abbrev pub placed_fold : ℕ → List ℕ → FoldValue → PlacedFold
placed_fold place n a = record { at = place; member = record { name = n; value = a } }

-- member = name "=" value | g "." "Key" "." name
-- A member without a name of its own takes that of the part.
pub data SpellsFold (g : List ℕ) (form : KeyForm) : Tokens → PlacedFold → Tokens → Type 0 where
  named : {s r : Tokens} {x e : Placed} {n : List ℕ} {a : FoldValue} →
      name x ≡ Some n → Is t.Assign e → SpellsValue g form s a r → SpellsFold g form (x ∷ e ∷ s) (placed_fold x.at n a) r
  bare : {r : Tokens} {x p k q y : Placed} {n : List ℕ} →
      Is (t.Word g) x → in_new form ≡ true → Is t.Point p → Is word_key k → Is t.Point q → name y ≡ Some n → SpellsFold g form (x ∷ p ∷ k ∷ q ∷ y ∷ r) (placed_fold x.at n (values.Key n)) r

-- members = member { "," member } [","] "}"
pub data SpellsFolds (g : List ℕ) (form : KeyForm) : Tokens → List PlacedFold → Tokens → Type 0 where
  last : {s r : Tokens} {q : Placed} {a : PlacedFold} → SpellsFold g form s a (q ∷ r) → Is t.CloseBrace q → SpellsFolds g form s (a ∷ []) r
  last_comma : {s r : Tokens} {k q : Placed} {a : PlacedFold} → SpellsFold g form s a (k ∷ q ∷ r) → Is t.Comma k → Is t.CloseBrace q → SpellsFolds g form s (a ∷ []) r
  more : {s m r : Tokens} {k : Placed} {a : PlacedFold} {all : List PlacedFold} →
      SpellsFold g form s a (k ∷ m) → Is t.Comma k → SpellsFolds g form m all r → SpellsFolds g form s (a ∷ all) r

-- ---- the whole text

abbrev pub spelled_reduce : List ℕ → SpelledKey → List ℕ → List PlacedFold → SpelledReduce
spelled_reduce v key g all = record { var = v; group = g; key_at = key.at; key = parts_of key.form; members = all }

-- reduce = source key group members, and the end of the text, behind which nothing counts
pub data SpellsReduce : Tokens → SpelledReduce → Tokens → Type 0 where
  reduce : {s m n l r : Tokens} {e : Placed} {v g : List ℕ} {key : SpelledKey} {all : List PlacedFold} →
      SpellsSource s v m → SpellsKey m key n → SpellsGroup n g l → SpellsFolds g key.form l all (e ∷ r) → Is t.End e → SpellsReduce s (spelled_reduce v key g all) r
