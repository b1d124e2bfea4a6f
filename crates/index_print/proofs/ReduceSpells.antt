-- The tokens of a printed reduce spell it.
use Rattle.std.proofs.Common.{◌≡◌, ℕ, List, [], ◌∷◌, ◌++◌, arith, refl, sym, subst, ap, ap₂, ◌∙◌, append_assoc, append-nil, codes, Some, map, flat_map}
use Rattle.exact_parse.specs.Exact.{Meets}
use Rattle.exact_parse.specs.Limits.{Verdict, Fine, Over}
use Rattle.exact_parse.specs.Steps.{Outcome}
use Rattle.index_tokens.specs.declared.token.Token.{Token}
use Rattle.index_tokens.specs.declared.token.Token.TheVariants as t
use Rattle.index_tokens.specs.declared.token.Placed.{Placed}
use Rattle.index_tokens.specs.Tokens.{placed, tokens_from, tokens_of}
use Rattle.index_tokens.specs.Words.{Tokens, variable}
use Rattle.index_tokens.specs.Reads.{Kind}
use Rattle.index_tokens.proofs.WordLemmas.{is_variable}
use Rattle.index_tree.specs.declared.reduce_query.FoldKind.{FoldKind}
use Rattle.index_tree.specs.declared.reduce_query.FoldKind.TheVariants as k
use Rattle.index_tree.specs.declared.reduce_query.FoldMember.{FoldMember}
use Rattle.index_tree.specs.declared.reduce_query.FoldValue.{FoldValue}
use Rattle.index_tree.specs.declared.reduce_query.FoldValue.TheVariants as f
use Rattle.index_tree.specs.declared.reduce_query.ReduceQuery.{ReduceQuery}
use Rattle.reduce_grammar.specs.declared.spelled.KeyForm.{KeyForm}
use Rattle.reduce_grammar.specs.declared.spelled.KeyForm.TheVariants as forms
use Rattle.reduce_grammar.specs.declared.spelled.PlacedFold.{PlacedFold}
use Rattle.reduce_grammar.specs.declared.spelled.SpelledReduce.{SpelledReduce}
use Rattle.reduce_grammar.specs.Limits.{limit}
use Rattle.reduce_grammar.specs.ReduceReading.{reduce_text}
use Rattle.reduce_grammar.specs.Reduces.{SpellsSource, source, SpellsPart, SpellsParts, first_part, next_part, spelled_key, SpellsKey, alone, in_braces, parts_of, SpellsGroup, group, fold_of, SpellsSum, sum, SpellsValue, whole_key, placed_fold, SpellsFold, named, SpellsFolds, last, more, spelled_reduce, SpellsReduce, reduce}
use Rattle.reduce_grammar.specs.Reduces as grammar
use Rattle.reduce_grammar.proofs.ReduceMeets.{reduce_meets}
use Rattle.index_print.specs.Print.{part, key, listed, fold_name, fold, fold_value, fold_member, grouping, printed_reduce}
use Rattle.index_print.specs.ReadBack.{reduce_of, ReadsBackReduce}
use Rattle.index_print.specs.Spellable.{IsName, IsVariable, IsKeyPart, IsSpellableValue, IsSpellableFold, IsSpellableReduce, Each, HasSome, IsApart}
use Rattle.index_print.proofs.Prefixes.{Next, word_next, word_gap, gap_word_gap, open_next, close_next, point_next, comma_next, slash_next, assign_next, brace_gap, close_brace_next, double_between_gaps}
use Rattle.index_print.proofs.ExpressionSpells.{After, up_to}

-- the token, and then these
then : (x : Token) (place : ℕ) (s r : List ℕ) (n : Next x place s r) (ts : Tokens) → tokens_from n.behind 0 r ≡ ts → tokens_from place 0 s ≡ placed n.start x ∷ ts
then x place s r n ts is = n.is ∙ ap (λ z. placed n.start x ∷ z) is

-- ---- which entries

source_text : (var keys s : List ℕ) → codes "from " ++ (var ++ (codes " in results group " ++ (var ++ (codes " by " ++ (keys ++ s))))) ≡ (codes "from " ++ (var ++ (codes " in results group " ++ (var ++ (codes " by " ++ keys))))) ++ s
source_text var keys s = simp append_assoc

source_spelled : (var s : List ℕ) → IsVariable var → (place : ℕ) → After (λ m r. SpellsSource m var r) place (codes "from " ++ (var ++ (codes " in results group " ++ (var ++ (codes " by " ++ s))))) s
source_spelled var s h place =
    let last_part = var ++ (codes " by " ++ s) in
    let a = word_gap (codes "from") (refl, refl) place (var ++ (codes " in results group " ++ last_part)) in
    let b = word_gap var h.0 a.behind (codes "in results group " ++ last_part) in
    let c = word_gap (codes "in") (refl, refl) b.behind (codes "results group " ++ last_part) in
    let d = word_gap (codes "results") (refl, refl) c.behind (codes "group " ++ last_part) in
    let e = word_gap (codes "group") (refl, refl) d.behind last_part in
    let g = word_gap var h.0 e.behind (codes "by " ++ s) in
    let i = word_gap (codes "by") (refl, refl) g.behind s in
    let tokens = then (t.Word (codes "from")) place _ _ a _ (then (t.Word var) a.behind _ _ b _ (then (t.Word (codes "in")) b.behind _ _ c _ (then (t.Word (codes "results")) c.behind _ _ d _ (
    then (t.Word (codes "group")) d.behind _ _ e _ (then (t.Word var) e.behind _ _ g _ i.is))))) in
    record {
      behind = i.behind;
      spells = subst (λ z. SpellsSource z var (tokens_from i.behind 0 s)) (sym tokens)
          (source refl (is_variable (placed b.start (t.Word var)) var refl h.1) refl refl refl (is_variable (placed g.start (t.Word var)) var refl h.1) refl);
    }

-- ---- the key

part_text : (var name s : List ℕ) → var ++ (46 ∷ (name ++ s)) ≡ part var name ++ s
part_text var name s = simp append_assoc

record PartTokens (var name : List ℕ) (place : ℕ) (s : List ℕ) : Type 0 where
  first_start : ℕ
  point_start : ℕ
  last_start : ℕ
  behind : ℕ
  is : tokens_from place 0 (part var name ++ s) ≡ placed first_start (t.Word var) ∷ placed point_start t.Point ∷ placed last_start (t.Word name) ∷ tokens_from behind 0 s

part_tokens : (var name : List ℕ) → IsName var → IsName name → (place : ℕ) (s : List ℕ) → IsApart s → PartTokens var name place s
part_tokens var name h n place s apart =
    let a = word_next var h place (46 ∷ (name ++ s)) refl in
    let p = point_next a.behind (name ++ s) in
    let b = word_next name n p.behind s apart in
    record {
      first_start = a.start;
      point_start = p.start;
      last_start = b.start;
      behind = b.behind;
      is = ap (tokens_from place 0) (sym (part_text var name s)) ∙ then (t.Word var) place _ _ a _ (then t.Point a.behind _ _ p _ b.is);
    }

part_spelled : (var name : List ℕ) → IsVariable var → IsName name → (place : ℕ) (s : List ℕ) → IsApart s → After (λ m r. SpellsPart m name r) place (part var name ++ s) s
part_spelled var name h n place s apart =
    let p = part_tokens var name h.0 n place s apart in
    record {
      behind = p.behind;
      spells = subst (λ z. SpellsPart z name (tokens_from p.behind 0 s)) (sym p.is) (grammar.part (is_variable (placed p.first_start (t.Word var)) var refl h.1) refl refl);
    }

abbrev others : List ℕ → List (List ℕ) → List ℕ
others var names = flat_map (λ next. codes ", " ++ next) (map (part var) names)

others_apart : (var : List ℕ) (names : List (List ℕ)) (s : List ℕ) → IsApart s → IsApart (others var names ++ s)
others_apart var [] s apart = apart
others_apart var (n ∷ names) s apart = refl

parts_spelled : (var : List ℕ) (names done : List (List ℕ)) (start : Tokens) → IsVariable var → Each IsName names → (place : ℕ) (s : List ℕ) → IsApart s
    → SpellsParts start done (tokens_from place 0 (others var names ++ s)) → After (λ m r. SpellsParts start (done ++ names) r) place (others var names ++ s) s
parts_spelled var [] done start h names place s apart so_far =
    record { behind = place; spells = subst (λ z. SpellsParts start z (tokens_from place 0 s)) (sym (append-nil done)) so_far }
parts_spelled var (n ∷ names) done start h each place s apart so_far =
    let rest = others var names ++ s in
    let comma = comma_next place (part var n ++ rest) in
    let one = part_spelled var n h each.0 comma.behind rest (others_apart var names s apart) in
    let before = subst (λ z. SpellsParts start done (tokens_from place 0 (44 ∷ 32 ∷ z))) (append_assoc (part var n) (others var names) s) so_far in
    let more_parts = parts_spelled var names (done ++ n ∷ []) start h each.1 one.behind s apart (next_part (subst (SpellsParts start done) comma.is before) refl one.spells) in
    record { behind = more_parts.behind; spells = subst (λ z. SpellsParts start z (tokens_from more_parts.behind 0 s)) (append_assoc done (n ∷ []) names) more_parts.spells }

abbrev form_of : List (List ℕ) → KeyForm
form_of (only ∷ []) = forms.Alone only
form_of names = forms.New names

same_parts : (names : List (List ℕ)) → parts_of (form_of names) ≡ names
same_parts [] = refl
same_parts (a ∷ []) = refl
same_parts (a ∷ b ∷ names) = refl

abbrev SpelledKeyOf : KeyForm → Tokens → Tokens → Type 0
SpelledKeyOf form m r = (start : ℕ) × SpellsKey m (spelled_key start form) r

key_text : (parts s : List ℕ) → codes "new { " ++ (parts ++ (32 ∷ 125 ∷ s)) ≡ (codes "new { " ++ (parts ++ codes " }")) ++ s
key_text parts s = simp append_assoc

several_spelled : (var n : List ℕ) (names : List (List ℕ)) → IsVariable var → Each IsName (n ∷ names) → (place : ℕ) (s : List ℕ)
    → After (SpelledKeyOf (forms.New (n ∷ names))) place ((codes "new { " ++ (listed (map (part var) (n ∷ names)) ++ codes " }")) ++ s) s
several_spelled var n names h each place s =
    let list = listed (map (part var) (n ∷ names)) in
    let behind = 32 ∷ 125 ∷ s in
    let word = word_gap (codes "new") (refl, refl) place (codes "{ " ++ (list ++ behind)) in
    let brace = brace_gap word.behind (list ++ behind) in
    let one = part_spelled var n h each.0 brace.behind (others var names ++ behind) (others_apart var names behind refl) in
    let start = tokens_from brace.behind 0 (part var n ++ (others var names ++ behind)) in
    let all = parts_spelled var names (n ∷ []) start h each.1 one.behind behind refl (first_part one.spells) in
    let close = close_brace_next all.behind s in
    let inner : SpellsParts (tokens_from brace.behind 0 (list ++ behind)) (n ∷ names) (placed close.start t.CloseBrace ∷ tokens_from close.behind 0 s) =
    subst (λ z. SpellsParts (tokens_from brace.behind 0 z) (n ∷ names) (placed close.start t.CloseBrace ∷ tokens_from close.behind 0 s)) (sym (append_assoc (part var n) (others var names) behind))
    (subst (SpellsParts start (n ∷ names)) close.is all.spells) in
    record {
      behind = close.behind;
      spells = (
        word.start,
        subst (λ z. SpellsKey (tokens_from place 0 z) (spelled_key word.start (forms.New (n ∷ names))) (tokens_from close.behind 0 s)) (key_text list s)
            (subst (λ z. SpellsKey z (spelled_key word.start (forms.New (n ∷ names))) (tokens_from close.behind 0 s)) (sym (then (t.Word (codes "new")) place _ _ word _ brace.is)) (in_braces refl refl inner refl)),
      );
    }

key_spelled : (var : List ℕ) (names : List (List ℕ)) → IsVariable var → HasSome names → Each IsName names → (place : ℕ) (s : List ℕ) → IsApart s → After (SpelledKeyOf (form_of names)) place (key var names ++ s) s
key_spelled var [] h some each place s apart = absurd some
key_spelled var (only ∷ []) h some each place s apart =
    let p = part_tokens var only h.0 each.0 place s apart in
    record {
      behind = p.behind;
      spells = (
        p.first_start,
        subst (λ z. SpellsKey z (spelled_key p.first_start (forms.Alone only)) (tokens_from p.behind 0 s)) (sym p.is)
            (alone (is_variable (placed p.first_start (t.Word var)) var refl h.1) refl refl),
      );
    }
key_spelled var (a ∷ b ∷ names) h some each place s apart = several_spelled var a (b ∷ names) h each place s

-- ---- values

fold_name_is : (kind : FoldKind) → IsName (fold_name kind)
fold_name_is k.Sum = (refl, refl)
fold_name_is k.Min = (refl, refl)
fold_name_is k.Max = (refl, refl)

fold_is : (kind : FoldKind) (start : ℕ) → fold_of (placed start (t.Word (fold_name kind))) ≡ Some kind
fold_is k.Sum start = refl
fold_is k.Min start = refl
fold_is k.Max start = refl

abbrev PrintsValue : List ℕ → List (List ℕ) → FoldValue → Type 0
PrintsValue g names a = (place : ℕ) (s : List ℕ) → IsApart s → After (λ m r. SpellsValue g (form_of names) m a r) place (fold_value g names a ++ s) s

fold_text : (g word var field s : List ℕ) → g ++ (46 ∷ (word ++ (40 ∷ (var ++ (codes " => " ++ (part var field ++ (41 ∷ s))))))) ≡ (g ++ (codes "." ++ (word ++ (codes "(" ++ (var ++ (codes " => " ++ (part var field ++ codes ")"))))))) ++ s
fold_text g word var field s = simp append_assoc

arrow_next : (place : ℕ) (s : List ℕ) → Next t.Arrow place (codes " => " ++ s) s
arrow_next = double_between_gaps 61 62 t.Arrow (refl, refl, λ e. omega arith, refl) refl

-- where the tokens of a fold begin
record FoldTokens (g : List ℕ) (kind : FoldKind) (var field : List ℕ) (place : ℕ) (s : List ℕ) : Type 0 where
  group_start : ℕ
  point_start : ℕ
  word_start : ℕ
  open_start : ℕ
  var_start : ℕ
  arrow_start : ℕ
  entry_start : ℕ
  inner_start : ℕ
  field_start : ℕ
  close_start : ℕ
  behind : ℕ
  is : tokens_from place 0 ((g ++ fold kind var field) ++ s)
      ≡ placed group_start (t.Word g) ∷ placed point_start t.Point ∷ placed word_start (t.Word (fold_name kind)) ∷ placed open_start t.Open ∷ placed var_start (t.Word var) ∷ placed arrow_start t.Arrow
      ∷ placed entry_start (t.Word var) ∷ placed inner_start t.Point ∷ placed field_start (t.Word field) ∷ placed close_start t.Close ∷ tokens_from behind 0 s

fold_tokens : (g : List ℕ) (kind : FoldKind) (var field : List ℕ) → IsVariable g → IsVariable var → IsName field → (place : ℕ) (s : List ℕ) → FoldTokens g kind var field place s
fold_tokens g kind var field h v n place s =
    let last_part = part var field ++ (41 ∷ s) in
    let inner = var ++ (codes " => " ++ last_part) in
    let a = word_next g h.0 place (46 ∷ (fold_name kind ++ (40 ∷ inner))) refl in
    let p = point_next a.behind (fold_name kind ++ (40 ∷ inner)) in
    let w = word_next (fold_name kind) (fold_name_is kind) p.behind (40 ∷ inner) refl in
    let o = open_next w.behind inner in
    let x = word_next var v.0 o.behind (codes " => " ++ last_part) refl in
    let arrow = arrow_next x.behind last_part in
    let e = part_tokens var field v.0 n arrow.behind (41 ∷ s) refl in
    let close = close_next e.behind s in
    let tail : tokens_from arrow.behind 0 last_part
    ≡ placed e.first_start (t.Word var) ∷ placed e.point_start t.Point ∷ placed e.last_start (t.Word field) ∷ placed close.start t.Close ∷ tokens_from close.behind 0 s =
    e.is ∙ ap (λ z. placed e.first_start (t.Word var) ∷ placed e.point_start t.Point ∷ placed e.last_start (t.Word field) ∷ z) close.is in
    record {
      group_start = a.start;
      point_start = p.start;
      word_start = w.start;
      open_start = o.start;
      var_start = x.start;
      arrow_start = arrow.start;
      entry_start = e.first_start;
      inner_start = e.point_start;
      field_start = e.last_start;
      close_start = close.start;
      behind = close.behind;
      is = ap (tokens_from place 0) (sym (fold_text g (fold_name kind) var field s)) ∙ then (t.Word g) place _ _ a _ (then t.Point a.behind _ _ p _ (then (t.Word (fold_name kind)) p.behind _ _ w _ (
          then t.Open w.behind _ _ o _ (then (t.Word var) o.behind _ _ x _ (then t.Arrow x.behind _ _ arrow _ tail)))));
    }

variable_at : (start : ℕ) (v : List ℕ) → IsVariable v → variable (placed start (t.Word v)) ≡ Some v
variable_at start v h = is_variable (placed start (t.Word v)) v refl h.1

fold_spelled : (g : List ℕ) (names : List (List ℕ)) (kind : FoldKind) (var field : List ℕ) → IsVariable g → IsVariable var → IsName field → PrintsValue g names (f.Fold kind var field)
fold_spelled g names kind var field h v n place s apart =
    let w = fold_tokens g kind var field h v n place s in
    record {
      behind = w.behind;
      spells = subst (λ z. SpellsValue g (form_of names) z (f.Fold kind var field) (tokens_from w.behind 0 s)) (sym w.is)
          (grammar.fold refl refl (fold_is kind w.word_start) refl (variable_at w.var_start var v) refl (variable_at w.entry_start var v) refl refl refl);
    }

sum_spelled : (g var field : List ℕ) → IsVariable g → IsVariable var → IsName field → (place : ℕ) (s : List ℕ)
    → After (λ m r. SpellsSum g m (var, field) r) place ((g ++ fold k.Sum var field) ++ s) s
sum_spelled g var field h v n place s =
    let w = fold_tokens g k.Sum var field h v n place s in
    record {
      behind = w.behind;
      spells = subst (λ z. SpellsSum g z (var, field) (tokens_from w.behind 0 s)) (sym w.is)
          (sum refl refl refl refl (variable_at w.var_start var v) refl (variable_at w.entry_start var v) refl refl refl);
    }

quotient_text : (g first second s : List ℕ) → (g ++ first) ++ (codes " / " ++ ((g ++ second) ++ s)) ≡ (g ++ (first ++ (codes " / " ++ (g ++ second)))) ++ s
quotient_text g first second s = simp append_assoc

quotient_spelled : (g : List ℕ) (names : List (List ℕ)) (var field by_var by : List ℕ) → IsVariable g → IsVariable var → IsName field → IsVariable by_var → IsName by
    → PrintsValue g names (f.Quotient var field by_var by)
quotient_spelled g names var field by_var by h v n by_v by_n place s apart =
    let divisor = (g ++ fold k.Sum by_var by) ++ s in
    let w = fold_tokens g k.Sum var field h v n place (codes " / " ++ divisor) in
    let slash = slash_next w.behind divisor in
    let second = sum_spelled g by_var by h by_v by_n slash.behind s in
    let tokens = w.is
    ∙ ap (λ z. placed w.group_start (t.Word g) ∷ placed w.point_start t.Point ∷ placed w.word_start (t.Word (fold_name k.Sum)) ∷ placed w.open_start t.Open ∷ placed w.var_start (t.Word var)
    ∷ placed w.arrow_start t.Arrow ∷ placed w.entry_start (t.Word var) ∷ placed w.inner_start t.Point ∷ placed w.field_start (t.Word field) ∷ placed w.close_start t.Close ∷ z) slash.is in
    record {
      behind = second.behind;
      spells = subst (λ z. SpellsValue g (form_of names) (tokens_from place 0 z) (f.Quotient var field by_var by) (tokens_from second.behind 0 s))
          (quotient_text g (fold k.Sum var field) (fold k.Sum by_var by) s)
          (subst (λ z. SpellsValue g (form_of names) z (f.Quotient var field by_var by) (tokens_from second.behind 0 s)) (sym tokens)
          (grammar.quotient refl refl refl refl (variable_at w.var_start var v) refl (variable_at w.entry_start var v) refl refl refl refl second.spells));
    }

whole_text : (g s : List ℕ) → g ++ (46 ∷ (codes "Key" ++ s)) ≡ (g ++ codes ".Key") ++ s
whole_text g s = simp append_assoc

whole_spelled : (g only : List ℕ) → IsVariable g → PrintsValue g (only ∷ []) (f.Key only)
whole_spelled g only h place s apart =
    let a = word_next g h.0 place (46 ∷ (codes "Key" ++ s)) refl in
    let p = point_next a.behind (codes "Key" ++ s) in
    let w = word_next (codes "Key") (refl, refl) p.behind s apart in
    let tokens = then (t.Word g) place _ _ a _ (then t.Point a.behind _ _ p _ w.is) in
    record {
      behind = w.behind;
      spells = subst (λ z. SpellsValue g (forms.Alone only) (tokens_from place 0 z) (f.Key only) (tokens_from w.behind 0 s)) (whole_text g s)
          (subst (λ z. SpellsValue g (forms.Alone only) z (f.Key only) (tokens_from w.behind 0 s)) (sym tokens) (whole_key refl refl refl refl));
    }

one_of_text : (g name s : List ℕ) → g ++ (46 ∷ (codes "Key" ++ (46 ∷ (name ++ s)))) ≡ (g ++ (codes ".Key." ++ name)) ++ s
one_of_text g name s = simp append_assoc

one_of_spelled : (g name a b : List ℕ) (names : List (List ℕ)) → IsVariable g → IsName name → PrintsValue g (a ∷ b ∷ names) (f.Key name)
one_of_spelled g name first second names h n place s apart =
    let last_part = 46 ∷ (name ++ s) in
    let a = word_next g h.0 place (46 ∷ (codes "Key" ++ last_part)) refl in
    let p = point_next a.behind (codes "Key" ++ last_part) in
    let w = word_next (codes "Key") (refl, refl) p.behind last_part refl in
    let q = point_next w.behind (name ++ s) in
    let e = word_next name n q.behind s apart in
    let tokens = then (t.Word g) place _ _ a _ (then t.Point a.behind _ _ p _ (then (t.Word (codes "Key")) p.behind _ _ w _ (then t.Point w.behind _ _ q _ e.is))) in
    record {
      behind = e.behind;
      spells = subst (λ z. SpellsValue g (forms.New (first ∷ second ∷ names)) (tokens_from place 0 z) (f.Key name) (tokens_from e.behind 0 s)) (one_of_text g name s)
          (subst (λ z. SpellsValue g (forms.New (first ∷ second ∷ names)) z (f.Key name) (tokens_from e.behind 0 s)) (sym tokens) (grammar.key_part refl refl refl refl refl refl));
    }

key_part_spelled : (g name : List ℕ) (names : List (List ℕ)) → IsVariable g → HasSome names → IsKeyPart names name → PrintsValue g names (f.Key name)
key_part_spelled g name [] h some is = absurd some
key_part_spelled g name (only ∷ []) h some is = subst (λ z. PrintsValue g (only ∷ []) (f.Key z)) (sym is) (whole_spelled g only h)
key_part_spelled g name (a ∷ b ∷ names) h some is = one_of_spelled g name a b names h is

value_spelled : (g : List ℕ) (names : List (List ℕ)) (a : FoldValue) → IsVariable g → HasSome names → IsSpellableValue names a → PrintsValue g names a
value_spelled g names (f.Key name) h some is = key_part_spelled g name names h some is
value_spelled g names (f.Fold kind var field) h some is = fold_spelled g names kind var field h is.0 is.1
value_spelled g names (f.Quotient var field by_var by) h some is = quotient_spelled g names var field by_var by h is.0 is.1 is.2 is.3

-- ---- members

module _ (g : List ℕ) (names : List (List ℕ)) (h : IsVariable g) (some : HasSome names) where
  abbrev SpelledFold : FoldMember → Tokens → Tokens → Type 0
  SpelledFold m s r = (p : PlacedFold) × SpellsFold g (form_of names) s p r × (p.member ≡ m)

  member_text : (name x s : List ℕ) → name ++ (codes " = " ++ (x ++ s)) ≡ (name ++ (codes " = " ++ x)) ++ s
  member_text name x s = simp append_assoc

  member_spelled : (m : FoldMember) → IsSpellableFold names m → (place : ℕ) (s : List ℕ) → IsApart s → After (SpelledFold m) place (fold_member g names m ++ s) s
  member_spelled m is place s apart =
      let rest = fold_value g names m.value ++ s in
      let name = word_next m.name is.0 place (codes " = " ++ rest) refl in
      let assign = assign_next name.behind rest in
      let value = value_spelled g names m.value h some is.1 assign.behind s apart in
      record {
        behind = value.behind;
        spells = subst (λ z. SpelledFold m (tokens_from place 0 z) (tokens_from value.behind 0 s)) (member_text m.name (fold_value g names m.value) s)
            (subst (λ z. SpelledFold m z (tokens_from value.behind 0 s)) (sym (then (t.Word m.name) place _ _ name _ assign.is)) (placed_fold name.start m.name m.value, named refl refl value.spells, refl));
      }

  abbrev SpelledFolds : List FoldMember → Tokens → Tokens → Type 0
  SpelledFolds ms s r = (ps : List PlacedFold) × SpellsFolds g (form_of names) s ps r × (map (λ p. p.member) ps ≡ ms)

  more_text : (m rest s : List ℕ) → m ++ (44 ∷ 32 ∷ (rest ++ s)) ≡ (m ++ (44 ∷ 32 ∷ rest)) ++ s
  more_text m rest s = simp append_assoc

  members_spelled : (m : FoldMember) (ms : List FoldMember) → Each (IsSpellableFold names) (m ∷ ms) → (place : ℕ)
      → After (SpelledFolds (m ∷ ms)) place (listed (map (fold_member g names) (m ∷ ms)) ++ (32 ∷ 125 ∷ [])) []
  members_spelled m [] each place =
      let one = member_spelled m each.0 place (32 ∷ 125 ∷ []) refl in
      let brace = close_brace_next one.behind [] in
      let spelled = up_to (SpelledFold m) t.CloseBrace place (fold_member g names m ++ (32 ∷ 125 ∷ [])) (32 ∷ 125 ∷ []) [] one brace in
      record {
        behind = brace.behind;
        spells = subst (λ z. SpelledFolds (m ∷ []) (tokens_from place 0 (z ++ (32 ∷ 125 ∷ []))) (tokens_from brace.behind 0 [])) (sym (append-nil (fold_member g names m)))
            (spelled.0 ∷ [], last spelled.1 refl, ap (λ z. z ∷ []) spelled.2);
      }
  members_spelled m (n ∷ ms) each place =
      let rest = listed (map (fold_member g names) (n ∷ ms)) in
      let behind = rest ++ (32 ∷ 125 ∷ []) in
      let one = member_spelled m each.0 place (44 ∷ 32 ∷ behind) refl in
      let comma = comma_next one.behind behind in
      let spelled = up_to (SpelledFold m) t.Comma place (fold_member g names m ++ (44 ∷ 32 ∷ behind)) (44 ∷ 32 ∷ behind) behind one comma in
      let later = members_spelled n ms each.1 comma.behind in
      record {
        behind = later.behind;
        spells = subst (λ z. SpelledFolds (m ∷ n ∷ ms) (tokens_from place 0 z) (tokens_from later.behind 0 [])) (more_text (fold_member g names m) rest (32 ∷ 125 ∷ []))
            (spelled.0 ∷ later.spells.0, more spelled.1 refl later.spells.1, ap (λ z. spelled.0.member ∷ z) later.spells.2 ∙ ap (λ z. z ∷ n ∷ ms) spelled.2);
      }

-- ---- the whole reduce

abbrev SpelledQuery : ReduceQuery → Tokens → Type 0
SpelledQuery query ts = (spelled : SpelledReduce) × SpellsReduce ts spelled [] × (reduce_of spelled ≡ query)

abbrev with_parts : ReduceQuery → List (List ℕ) → List FoldMember → ReduceQuery
with_parts query names ms = record { var = query.var; group = query.group; key = names; members = ms }

reduce_by : (query : ReduceQuery) (m : FoldMember) (ms : List FoldMember) → query.members ≡ m ∷ ms → IsVariable query.var → IsVariable query.group → HasSome query.key → Each IsName query.key
    → Each (IsSpellableFold query.key) (m ∷ ms)
    → SpelledQuery query (tokens_of (grouping query.var query.key ++ (codes " into " ++ (query.group ++ (codes " select new { " ++ (listed (map (fold_member query.group query.key) (m ∷ ms)) ++ codes " }"))))))
reduce_by query m ms is var g some names members =
    let fields = listed (map (fold_member query.group query.key) (m ∷ ms)) ++ codes " }" in
    let tail = codes " into " ++ (query.group ++ (codes " select new { " ++ fields)) in
    let rest = key query.var query.key ++ tail in
    let entries = source_spelled query.var rest var 0 in
    let keys = key_spelled query.var query.key var some names entries.behind tail refl in
    let into = gap_word_gap (codes "into") (refl, refl) keys.behind (query.group ++ (codes " select new { " ++ fields)) in
    let named_group = word_gap query.group g.0 into.behind (codes "select new { " ++ fields) in
    let select = word_gap (codes "select") (refl, refl) named_group.behind (codes "new { " ++ fields) in
    let new_word = word_gap (codes "new") (refl, refl) select.behind (codes "{ " ++ fields) in
    let brace = brace_gap new_word.behind fields in
    let inner = members_spelled query.group query.key g some m ms members brace.behind in
    let tokens = then (t.Word (codes "into")) keys.behind _ _ into _ (then (t.Word query.group) into.behind _ _ named_group _ (then (t.Word (codes "select")) named_group.behind _ _ select _ (
    then (t.Word (codes "new")) select.behind _ _ new_word _ brace.is))) in
    let opening : SpellsGroup (tokens_from keys.behind 0 tail) query.group (tokens_from brace.behind 0 fields) =
    subst (λ z. SpellsGroup z query.group (tokens_from brace.behind 0 fields)) (sym tokens) (group refl (is_variable (placed named_group.start (t.Word query.group)) query.group refl g.1) refl refl refl) in
    let whole = reduce entries.spells keys.spells.1 opening inner.spells.1 refl in (
      spelled_reduce query.var (spelled_key keys.spells.0 (form_of query.key)) query.group inner.spells.0,
      subst (λ z. SpellsReduce (tokens_of z) (spelled_reduce query.var (spelled_key keys.spells.0 (form_of query.key)) query.group inner.spells.0) []) (source_text query.var (key query.var query.key) tail) whole,
      ap₂ (with_parts query) (same_parts query.key) (inner.spells.2 ∙ sym is),
    )

some_by : (query : ReduceQuery) (ms : List FoldMember) → query.members ≡ ms → IsVariable query.var → IsVariable query.group → HasSome query.key → Each IsName query.key → HasSome ms
    → Each (IsSpellableFold query.key) ms
    → SpelledQuery query (tokens_of (grouping query.var query.key ++ (codes " into " ++ (query.group ++ (codes " select new { " ++ (listed (map (fold_member query.group query.key) ms) ++ codes " }"))))))
some_by query [] is var g some names any members = absurd any
some_by query (m ∷ ms) is var g some names any members = reduce_by query m ms is var g some names members

pub reduce_spelled : (query : ReduceQuery) → IsSpellableReduce query → SpelledQuery query (tokens_of (printed_reduce query))
reduce_spelled query h = some_by query query.members refl h.0 h.1 h.2 h.3 h.4 h.5

-- ---- and is read

read_by : (query : ReduceQuery) (spelled : SpelledReduce) (v : Verdict Placed Kind) (o : Outcome Placed Kind SpelledReduce) → reduce_of spelled ≡ query → Meets v spelled [] o → ReadsBackReduce query o
read_by query spelled (Fine count) o is met = subst (ReadsBackReduce query) (sym met) is
read_by query spelled (Over kind p) o is met = subst (ReadsBackReduce query) (sym met) tt

pub reduce_read_back : (query : ReduceQuery) → IsSpellableReduce query → ReadsBackReduce query (reduce_text 0 (tokens_of (printed_reduce query)))
reduce_read_back query h =
    let spelled = reduce_spelled query h in
    let ts = tokens_of (printed_reduce query) in
    read_by query spelled.0 (limit ts spelled.0 [] spelled.1) (reduce_text 0 ts) spelled.2 (reduce_meets ts [] spelled.0 spelled.1)
