-- One pass over the tokens of a reduce finds the first variable that is not bound.
use Rattle.std.proofs.Common.{◌≡◌, ℕ, Bool, true, false, cond, ◌||◌, List, ◌∷◌, Option, Some, None, refl, ◌∙◌, ap}
use Rattle.std.specs.Str.{bytes_eq}
use Rattle.index_tokens.specs.declared.token.Token.{Token}
use Rattle.index_tokens.specs.declared.token.Token.TheVariants as t
use Rattle.index_tokens.specs.declared.token.Placed.{Placed}
use Rattle.index_tokens.specs.Spelling.{is_reserved}
use Rattle.index_tokens.specs.Words.{Tokens, Is, word_in, word_results, word_group, word_by, word_into, word_select, word_new, name, name_as, variable, variable_as}
use Rattle.index_tree.specs.declared.reduce_query.FoldKind.{FoldKind}
use Rattle.index_tree.specs.declared.reduce_query.FoldKind.TheVariants as kinds
use Rattle.index_tree.specs.declared.reduce_query.FoldValue.{FoldValue}
use Rattle.reduce_grammar.specs.declared.spelled.SpelledKey.{SpelledKey}
use Rattle.reduce_grammar.specs.declared.spelled.PlacedFold.{PlacedFold}
use Rattle.reduce_grammar.specs.declared.spelled.SpelledReduce.{SpelledReduce}
use Rattle.reduce_grammar.specs.Reduces.{SpellsSource, source, SpellsPart, part, SpellsParts, first_part, next_part, SpellsKey, alone, in_braces, SpellsGroup, group, word_key, word_sum, fold_as, SpellsSum, sum, SpellsValue, whole_key, key_part, fold, quotient, SpellsFold, named, bare, SpellsFolds, last, last_comma, more, spelled_reduce, SpellsReduce, reduce}
use Rattle.index_lang.specs.declared.groups.GroupStep.TheVariants.{Found, GoesOn}
use Rattle.index_lang.specs.Bound.{or_else}
use Rattle.index_lang.specs.BoundGroups.{unless_is, unbound_source, unbound_part, unbound_parts, unbound_key, unbound_group, unbound_own, unbound_sum, unbound_value, unbound_fold, unbound_folds, unbound_in_reduce}
use Rattle.index_lang.specs.ScanGroups.{scanned, names_group, at_reserved, at_variable, at_word, own_again, own_name, by_part, follow, scan, scan_reduce}
use Rattle.index_lang.proofs.Scans.{in_turn, named_variable, some_same, or_else_none}

module _ (m : SpelledReduce) where
  abbrev from : Bool → Tokens → Option ℕ
  from grouped s = scan m (scanned grouped 0) s

  abbrev then_from : Tokens → Option ℕ
  then_from s = follow m (GoesOn (scanned true 0)) (λ st. scan m st s)

  pass : (grouped : Bool) (x : Placed) (s : Tokens) (k : Token) → Is k x → from grouped (x ∷ s) ≡ follow m (by_part m grouped x k s) (λ st. scan m st s)
  pass grouped x s k is = ap (λ k. follow m (by_part m grouped x k s) (λ st. scan m st s)) is

  -- ---- variables that are to be the name of an entry

  known : (is : Bool) (x : Placed) (s : Tokens) → follow m (cond is (GoesOn (scanned false 0)) (Found x.at)) (λ st. scan m st s) ≡ or_else (cond is None (Some x.at)) (from false s)
  known true x s = refl
  known false x s = refl

  free_word : (reserved : Bool) (x : Placed) (w n : List ℕ) (s : Tokens) → is_reserved w ≡ reserved → cond reserved None (Some w) ≡ Some n →
      follow m (at_word m x w s) (λ st. scan m st s) ≡ or_else (unless_is m.var n x) (from false s)
  free_word true x w n s e is = cc
  free_word false x w n s e is =
      ap (λ (reserved : Bool). follow m (cond reserved (at_reserved m w s) (at_variable m x w)) (λ st. scan m st s)) e
      ∙ known (bytes_eq w m.var) x s
      ∙ ap (λ (w : List ℕ). or_else (unless_is m.var w x) (from false s)) (some_same w n is)

  by_variable : (x : Placed) (s : Tokens) (k : Token) (n : List ℕ) → variable_as k ≡ Some n →
      follow m (by_part m false x k s) (λ st. scan m st s) ≡ or_else (unless_is m.var n x) (from false s)
  by_variable x s (t.Word w) n is = free_word (is_reserved w) x w n s refl is
  by_variable x s _ n is = cc

  entry_name : (x : Placed) (s : Tokens) (n : List ℕ) → variable_as x.token ≡ Some n → from false (x ∷ s) ≡ or_else (unless_is m.var n x) (from false s)
  entry_name x s n is = by_variable x s x.token n is

  part_scans : {s r : Tokens} {n : List ℕ} (d : SpellsPart s n r) → from false s ≡ or_else (unbound_part m.var d) (from false r)
  part_scans (part {r = r} {x = x} {p = p} {y = y} {v = v} is point n) =
      entry_name x (p ∷ y ∷ r) v is ∙ ap (or_else (unless_is m.var v x)) (pass false p (y ∷ r) (t.Point) point)

  parts_scan : {s r : Tokens} {ns : List (List ℕ)} (d : SpellsParts s ns r) → from false s ≡ or_else (unbound_parts m.var d) (from false r)
  parts_scan (first_part x) = part_scans x
  parts_scan (next_part {s = s} {m = u} {r = r} {k = k} xs is x) =
      in_turn (unbound_parts m.var xs) (unbound_part m.var x) (from false s) (from false u) (from false r)
      (parts_scan xs ∙ ap (or_else (unbound_parts m.var xs)) (pass false k u (t.Comma) is)) (part_scans x)

  key_scans : {s r : Tokens} {key : SpelledKey} (d : SpellsKey s key r) → from false s ≡ or_else (unbound_key m.var d) (from false r)
  key_scans (alone {r = r} {x = x} {p = p} {y = y} {v = v} is point n) =
      entry_name x (p ∷ y ∷ r) v is ∙ ap (or_else (unless_is m.var v x)) (pass false p (y ∷ r) (t.Point) point)
  key_scans (in_braces {s = s} {r = r} {x = x} {b = b} {q = q} is brace xs close) =
      pass false x (b ∷ s) (word_new) is ∙ pass false b s (t.OpenBrace) brace ∙ parts_scan xs
      ∙ ap (or_else (unbound_parts m.var xs)) (pass false q r (t.CloseBrace) close)

  bound_again : (again : Bool) (place : ℕ) (s : Tokens) → follow m (cond again (Found place) (GoesOn (scanned true 0))) (λ st. scan m st s) ≡ or_else (cond again (Some place) None) (from true s)
  bound_again true place s = refl
  bound_again false place s = refl

  passing : (again : Bool) (x : Placed) (s : Tokens) →
      follow m (cond again (Found x.at) (GoesOn (scanned true 1))) (λ st. scan m st (x ∷ s)) ≡ or_else (cond again (Some x.at) None) (from true s)
  passing true x s = refl
  passing false x s = refl

  group_scans : {s r : Tokens} {g : List ℕ} (d : SpellsGroup s g r) → from false s ≡ or_else (unbound_group m.var d) (from true r)
  group_scans (group {r = r} {i = i} {x = x} {z = z} {n = n} {b = b} {g = g} is variable select new brace) =
      pass false i (x ∷ z ∷ n ∷ b ∷ r) (word_into) is
      ∙ ap (λ (o : Option (List ℕ)). follow m (names_group m o (x ∷ z ∷ n ∷ b ∷ r)) (λ st. scan m st (x ∷ z ∷ n ∷ b ∷ r))) (named_variable x.token g variable)
      ∙ passing (bytes_eq g m.var) x (z ∷ n ∷ b ∷ r)
      ∙ ap (or_else (cond (bytes_eq g m.var) (Some x.at) None)) (pass true z (n ∷ b ∷ r) (word_select) select ∙ pass true n (b ∷ r) (word_new) new ∙ pass true b r (t.OpenBrace) brace)

  -- ---- members

  by_name : (x : Placed) (s : Tokens) (k : Token) (n : List ℕ) → name_as k ≡ Some n → follow m (by_part m true x k s) (λ st. scan m st s) ≡ from true s
  by_name x s (t.Word w) n is = refl
  by_name x s _ n is = cc

  any_name : (x : Placed) (s : Tokens) (n : List ℕ) → name x ≡ Some n → from true (x ∷ s) ≡ from true s
  any_name x s n is = by_name x s x.token n is

  by_fold : (x : Placed) (s : Tokens) (k : Token) (kind : FoldKind) → fold_as k ≡ Some kind → follow m (by_part m true x k s) (λ st. scan m st s) ≡ from true s
  by_fold x s (t.Word w) kind is = refl
  by_fold x s _ kind is = cc

  own_scans : (again other : Bool) (y a z : Placed) (s : Tokens) →
      follow m (cond again (Found y.at) (cond other (GoesOn (scanned true 3)) (Found z.at))) (λ st. scan m st (y ∷ a ∷ z ∷ s))
      ≡ or_else (cond again (Some y.at) (cond other None (Some z.at))) (from true s)
  own_scans true other y a z s = refl
  own_scans false true y a z s = refl
  own_scans false false y a z s = refl

module _ (v g : List ℕ) (key : SpelledKey) (all : List PlacedFold) where
  abbrev whole : SpelledReduce
  whole = spelled_reduce v key g all

  abbrev step : Bool → Placed → Token → Tokens → Option ℕ
  step grouped x k s = follow whole (by_part whole grouped x k s) (λ st. scan whole st s)

  -- the parentheses of a fold
  folded_scans : (o y a z q u c : Placed) {own w n : List ℕ} (r : Tokens) →
      Is t.Open o → variable y ≡ Some own → variable z ≡ Some w → Is t.Point q → name u ≡ Some n → Is t.Close c →
      from whole true (o ∷ y ∷ a ∷ z ∷ q ∷ u ∷ c ∷ r) ≡ or_else (unbound_own v g own w y z) (from whole true r)
  folded_scans o y a z q u c {own} {w} {n} r open_fold first second also field close =
      pass whole true o (y ∷ a ∷ z ∷ q ∷ u ∷ c ∷ r) (t.Open) open_fold
      ∙ ap (λ (o : Option (List ℕ)). follow whole (own_name whole o y z) (λ st. scan whole st (y ∷ a ∷ z ∷ q ∷ u ∷ c ∷ r))) (named_variable y.token own first)
      ∙ ap (λ (o : Option (List ℕ)). follow whole (cond (bytes_eq own v || bytes_eq own g) (Found y.at) (own_again o own z)) (λ st. scan whole st (y ∷ a ∷ z ∷ q ∷ u ∷ c ∷ r))) (named_variable z.token w second)
      ∙ own_scans whole (bytes_eq own v || bytes_eq own g) (bytes_eq w own) y a z (q ∷ u ∷ c ∷ r)
      ∙ ap (or_else (unbound_own v g own w y z))
      (pass whole true q (u ∷ c ∷ r) (t.Point) also ∙ any_name whole u (c ∷ r) n field ∙ pass whole true c r (t.Close) close)

  sum_scans : {s r : Tokens} {by : List ℕ × List ℕ} (d : SpellsSum g s by r) → from whole true s ≡ or_else (unbound_sum v d) (from whole true r)
  sum_scans (sum {r = r} {x = x} {p = p} {f = f} {o = o} {y = y} {a = a} {z = z} {q = q} {u = u} {c = c} is point word open_fold first arrow second also field close) =
      pass whole true x (p ∷ f ∷ o ∷ y ∷ a ∷ z ∷ q ∷ u ∷ c ∷ r) (t.Word g) is
      ∙ pass whole true p (f ∷ o ∷ y ∷ a ∷ z ∷ q ∷ u ∷ c ∷ r) (t.Point) point
      ∙ pass whole true f (o ∷ y ∷ a ∷ z ∷ q ∷ u ∷ c ∷ r) (word_sum) word
      ∙ folded_scans o y a z q u c r open_fold first second also field close

  value_scans : {s r : Tokens} {a : FoldValue} (d : SpellsValue g key.form s a r) → from whole true s ≡ or_else (unbound_value v d) (from whole true r)
  value_scans (whole_key {r = r} {x = x} {p = p} {k = k} is point word only) =
      pass whole true x (p ∷ k ∷ r) (t.Word g) is ∙ pass whole true p (k ∷ r) (t.Point) point ∙ pass whole true k r (word_key) word
  value_scans (key_part {r = r} {x = x} {p = p} {k = k} {q = q} {y = y} {n = n} is point word braces also part_name) =
      pass whole true x (p ∷ k ∷ q ∷ y ∷ r) (t.Word g) is ∙ pass whole true p (k ∷ q ∷ y ∷ r) (t.Point) point ∙ pass whole true k (q ∷ y ∷ r) (word_key) word
      ∙ pass whole true q (y ∷ r) (t.Point) also ∙ any_name whole y r n part_name
  value_scans (fold {r = r} {x = x} {p = p} {f = f} {o = o} {y = y} {a = a} {z = z} {q = q} {u = u} {c = c} {kind = kind} is point word open_fold first arrow second also field close) =
      pass whole true x (p ∷ f ∷ o ∷ y ∷ a ∷ z ∷ q ∷ u ∷ c ∷ r) (t.Word g) is
      ∙ pass whole true p (f ∷ o ∷ y ∷ a ∷ z ∷ q ∷ u ∷ c ∷ r) (t.Point) point
      ∙ by_fold whole f (o ∷ y ∷ a ∷ z ∷ q ∷ u ∷ c ∷ r) f.token kind word
      ∙ folded_scans o y a z q u c r open_fold first second also field close
  value_scans (quotient {s = s} {r = r} {x = x} {p = p} {f = f} {o = o} {y = y} {a = a} {z = z} {q = q} {u = u} {c = c} {d = d} {v = own} {w = w} is point word open_fold first arrow second also field close slash by) =
      let rest : Tokens = d ∷ s in
      in_turn (unbound_own v g own w y z) (unbound_sum v by) (from whole true (x ∷ p ∷ f ∷ o ∷ y ∷ a ∷ z ∷ q ∷ u ∷ c ∷ rest)) (from whole true s) (from whole true r)
      (pass whole true x (p ∷ f ∷ o ∷ y ∷ a ∷ z ∷ q ∷ u ∷ c ∷ rest) (t.Word g) is
      ∙ pass whole true p (f ∷ o ∷ y ∷ a ∷ z ∷ q ∷ u ∷ c ∷ rest) (t.Point) point
      ∙ by_fold whole f (o ∷ y ∷ a ∷ z ∷ q ∷ u ∷ c ∷ rest) f.token kinds.Sum word
      ∙ folded_scans o y a z q u c rest open_fold first second also field close
      ∙ ap (or_else (unbound_own v g own w y z)) (pass whole true d s (t.Slash) slash))
      (sum_scans by)

  fold_scans : {s r : Tokens} {a : PlacedFold} (d : SpellsFold g key.form s a r) → from whole true s ≡ or_else (unbound_fold v d) (from whole true r)
  fold_scans (named {s = s} {x = x} {e = e} {n = n} is assign d) = any_name whole x (e ∷ s) n is ∙ pass whole true e s (t.Assign) assign ∙ value_scans d
  fold_scans (bare {r = r} {x = x} {p = p} {k = k} {q = q} {y = y} {n = n} is braces point word also part_name) =
      pass whole true x (p ∷ k ∷ q ∷ y ∷ r) (t.Word g) is ∙ pass whole true p (k ∷ q ∷ y ∷ r) (t.Point) point ∙ pass whole true k (q ∷ y ∷ r) (word_key) word
      ∙ pass whole true q (y ∷ r) (t.Point) also ∙ any_name whole y r n part_name

  folds_scan : {s r : Tokens} {some : List PlacedFold} (d : SpellsFolds g key.form s some r) → from whole true s ≡ or_else (unbound_folds v d) (from whole true r)
  folds_scan (last {r = r} {q = q} x is) = fold_scans x ∙ ap (or_else (unbound_fold v x)) (pass whole true q r (t.CloseBrace) is)
  folds_scan (last_comma {r = r} {k = k} {q = q} x is also) =
      fold_scans x ∙ ap (or_else (unbound_fold v x)) (pass whole true k (q ∷ r) (t.Comma) is ∙ pass whole true q r (t.CloseBrace) also)
  folds_scan (more {s = s} {m = u} {r = r} {k = k} x is xs) =
      in_turn (unbound_fold v x) (unbound_folds v xs) (from whole true s) (from whole true u) (from whole true r)
      (fold_scans x ∙ ap (or_else (unbound_fold v x)) (pass whole true k u (t.Comma) is)) (folds_scan xs)

  source_scans : {s r : Tokens} (d : SpellsSource s v r) → scan_reduce whole s ≡ or_else (unbound_source d) (from whole false r)
  source_scans (source {r = r} {f = f} {x = x} {i = i} {d = d} {h = h} {y = y} {b = b} {w = w} from_word first is_in results is_group second by) =
      pass whole false i (d ∷ h ∷ y ∷ b ∷ r) (word_in) is_in ∙ pass whole false d (h ∷ y ∷ b ∷ r) (word_results) results ∙ pass whole false h (y ∷ b ∷ r) (word_group) is_group
      ∙ entry_name whole y (b ∷ r) w second ∙ ap (or_else (unless_is v w y)) (pass whole false b r (word_by) by)

  all_scan : {s m n l r : Tokens} {e : Placed} (entries : SpellsSource s v m) (keys : SpellsKey m key n) (groups : SpellsGroup n g l) (members : SpellsFolds g key.form l all (e ∷ r)) → Is t.End e →
      scan_reduce whole s ≡ or_else (unbound_source entries) (or_else (unbound_key v keys) (or_else (unbound_group v groups) (unbound_folds v members)))
  all_scan {r = r} {e = e} entries keys groups members end =
      source_scans entries
      ∙ ap (or_else (unbound_source entries)) (key_scans whole keys
      ∙ ap (or_else (unbound_key v keys)) (group_scans whole groups
      ∙ ap (or_else (unbound_group v groups)) (folds_scan members
      ∙ ap (or_else (unbound_folds v members)) (pass whole true e r (t.End) end)
      ∙ or_else_none (unbound_folds v members))))

pub reduce_scans : {s r : Tokens} {a : SpelledReduce} (d : SpellsReduce s a r) → scan_reduce a s ≡ unbound_in_reduce d
reduce_scans (reduce {v = v} {g = g} {key = key} {all = all} entries keys groups members end) = all_scan v g key all entries keys groups members end
