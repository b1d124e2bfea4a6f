-- What is read is spelled so, if the reading stops something goes on, and neither depends on a later token.
use Rattle.std.proofs.Common.{◌≡◌, ℕ, zero, suc, List, [], ◌∷◌, ◌++◌, Bool, true, false, cond, codes, Option, Some, None, refl, sym, ◌∙◌, subst, append_assoc}
use Rattle.exact_parse.specs.Steps.{pure, choose}
use Rattle.exact_parse.specs.Keeps.{Goes, Fits, Keeps, Then}
use Rattle.exact_parse.specs.Loops.{LoopKeeps, NextKeeps}
use Rattle.exact_parse.proofs.Keeping.{pure_at, pure_keeps, refuse_at, too_large_at, choose_keeps, skip_at, skip_short, bind_keeps, map_keeps}
use Rattle.exact_parse.proofs.Loops.{loop_keeps}
use Rattle.index_tokens.specs.declared.token.Token.{Token}
use Rattle.index_tokens.specs.declared.token.Token.TheVariants as t
use Rattle.index_tokens.specs.declared.token.Placed.{Placed}
use Rattle.index_tokens.specs.Tokens.{placed}
use Rattle.index_tokens.specs.Reads.{Reads}
use Rattle.index_tokens.specs.Words.{Tokens, Is, the, name, variable, word_from, word_in, word_results, word_group, word_by, word_into, word_select, word_new}
use Rattle.index_tokens.proofs.WordLemmas.{taken_is, word_same}
use Rattle.index_tokens.proofs.Taking.{the_keeps, name_keeps, variable_keeps}
use Rattle.index_tree.specs.declared.reduce_query.FoldKind.{FoldKind}
use Rattle.index_tree.specs.declared.reduce_query.FoldKind.TheVariants as kinds
use Rattle.index_tree.specs.declared.reduce_query.FoldValue.{FoldValue}
use Rattle.index_tree.specs.declared.reduce_query.FoldValue.TheVariants as values
use Rattle.reduce_grammar.specs.declared.spelled.KeyForm.{KeyForm}
use Rattle.reduce_grammar.specs.declared.spelled.KeyForm.TheVariants as forms
use Rattle.reduce_grammar.specs.declared.spelled.PlacedFold.{PlacedFold}
use Rattle.reduce_grammar.specs.Limits.{most_members}
use Rattle.reduce_grammar.specs.Reduces.{SpellsSource, SpellsPart, SpellsParts, SpellsKey, SpellsGroup, SpellsSum, SpellsValue, SpellsFold, SpellsFolds, SpellsReduce, spelled_key, in_new, only, word_key, word_sum, fold_of, placed_fold, spelled_reduce}
use Rattle.reduce_grammar.specs.Reduces as grammar
use Rattle.reduce_grammar.specs.ReduceReading as read

-- a token at no place of its own
abbrev mark : Token → Placed
mark token = placed 0 token

-- a word that is any name, and a variable too
abbrev some_word : Placed
some_word = placed 0 (t.Word (codes "x"))

-- ---- which entries

source_keeps : Keeps SpellsSource read.source
unfolding read.source
source_keeps = the_keeps word_from refl (λ f f_is. variable_keeps _ (λ x v x_is. the_keeps word_in refl (λ i i_is. the_keeps word_results refl (λ d d_is. the_keeps word_group refl (λ h h_is.
    variable_keeps _ (λ y w y_is. the_keeps word_by refl (λ b b_is. pure_keeps (λ z. grammar.source f_is x_is i_is d_is h_is y_is b_is))))))))

-- ---- the key

part_keeps : Keeps SpellsPart read.part
unfolding read.part
part_keeps = variable_keeps _ (λ x v x_is. the_keeps t.Point refl (λ p p_is. name_keeps _ (λ y n y_is. pure_keeps (λ z. grammar.part x_is p_is y_is))))

-- what goes on behind parts that are spelled
abbrev pub Behind : List (List ℕ) → Tokens → List (List ℕ) → Tokens → Type 0
Behind = Then SpellsParts SpellsParts

part_turn : (found : List (List ℕ)) (x : Placed) (o : Option (Unit {0})) → the t.Comma x ≡ o → NextKeeps Behind found x (read.part_as found o)
part_turn found x (Some v) is = bind_keeps (λ n. pure (found ++ n ∷ [])) part_keeps (λ n. pure_keeps (λ z m y d r h s d0. h s (grammar.next_part d0 (taken_is t.Comma x v is) y)))
part_turn found x None is = λ c s. pure_at {X = Behind found} (λ z s d. d) c _

pub parts_turn : LoopKeeps Behind read.part_next
parts_turn = record {
  short = λ found. record { more = []; tree = found; spells = λ z s d. d };
  none = λ found c. pure_at {X = Behind found} (λ z s d. d) c [];
  some = λ found x. part_turn found x (the t.Comma x) refl;
}

parts_keep : (found : List (List ℕ)) → Keeps (Behind found) (read.parts found)
unfolding read.parts
parts_keep = loop_keeps tt Behind read.part_next parts_turn

key_alone_keeps : (x : Placed) (v : List ℕ) → variable x ≡ Some v → Keeps (λ m b r. SpellsKey (x ∷ m) b r) (read.key_alone x.at)
unfolding read.key_alone
key_alone_keeps x v x_is = the_keeps t.Point refl (λ p p_is. name_keeps _ (λ y n y_is. pure_keeps (λ z. grammar.alone x_is p_is y_is)))

key_in_new_keeps : (x : Placed) → Is word_new x → Keeps (λ m b r. SpellsKey (x ∷ m) b r) (read.key_in_new x.at)
unfolding read.key_in_new
key_in_new_keeps x x_is = the_keeps t.OpenBrace refl (λ b b_is. bind_keeps _ part_keeps (λ n. bind_keeps _ (parts_keep (n ∷ [])) (λ ns.
    the_keeps t.CloseBrace refl (λ q q_is. pure_keeps (λ z s h s0 d. grammar.in_braces x_is b_is (h s0 (grammar.first_part d)) q_is)))))

key_short : Goes SpellsKey []
key_short = record { more = some_word ∷ mark t.Point ∷ some_word ∷ []; tree = spelled_key 0 (forms.Alone (codes "x")); spells = λ z. grammar.alone refl refl refl }

alone_token : (x : Placed) (o : Option (List ℕ)) → variable x ≡ o → (c : ℕ) (s : Tokens) → Fits SpellsKey (read.alone_as x o) c (x ∷ s) (read.alone_as x o c (x ∷ s))
alone_token x (Some v) is c s = skip_at SpellsKey (read.key_alone x.at) x (key_alone_keeps x v is) c s
alone_token x None is c s = refuse_at {X = SpellsKey} tt key_short c _

key_token : (x : Placed) (o : Option (Unit {0})) → the word_new x ≡ o → (c : ℕ) (s : Tokens) → Fits SpellsKey (read.key_as x o) c (x ∷ s) (read.key_as x o c (x ∷ s))
key_token x (Some v) is c s = skip_at SpellsKey (read.key_in_new x.at) x (key_in_new_keeps x (taken_is word_new x v is)) c s
key_token x None is c s = alone_token x (variable x) refl c s

key_keeps : Keeps SpellsKey read.key
unfolding read.key
key_keeps = choose_keeps SpellsKey read.key_by key_short (λ c. refuse_at {X = SpellsKey} tt key_short c []) (λ x. key_token x (the word_new x) refl)

-- ---- the group

group_keeps : Keeps SpellsGroup read.group
unfolding read.group
group_keeps = the_keeps word_into refl (λ i i_is. variable_keeps _ (λ x g x_is. the_keeps word_select refl (λ y y_is. the_keeps word_new refl (λ n n_is. the_keeps t.OpenBrace refl (λ b b_is.
    pure_keeps (λ z. grammar.group i_is x_is y_is n_is b_is))))))

-- ---- values

sum_keeps : (g : List ℕ) → Keeps (SpellsSum g) (read.sum g)
unfolding read.sum read.divisor
sum_keeps g = the_keeps (t.Word g) (word_same g) (λ x x_is. the_keeps t.Point refl (λ p p_is. the_keeps word_sum refl (λ f f_is. the_keeps t.Open refl (λ o o_is.
    variable_keeps _ (λ y v y_is. the_keeps t.Arrow refl (λ a a_is. variable_keeps _ (λ z w z_is. the_keeps t.Point refl (λ q q_is.
    name_keeps _ (λ u n u_is. the_keeps t.Close refl (λ c c_is. pure_keeps (λ r. grammar.sum x_is p_is f_is o_is y_is a_is z_is q_is u_is c_is)))))))))))

module _ (g : List ℕ) (x p : Placed) (x_is : Is (t.Word g) x) (p_is : Is t.Point p) where
  -- behind `Key`
  module _ (ns : List (List ℕ)) (k : Placed) (k_is : Is word_key k) where
    abbrev InNew : Tokens → FoldValue → Tokens → Type 0
    InNew m b r = SpellsValue g (forms.New ns) (x ∷ p ∷ k ∷ m) b r

    part_short : Goes InNew []
    part_short = record { more = mark t.Point ∷ some_word ∷ []; tree = values.Key (codes "x"); spells = λ z. grammar.key_part x_is p_is k_is refl refl refl }

    no_part_at : (o : Option (List ℕ)) → only ns ≡ o → (c : ℕ) (s : Tokens) → Fits InNew (read.no_part_as o) c s (read.no_part_as o c s)
    no_part_at (Some n) is c s = pure_at {X = InNew} (λ z. grammar.whole_key x_is p_is k_is is) c s
    no_part_at None is c s = refuse_at {X = InNew} tt part_short c s

    part_token : (q : Placed) (o : Option (Unit {0})) → the t.Point q ≡ o → (c : ℕ) (s : Tokens) → Fits InNew (read.key_part_as ns o) c (q ∷ s) (read.key_part_as ns o c (q ∷ s))
    unfolding read.key_part
    part_token q (Some v) is c s = skip_at InNew read.key_part q (name_keeps _ (λ y n y_is. pure_keeps (λ z. grammar.key_part x_is p_is k_is refl (taken_is t.Point q v is) y_is))) c s
    part_token q None is c s = no_part_at (only ns) refl c _

    in_new_keeps : Keeps InNew (choose (read.key_part_by ns))
    in_new_keeps = choose_keeps InNew (read.key_part_by ns) part_short (λ c. no_part_at (only ns) refl c []) (λ q. part_token q (the t.Point q) refl)

  key_value_keeps : (form : KeyForm) (k : Placed) → Is word_key k → Keeps (λ m b r. SpellsValue g form (x ∷ p ∷ k ∷ m) b r) (read.key_value form)
  unfolding read.key_value
  key_value_keeps (forms.Alone n) k k_is = pure_keeps (λ z. grammar.whole_key x_is p_is k_is refl)
  key_value_keeps (forms.New ns) k k_is = in_new_keeps ns k k_is

  module _ (form : KeyForm) where
    -- behind the parenthesis of a fold
    module _ (f o y a z q u c : Placed) (v w n : List ℕ) (o_is : Is t.Open o) (y_is : variable y ≡ Some v) (a_is : Is t.Arrow a) (z_is : variable z ≡ Some w) (q_is : Is t.Point q)
        (u_is : name u ≡ Some n) (c_is : Is t.Close c) where
      abbrev InFold : Tokens → FoldValue → Tokens → Type 0
      InFold m b r = SpellsValue g form (x ∷ p ∷ f ∷ o ∷ y ∷ a ∷ z ∷ q ∷ u ∷ c ∷ m) b r

      module _ (f_is : fold_of f ≡ Some kinds.Sum) where
        over_short : Goes InFold []
        over_short = record { more = []; tree = values.Fold kinds.Sum v n; spells = λ r. grammar.fold x_is p_is f_is o_is y_is a_is z_is q_is u_is c_is }

        divided_keeps : (d : Placed) → Is t.Slash d → Keeps (λ m b r. InFold (d ∷ m) b r) (read.divided g v n)
        unfolding read.divided
        divided_keeps d d_is = bind_keeps (λ by. pure (values.Quotient v n by.0 by.1)) (sum_keeps g)
            (λ by. pure_keeps (λ r s e. grammar.quotient x_is p_is f_is o_is y_is a_is z_is q_is u_is c_is d_is e))

        over_token : (d : Placed) (k : Option (Unit {0})) → the t.Slash d ≡ k → (m : ℕ) (s : Tokens) → Fits InFold (read.over_as g v n k) m (d ∷ s) (read.over_as g v n k m (d ∷ s))
        over_token d (Some k) is m s = skip_at InFold (read.divided g v n) d (divided_keeps d (taken_is t.Slash d k is)) m s
        over_token d None is m s = pure_at {X = InFold} (λ r. grammar.fold x_is p_is f_is o_is y_is a_is z_is q_is u_is c_is) m _

        over_keeps : Keeps InFold (choose (read.over_by g v n))
        over_keeps = choose_keeps InFold (read.over_by g v n) over_short (λ m. pure_at {X = InFold} (λ r. grammar.fold x_is p_is f_is o_is y_is a_is z_is q_is u_is c_is) m [])
            (λ d. over_token d (the t.Slash d) refl)

      folded_keeps : (kind : FoldKind) → fold_of f ≡ Some kind → Keeps InFold (read.folded g kind v n)
      unfolding read.folded
      folded_keeps kinds.Sum f_is = over_keeps f_is
      folded_keeps kinds.Min f_is = pure_keeps (λ r. grammar.fold x_is p_is f_is o_is y_is a_is z_is q_is u_is c_is)
      folded_keeps kinds.Max f_is = pure_keeps (λ r. grammar.fold x_is p_is f_is o_is y_is a_is z_is q_is u_is c_is)

    fold_keeps : (f : Placed) (kind : FoldKind) → fold_of f ≡ Some kind → Keeps (λ m b r. SpellsValue g form (x ∷ p ∷ f ∷ m) b r) (read.fold g kind)
    unfolding read.fold
    fold_keeps f kind f_is = the_keeps t.Open refl (λ o o_is. variable_keeps _ (λ y v y_is. the_keeps t.Arrow refl (λ a a_is. variable_keeps _ (λ z w z_is. the_keeps t.Point refl (λ q q_is.
        name_keeps _ (λ u n u_is. the_keeps t.Close refl (λ c c_is. folded_keeps f o y a z q u c v w n o_is y_is a_is z_is q_is u_is c_is kind f_is)))))))

    abbrev InGroup : Tokens → FoldValue → Tokens → Type 0
    InGroup m b r = SpellsValue g form (x ∷ p ∷ m) b r

    group_value_short : Goes InGroup []
    group_value_short = record {
      more = mark (t.Word (codes "Sum")) ∷ mark t.Open ∷ some_word ∷ mark t.Arrow ∷ some_word ∷ mark t.Point ∷ some_word ∷ mark t.Close ∷ [];
      tree = values.Fold kinds.Sum (codes "x") (codes "x");
      spells = λ z. grammar.fold x_is p_is refl refl refl refl refl refl refl refl;
    }

    fold_token : (f : Placed) (o : Option FoldKind) → fold_of f ≡ o → (c : ℕ) (s : Tokens) → Fits InGroup (read.fold_value_as g o) c (f ∷ s) (read.fold_value_as g o c (f ∷ s))
    fold_token f (Some kind) is c s = skip_at InGroup (read.fold g kind) f (fold_keeps f kind is) c s
    fold_token f None is c s = refuse_at {X = InGroup} tt group_value_short c _

    value_token : (k : Placed) (o : Option (Unit {0})) → the word_key k ≡ o → (c : ℕ) (s : Tokens) → Fits InGroup (read.value_as g form k o) c (k ∷ s) (read.value_as g form k o c (k ∷ s))
    value_token k (Some v) is c s = skip_at InGroup (read.key_value form) k (key_value_keeps form k (taken_is word_key k v is)) c s
    value_token k None is c s = fold_token k (fold_of k) refl c s

    group_value_keeps : Keeps InGroup (read.group_value g form)
    unfolding read.group_value
    group_value_keeps = choose_keeps InGroup (read.value_by g form) group_value_short (λ c. refuse_at {X = InGroup} tt group_value_short c []) (λ k. value_token k (the word_key k) refl)

-- ---- whether the members end

-- a brace that is passed, or nothing
data Brace : Tokens → Bool → Tokens → Type 0 where
  closed : {r : Tokens} {q : Placed} → Is t.CloseBrace q → Brace (q ∷ r) true r
  open_still : {r : Tokens} → Brace r false r

brace_short : Goes Brace []
brace_short = record { more = []; tree = false; spells = λ z. open_still }

brace_token : (x : Placed) (o : Option (Unit {0})) → the t.CloseBrace x ≡ o → (c : ℕ) (s : Tokens) → Fits Brace (read.brace_as o) c (x ∷ s) (read.brace_as o c (x ∷ s))
brace_token x (Some v) is c s = skip_at Brace (pure true) x (pure_keeps (λ z. closed (taken_is t.CloseBrace x v is))) c s
brace_token x None is c s = pure_at {X = Brace} (λ z. open_still) c _

brace_keeps : Keeps Brace read.brace
unfolding read.brace
brace_keeps = choose_keeps Brace read.brace_by brace_short (λ c. pure_at {X = Brace} (λ z. open_still) c []) (λ x. brace_token x (the t.CloseBrace x) refl)

-- what follows a member
data Behinds : Tokens → Bool → Tokens → Type 0 where
  last : {r : Tokens} {q : Placed} → Is t.CloseBrace q → Behinds (q ∷ r) true r
  last_comma : {r : Tokens} {k q : Placed} → Is t.Comma k → Is t.CloseBrace q → Behinds (k ∷ q ∷ r) true r
  more : {r : Tokens} {k : Placed} → Is t.Comma k → Behinds (k ∷ r) false r

closed_last : {s r : Tokens} → Brace s true r → Behinds s true r
closed_last (closed is) = last is

open_more : {s m r : Tokens} {k : Placed} {b : Bool} → Is t.Comma k → Brace s false (k ∷ m) → Brace m b r → Behinds s b r
open_more k_is open_still (closed is) = last_comma k_is is
open_more k_is open_still open_still = more k_is

unless_closed_keeps : (b : Bool) → Keeps (Then Brace Behinds b) (read.unless_closed b)
unless_closed_keeps true = pure_keeps (λ z s d. closed_last d)
unless_closed_keeps false = the_keeps t.Comma refl (λ k k_is. map_keeps (λ m b r d s e. open_more k_is e d) brace_keeps)

ends_keep : Keeps Behinds read.ends
unfolding read.ends
ends_keep = bind_keeps read.unless_closed brace_keeps unless_closed_keeps

-- ---- members

module _ (g : List ℕ) (form : KeyForm) where
  value_keeps : Keeps (SpellsValue g form) (read.value g form)
  unfolding read.value
  value_keeps = the_keeps (t.Word g) (word_same g) (λ x x_is. the_keeps t.Point refl (λ p p_is. group_value_keeps g x p x_is p_is form))

  named_keeps : (x : Placed) (n : List ℕ) (e : Placed) → name x ≡ Some n → Is t.Assign e → Keeps (λ m b r. SpellsFold g form (x ∷ e ∷ m) b r) (read.named g form x.at n)
  unfolding read.named
  named_keeps x n e x_is e_is = bind_keeps (λ a. pure (placed_fold x.at n a)) value_keeps (λ a. pure_keeps (λ z s d. grammar.named x_is e_is d))

  bare_keeps : (x : Placed) → Is (t.Word g) x → in_new form ≡ true → Keeps (λ m b r. SpellsFold g form (x ∷ m) b r) (read.bare x.at)
  unfolding read.bare
  bare_keeps x x_is new = the_keeps t.Point refl (λ p p_is. the_keeps word_key refl (λ k k_is. the_keeps t.Point refl (λ q q_is. name_keeps _ (λ y n y_is.
      pure_keeps (λ z. grammar.bare x_is new p_is k_is q_is y_is)))))

  module _ (x : Placed) (n : List ℕ) (x_is : name x ≡ Some n) where
    abbrev BehindName : Tokens → PlacedFold → Tokens → Type 0
    BehindName m b r = SpellsFold g form (x ∷ m) b r

    behind_short : Goes BehindName []
    behind_short = skip_short BehindName (read.named g form x.at n) (mark t.Assign) (named_keeps x n (mark t.Assign) x_is refl)

    bare_where_at : Is (t.Word g) x → (b : Bool) → in_new form ≡ b → (c : ℕ) (s : Tokens) → Fits BehindName (read.bare_where x.at b) c s (read.bare_where x.at b c s)
    bare_where_at g_is true new c s = (bare_keeps x g_is new).fits c s
    bare_where_at g_is false new c s = refuse_at {X = BehindName} tt behind_short c s

    bare_at : (o : Option (Unit {0})) → the (t.Word g) x ≡ o → (c : ℕ) (s : Tokens) → Fits BehindName (read.bare_as g form x.at o) c s (read.bare_as g form x.at o c s)
    bare_at (Some v) is c s = bare_where_at (taken_is (t.Word g) x v is) (in_new form) refl c s
    bare_at None is c s = refuse_at {X = BehindName} tt behind_short c s

    named_token : (y : Placed) (o : Option (Unit {0})) → the t.Assign y ≡ o → (c : ℕ) (s : Tokens) → Fits BehindName (read.behind_as g form x n o) c (y ∷ s) (read.behind_as g form x n o c (y ∷ s))
    named_token y (Some v) is c s = skip_at BehindName (read.named g form x.at n) y (named_keeps x n y x_is (taken_is t.Assign y v is)) c s
    named_token y None is c s = bare_at (the (t.Word g) x) refl c _

    behind_keeps : Keeps BehindName (read.behind g form x n)
    unfolding read.behind
    behind_keeps = choose_keeps BehindName (read.behind_by g form x n) behind_short (λ c. bare_at (the (t.Word g) x) refl c []) (λ y. named_token y (the t.Assign y) refl)

  -- from any name on, whatever member it begins
  name_goes : (x : Placed) (n : List ℕ) → name x ≡ Some n → Goes (SpellsFold g form) (x ∷ [])
  name_goes x n is = let short = behind_short x n is in record { more = short.more; tree = short.tree; spells = short.spells }

  member_short : Goes (SpellsFold g form) []
  member_short = skip_short (SpellsFold g form) (read.behind g form some_word (codes "x")) some_word (behind_keeps some_word (codes "x") refl)

  member_token : (x : Placed) (o : Option (List ℕ)) → name x ≡ o → (c : ℕ) (s : Tokens) → Fits (SpellsFold g form) (read.member_as g form x o) c (x ∷ s) (read.member_as g form x o c (x ∷ s))
  member_token x (Some n) is c s = skip_at (SpellsFold g form) (read.behind g form x n) x (behind_keeps x n is) c s
  member_token x None is c s = refuse_at {X = SpellsFold g form} tt member_short c _

  member_keeps : Keeps (SpellsFold g form) (read.member g form)
  unfolding read.member
  member_keeps = choose_keeps (SpellsFold g form) (read.member_by g form) member_short (λ c. refuse_at {X = SpellsFold g form} tt member_short c []) (λ x. member_token x (name x) refl)

  -- ---- the list

  -- behind those found, up to the brace
  abbrev pub Rest : List PlacedFold → Tokens → List PlacedFold → Tokens → Type 0
  Rest found s all r = (more : List PlacedFold) × SpellsFolds g form s more r × (all ≡ found ++ more)

  -- a member that goes on from these tokens can be the last
  last_goes : (found : List PlacedFold) (w : Tokens) → Goes (SpellsFold g form) w → Goes (Rest found) w
  last_goes found w one = record {
    more = one.more ++ mark t.CloseBrace ∷ [];
    tree = found ++ one.tree ∷ [];
    spells = λ z. (one.tree ∷ [], subst (λ m. SpellsFolds g form (w ++ m) (one.tree ∷ []) z) (sym (append_assoc one.more (mark t.CloseBrace ∷ []) z)) (grammar.last (one.spells (mark t.CloseBrace ∷ z)) refl), refl);
  }

  no_room_at : (found : List PlacedFold) (x : Placed) (o : Option (List ℕ)) → name x ≡ o → (c : ℕ) (s : Tokens) → Fits (Rest found) (read.no_room_as o) c (x ∷ s) (read.no_room_as o c (x ∷ s))
  no_room_at found x (Some n) is c s = too_large_at {X = Rest found} tt (last_goes found (x ∷ []) (name_goes x n is)) c s
  no_room_at found x None is c s = refuse_at {X = Rest found} tt (last_goes found [] member_short) c _

  no_room_keeps : (found : List PlacedFold) → Keeps (Rest found) read.no_room
  unfolding read.no_room
  no_room_keeps found = choose_keeps (Rest found) read.no_room_by (last_goes found [] member_short) (λ c. refuse_at {X = Rest found} tt (last_goes found [] member_short) c []) (λ x. no_room_at found x (name x) refl)

  module _ (found : List PlacedFold) (a : PlacedFold) where
    one_last : {s m r : Tokens} → SpellsFold g form s a m → Behinds m true r → Rest found s (found ++ a ∷ []) r
    one_last d (last is) = (a ∷ [], grammar.last d is, refl)
    one_last d (last_comma is also) = (a ∷ [], grammar.last_comma d is also, refl)

    one_more : {s m n r : Tokens} {all : List PlacedFold} → SpellsFold g form s a m → Behinds m false n → Rest (found ++ a ∷ []) n all r → Rest found s all r
    one_more d (more is) h = (a ∷ h.0, grammar.more d is h.1, h.2 ∙ append_assoc found (a ∷ []) h.0)

    behind_member : (next : Reads (List PlacedFold)) → Keeps (Rest (found ++ a ∷ [])) next → (b : Bool) → Keeps (Then Behinds (Then (SpellsFold g form) (Rest found) a) b) (cond b (pure (found ++ a ∷ [])) next)
    behind_member next goes_on true = pure_keeps (λ z s e s1 d. one_last d e)
    behind_member next goes_on false = map_keeps (λ m all r h s e s1 d. one_more d e h) goes_on

  folds_keep : (room : ℕ) (found : List PlacedFold) → Keeps (Rest found) (read.folds g form room found)
  unfolding read.folds
  folds_keep zero found = no_room_keeps found
  folds_keep (suc room) found = bind_keeps _ member_keeps (λ a. bind_keeps _ ends_keep (behind_member found a (read.folds g form room (found ++ a ∷ [])) (folds_keep room (found ++ a ∷ []))))

-- ---- the whole text

pub reduce_keeps : Keeps SpellsReduce read.reduce_text
unfolding read.reduce_text
reduce_keeps = bind_keeps _ source_keeps (λ v. bind_keeps _ key_keeps (λ key. bind_keeps _ group_keeps (λ g. bind_keeps _ (folds_keep g key.form most_members []) (λ all.
    the_keeps t.End refl (λ e e_is. pure_keeps (λ z l h s2 d2 s1 d1 s0 d0.
    grammar.reduce d0 d1 d2 (subst (λ all. SpellsFolds g key.form l all (e ∷ z)) (sym h.2) h.1) e_is))))))
