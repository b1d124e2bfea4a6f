-- What is spelled as a field or a value is read, unless it is past a limit, and then refused there.
use Rattle.std.proofs.Common.{◌≡◌, ℕ, ◌+◌, Bool, true, false, cond, nat_lt, List, [], ◌∷◌, Option, Some, None, refl, sym, ◌∙◌, ap, subst, inl, inr, ◌⊎◌}
use Rattle.exact_parse.specs.Steps.{head, Read, and_then, ◌>>=◌, pure, skip, take, within}
use Rattle.exact_parse.specs.Limits.{Fine, Over, and_fine, counts}
use Rattle.exact_parse.specs.Exact.{Meets}
use Rattle.exact_parse.proofs.Meeting.{after_meets}
use Rattle.spec_data.specs.Members.{Path}
use Rattle.spec_query.specs.Query.{Field, At, Count, Sum, Operand, Parameter}
use Rattle.rql_tokens.specs.declared.key_words.KeyWord.{KeyWord}
use Rattle.rql_tokens.specs.declared.key_words.Function.{Function}
use Rattle.rql_tokens.specs.declared.key_words.Function.TheVariants as f
use Rattle.rql_tokens.specs.declared.token.Token.{Token}
use Rattle.rql_tokens.specs.declared.token.Token.TheVariants as t
use Rattle.rql_tokens.specs.declared.token.Placed.{Placed}
use Rattle.rql_tokens.specs.Words.{Tokens, Is, next_is, same_token, the, name, function_as, function, part_as, part}
use Rattle.rql_tokens.proofs.WordLemmas.{test_at, part_is}
use Rattle.rql_grammar.specs.Reads.{Reads, unexpected, large}
use Rattle.rql_grammar.specs.Fields.{SpellsList, SpellsPart, one_part, one, more, SpellsPath, folds, SpellsField, at_path, count, sum, constant_as, SpellsValue, written, parameter}
use Rattle.rql_grammar.specs.Limits.{Judged, most_fields, list_verdict, is_part, part_verdict, path_verdict, counted_path_verdict, inside_verdict, field_verdict}
use Rattle.rql_grammar.specs.FieldReading as read
use Rattle.rql_grammar.proofs.Taking.{the_reads, value_reads}
use Rattle.rql_grammar.proofs.Chains.{list_meets}
use Rattle.rql_grammar.proofs.FieldKeeps.{part_keeps, value_keeps}

-- ---- what begins with a part

pub data PartAt : Tokens → Type 0 where
  part_at : {x : Placed} {s : Tokens} {n : List ℕ} → part x ≡ Some n → PartAt (x ∷ s)

call_by : (d : Bool) (u : Token) (g : Function) → cond d (function_as u) None ≡ Some g → (n : List ℕ) × (part_as u ≡ Some n)
call_by false u g e = cc
call_by true (t.Name n) g e = (n, refl)
call_by true _ g e = cc

-- a call is a name
pub call_part : (x : Placed) (s : Tokens) (g : Function) → function x ≡ Some g → PartAt (x ∷ s)
call_part x s g e = let is = call_by x.called x.token g e in part_at is.1

path_part : {s r : Tokens} {path : Path} → SpellsPath s path r → PartAt s
path_part (one (one_part is)) = part_at is
path_part (more x is y) = path_part x

pub field_part : {s r : Tokens} {a : Field} → SpellsField s a r → PartAt s
field_part (at_path free x) = path_part x
field_part (count {r = r} {x = x} {p = p} {q = q} call is also) = call_part x (p ∷ q ∷ r) f.Count call
field_part (sum {s = s} {x = x} {p = p} call is d also) = call_part x (p ∷ s) f.Sum call

-- a part is no mark or key word
pub no_token : (u : Token) → ((n : List ℕ) → same_token u (t.Name n) ≡ false) → ((n : List ℕ) → same_token u (t.Quoted n) ≡ false) → (s : Tokens) → PartAt s → next_is u (head s) ≡ false
no_token u names texts s (part_at {x = x} {n = n} is) = by (part_is x n is)
  where
    by : Is (t.Name n) x ⊎ Is (t.Quoted n) x → same_token u x.token ≡ false
    by (inl e) = test_at u (t.Name n) false x (names n) e
    by (inr e) = test_at u (t.Quoted n) false x (texts n) e

pub no_key : (key : KeyWord) (s : Tokens) → PartAt s → next_is (t.Key key) (head s) ≡ false
no_key key s x = no_token (t.Key key) (λ n. refl) (λ n. refl) s x

-- ---- paths

part_meets : (s r : Tokens) (n : List ℕ) (x : SpellsPart s n r) → Unit {0} → (c : ℕ) → Meets (part_verdict s n r x c) n r (read.one_part c s)
unfolding read.one_part
part_meets s r n (one_part {x = x} is) end c = subst (λ o. Meets (cond (is_part n) (Fine c) (Over unexpected (x ∷ r))) n r (read.part_by o c (x ∷ r))) (sym is) (by (is_part n))
  where
    by : (d : Bool) → Meets (cond d (Fine c) (Over unexpected (x ∷ r))) n r (within unexpected d (skip >>= λ _. pure n) c (x ∷ r))
    by true = refl
    by false = refl

pub path_meets : {s r : Tokens} {path : Path} (x : SpellsPath s path r) → next_is t.Point (head r) ≡ false → (c : ℕ) → Meets (path_verdict s path r x c) path r (read.path c s)
unfolding read.path
path_meets x e c = list_meets SpellsPart t.Point read.one_part part_keeps part_verdict (λ r. Unit {0}) refl (λ p m is. tt) part_meets x tt e c

-- ---- what counts

counting_meets : {A : Type 0} (s : Tokens) → PartAt s → (p : Reads A) (w : ℕ → Judged) (a : A) (r : Tokens) → ((c : ℕ) → Meets (w c) a r (p c s)) → (c : ℕ) →
    Meets (counts large most_fields c s w) a r (read.counting p c s)
unfolding read.counting
counting_meets s (part_at {x = x} {s = m} is) p w a r y c = subst (λ o. Meets (counts large most_fields c (x ∷ m) w) a r (read.counted_by p o c (x ∷ m))) (sym is) (by (nat_lt c most_fields))
  where
    by : (d : Bool) → Meets (cond d (w (c + 1)) (Over large (x ∷ m))) a r (within large d p (c + 1) (x ∷ m))
    by true = y (c + 1)
    by false = refl

pub counted_path_meets : (s r : Tokens) (path : Path) (x : SpellsPath s path r) → next_is t.Point (head r) ≡ false → (c : ℕ) →
    Meets (counted_path_verdict s path r x c) path r (read.counted_path c s)
unfolding read.counted_path
counted_path_meets s r path x e c = counting_meets s (path_part x) read.path (path_verdict s path r x) path r (λ c. path_meets x e c) c

-- ---- fields

plain_field : (g : Option Function) → folds g ≡ false → read.field_by g ≡ (read.path >>= λ path. pure (At path))
plain_field (Some f.Count) e = cc
plain_field (Some f.Sum) e = cc
plain_field (Some f.StartsWith) e = refl
plain_field (Some f.Exists) e = refl
plain_field None e = refl

inside_meets : (s r : Tokens) (a : Field) (x : SpellsField s a r) → next_is t.Point (head r) ≡ false → (c : ℕ) → Meets (inside_verdict s a r x c) a r (read.inside c s)
unfolding read.inside
inside_meets s r a (at_path {s = m} {x = x} {path = path} free d) e c =
    subst (λ p. Meets (path_verdict (x ∷ m) path r d c) (At path) r (p c (x ∷ m))) (sym (plain_field (function x) free))
    (after_meets (path_verdict (x ∷ m) path r d c) path r (read.path c (x ∷ m)) (λ path. pure (At path)) (At path) r (path_meets d e c) (λ n. refl))
inside_meets s r a (count {x = x} {p = p} {q = q} call is also) e c =
    ap (λ g. read.field_by g c (x ∷ p ∷ q ∷ r)) call
    ∙ the_reads t.Open p (take unexpected (the t.Close) >>= λ _. pure Count) refl is c (q ∷ r) ∙ the_reads t.Close q (pure Count) refl also c r
inside_meets s r a (sum {s = m} {x = x} {p = p} {q = q} {path = path} call is d also) e c =
    subst (Meets (path_verdict m path (q ∷ r) d c) (Sum path) r)
    (sym (ap (λ g. read.field_by g c (x ∷ p ∷ m)) call ∙ the_reads t.Open p (read.path >>= λ path. take unexpected (the t.Close) >>= λ _. pure (Sum path)) refl is c m))
    (after_meets (path_verdict m path (q ∷ r) d c) path (q ∷ r) (read.path c m) (λ path. take unexpected (the t.Close) >>= λ _. pure (Sum path)) (Sum path) r
    (path_meets d (test_at t.Point t.Close false q refl also) c) (λ n. the_reads t.Close q (pure (Sum path)) refl also n r))

pub field_meets : (s r : Tokens) (a : Field) (x : SpellsField s a r) → next_is t.Point (head r) ≡ false → (c : ℕ) → Meets (field_verdict s a r x c) a r (read.field c s)
unfolding read.field
field_meets s r a x e c = counting_meets s (field_part x) read.inside (inside_verdict s a r x) a r (λ c. inside_meets s r a x e c) c

-- ---- values

pub value_read : (s r : Tokens) (v : Operand) → SpellsValue s v r → (c : ℕ) → read.value c s ≡ Read v c r
unfolding read.value
value_read s r v (written {x = x} is) c = ap (λ o. read.value_by o c (x ∷ r)) is
value_read s r v (parameter {d = d} {x = x} {n = n} is called) c =
    ap (λ u. read.value_by (constant_as u) c (d ∷ x ∷ r)) is
    ∙ the_reads t.Dollar d (take unexpected name >>= λ n. pure (Parameter n)) refl is c (x ∷ r) ∙ value_reads name x n (λ n. pure (Parameter n)) called c r

-- values have no limit
abbrev value_verdict : (s : Tokens) (v : Operand) (r : Tokens) → SpellsValue s v r → ℕ → Judged
value_verdict s v r x c = Fine c

values_fine : {s r : Tokens} {vs : List Operand} (x : SpellsList t.Comma SpellsValue s vs r) (c : ℕ) → list_verdict value_verdict x c ≡ Fine c
values_fine (one y) c = refl
values_fine (more x is y) c = ap (λ v. and_fine v (λ c. Fine c)) (values_fine x c)

pub values_read : {s r : Tokens} {vs : List Operand} → SpellsList t.Comma SpellsValue s vs r → next_is t.Comma (head r) ≡ false → (c : ℕ) → read.list t.Comma read.value c s ≡ Read vs c r
values_read {s = s} {r = r} {vs = vs} x e c = subst (λ v. Meets v vs r (read.list t.Comma read.value c s)) (values_fine x c)
    (list_meets SpellsValue t.Comma read.value value_keeps value_verdict (λ r. Unit {0}) refl (λ p m is. tt) (λ s r v x end c. value_read s r v x c) x tt e c)
