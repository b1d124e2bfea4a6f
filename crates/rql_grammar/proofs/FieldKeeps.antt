-- The reading of fields and values keeps to the grammar.
use Rattle.std.proofs.Common.{◌≡◌, ℕ, List, [], ◌∷◌, length, ◌<◌, Option, Some, None, refl, sym, ap, subst, codes, false, arith}
use Rattle.exact_parse.specs.Steps.{◌>>=◌, pure, refuse, take, skip, within}
use Rattle.exact_parse.specs.Keeps.{Goes, Fits, Keeps}
use Rattle.exact_parse.proofs.Keeping.{pure_keeps, refuse_at, choose_keeps, skip_at, count_at, within_at, bind_keeps}
use Rattle.spec_data.specs.Members.{Path}
use Rattle.spec_data.specs.Scalars.{Scalar, nothing}
use Rattle.spec_query.specs.Query.{Field, At, Count, Sum, Const, Parameter}
use Rattle.rql_tokens.specs.declared.key_words.KeyWord.TheVariants as k
use Rattle.rql_tokens.specs.declared.key_words.Function.{Function}
use Rattle.rql_tokens.specs.declared.key_words.Function.TheVariants as f
use Rattle.rql_tokens.specs.declared.token.Token.{Token}
use Rattle.rql_tokens.specs.declared.token.Token.TheVariants as t
use Rattle.rql_tokens.specs.declared.token.Placed.{Placed}
use Rattle.rql_tokens.specs.Words.{Tokens, Is, the, name, function, part}
use Rattle.rql_grammar.specs.Reads.{Reads, unexpected, large}
use Rattle.rql_grammar.specs.Fields.{SpellsPart, one_part, one, SpellsPath, folds, SpellsField, at_path, count, sum, constant, SpellsValue, written, parameter}
use Rattle.rql_grammar.specs.Limits.{most_fields, is_part}
use Rattle.rql_grammar.specs.FieldReading as read
use Rattle.rql_grammar.proofs.Taking.{at_start, the_keeps, name_keeps}
use Rattle.rql_grammar.proofs.Heads.{head_fits}
use Rattle.rql_grammar.proofs.Chains.{list_keeps, list_passes}

-- ---- each takes a token

part_passes : (s r : Tokens) (n : List ℕ) → SpellsPart s n r → length r < length s
part_passes s r n (one_part is) = omega arith

path_passes : (s r : Tokens) (path : Path) → SpellsPath s path r → length r < length s
path_passes s r path x = list_passes part_passes x

pub field_passes : (s r : Tokens) (a : Field) → SpellsField s a r → length r < length s
field_passes s r a (at_path {s = m} {x = x} {path = path} free d) = path_passes (x ∷ m) r path d
field_passes s r a (count call is also) = omega arith
field_passes s r a (sum {s = m} {q = q} {path = path} call is d also) = let passed = path_passes m (q ∷ r) path d in omega (arith, passed)

-- ---- paths

abbrev pub x_token : Placed
x_token = at_start (t.Name (codes "x"))

part_short : Goes SpellsPart []
part_short = record { more = x_token ∷ []; tree = codes "x"; spells = λ z. one_part refl }

pub part_keeps : Keeps SpellsPart read.one_part
unfolding read.one_part
part_keeps = choose_keeps SpellsPart (λ h. read.part_by (read.part_at h)) part_short (λ c. refuse_at {X = SpellsPart} unexpected part_short c []) (λ x c s. by x (part x) refl c s)
  where
    by : (x : Placed) (o : Option (List ℕ)) → part x ≡ o → (c : ℕ) (s : Tokens) → Fits SpellsPart (read.part_by o) c (x ∷ s) (read.part_by o c (x ∷ s))
    by x (Some n) is c s = within_at SpellsPart (pure n) x (pure_keeps (λ z. one_part is)) unexpected (is_part n) c s
    by x None is c s = refuse_at {X = SpellsPart} unexpected part_short c _

pub path_keeps : Keeps SpellsPath read.path
unfolding read.path
path_keeps = list_keeps SpellsPart t.Point read.one_part part_keeps

-- ---- what counts

counting_keeps : {A : Type 0} (X : Tokens → A → Tokens → Type 0) (p : Reads A) → Keeps X p → ((x : Placed) (n : List ℕ) → part x ≡ Some n → Goes X (x ∷ [])) → Keeps X (read.counting p)
unfolding read.counting
counting_keeps {A = A} X p keeps goes = choose_keeps X (λ h. read.counted_by p (read.part_at h)) keeps.short (λ c. refuse_at {X = X} unexpected keeps.short c []) (λ x c s. by x (part x) refl c s)
  where
    by : (x : Placed) (o : Option (List ℕ)) → part x ≡ o → (c : ℕ) (s : Tokens) → Fits X (read.counted_by p o) c (x ∷ s) (read.counted_by p o c (x ∷ s))
    by x (Some n) is c s = count_at X x p (goes x n is) (λ c s. keeps.fits c (x ∷ s)) large most_fields c s
    by x None is c s = refuse_at {X = X} unexpected keeps.short c _

path_goes : (x : Placed) (n : List ℕ) → part x ≡ Some n → Goes SpellsPath (x ∷ [])
path_goes x n is = record { more = []; tree = n ∷ []; spells = λ z. one (one_part is) }

pub counted_path_keeps : Keeps SpellsPath read.counted_path
unfolding read.counted_path
counted_path_keeps = counting_keeps SpellsPath read.path path_keeps path_goes

-- ---- fields

field_short : Goes SpellsField []
field_short = record { more = x_token ∷ []; tree = At (codes "x" ∷ []); spells = λ z. at_path {x = x_token} refl (one (one_part refl)) }

count_keeps : (x : Placed) → function x ≡ Some f.Count → Keeps (λ m b r. SpellsField (x ∷ m) b r) read.count_call
count_keeps x call = the_keeps t.Open refl (λ p is. the_keeps t.Close refl (λ q also. pure_keeps (λ z. count call is also)))

sum_keeps : (x : Placed) → function x ≡ Some f.Sum → Keeps (λ m b r. SpellsField (x ∷ m) b r) read.sum_call
sum_keeps x call = the_keeps t.Open refl (λ p is. bind_keeps (λ path. take unexpected (the t.Close) >>= λ _. pure (Sum path)) path_keeps
    (λ path. the_keeps t.Close refl (λ q also. pure_keeps (λ z s d. sum call is d also))))

-- a path, whatever its first token calls
abbrev AtPath : Tokens → Field → Tokens → Type 0
AtPath s a r = (path : Path) × SpellsPath s path r × (a ≡ At path)

at_path_keeps : Keeps AtPath (read.path >>= λ path. pure (At path))
at_path_keeps = bind_keeps (λ path. pure (At path)) path_keeps (λ path. pure_keeps (λ z s d. (path, d, refl)))

lift_path : (x : Placed) → folds (function x) ≡ false → (s r : Tokens) (a : Field) → AtPath (x ∷ s) a r → SpellsField (x ∷ s) a r
lift_path x free s r a h = subst (λ a. SpellsField (x ∷ s) a r) (sym h.2) (at_path free h.1)

plain_fits : (x : Placed) → folds (function x) ≡ false → (c : ℕ) (s : Tokens) →
    Fits SpellsField (read.path >>= λ path. pure (At path)) c (x ∷ s) ((read.path >>= λ path. pure (At path)) c (x ∷ s))
plain_fits x free c s = head_fits AtPath SpellsField (read.path >>= λ path. pure (At path)) x field_short (lift_path x free)
    (λ s a d. let less = field_passes (x ∷ s) (x ∷ s) a d in omega (arith, less)) c s ((read.path >>= λ path. pure (At path)) c (x ∷ s)) (at_path_keeps.fits c (x ∷ s))

inside_keeps : Keeps SpellsField read.inside
unfolding read.inside
inside_keeps = choose_keeps SpellsField read.inside_by field_short (λ c. refuse_at {X = SpellsField} unexpected field_short c []) (λ x c s. by x (function x) refl c s)
  where
    by : (x : Placed) (g : Option Function) → function x ≡ g → (c : ℕ) (s : Tokens) → Fits SpellsField (read.field_by g) c (x ∷ s) (read.field_by g c (x ∷ s))
    by x (Some f.Count) call c s = skip_at SpellsField read.count_call x (count_keeps x call) c s
    by x (Some f.Sum) call c s = skip_at SpellsField read.sum_call x (sum_keeps x call) c s
    by x (Some f.StartsWith) call c s = plain_fits x (ap folds call) c s
    by x (Some f.Exists) call c s = plain_fits x (ap folds call) c s
    by x None call c s = plain_fits x (ap folds call) c s

field_goes : (x : Placed) (n : List ℕ) → part x ≡ Some n → Goes SpellsField (x ∷ [])
field_goes x n is = by (function x) refl
  where
    by : (g : Option Function) → function x ≡ g → Goes SpellsField (x ∷ [])
    by (Some f.Count) call = record { more = at_start t.Open ∷ at_start t.Close ∷ []; tree = Count; spells = λ z. count call refl refl }
    by (Some f.Sum) call = record { more = at_start t.Open ∷ x_token ∷ at_start t.Close ∷ []; tree = Sum (codes "x" ∷ []); spells = λ z. sum call refl (one (one_part refl)) refl }
    by (Some f.StartsWith) call = record { more = []; tree = At (n ∷ []); spells = λ z. at_path (ap folds call) (one (one_part is)) }
    by (Some f.Exists) call = record { more = []; tree = At (n ∷ []); spells = λ z. at_path (ap folds call) (one (one_part is)) }
    by None call = record { more = []; tree = At (n ∷ []); spells = λ z. at_path (ap folds call) (one (one_part is)) }

pub field_keeps : Keeps SpellsField read.field
unfolding read.field
field_keeps = counting_keeps SpellsField read.inside inside_keeps field_goes

-- ---- values

value_short : Goes SpellsValue []
value_short = record { more = at_start (t.Key k.Null) ∷ []; tree = Const nothing; spells = λ z. written {x = at_start (t.Key k.Null)} refl }

parameter_keeps : Keeps SpellsValue read.one_parameter
parameter_keeps = the_keeps t.Dollar refl (λ d is. name_keeps (λ n. pure (Parameter n)) (λ x n called. pure_keeps (λ z. parameter is called)))

pub value_keeps : Keeps SpellsValue read.value
unfolding read.value
value_keeps = choose_keeps SpellsValue (λ h. read.value_by (read.constant_at h)) value_short (λ c. parameter_keeps.fits c []) (λ x c s. by x (constant x) refl c s)
  where
    by : (x : Placed) (v : Option Scalar) → constant x ≡ v → (c : ℕ) (s : Tokens) → Fits SpellsValue (read.value_by v) c (x ∷ s) (read.value_by v c (x ∷ s))
    by x (Some v) is c s = skip_at SpellsValue (pure (Const v)) x (pure_keeps (λ z. written is)) c s
    by x None is c s = parameter_keeps.fits c (x ∷ s)
