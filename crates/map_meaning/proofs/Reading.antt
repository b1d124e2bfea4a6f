-- A map reads rows of its scope alone.
use Rattle.std.proofs.Common.{◌≡◌, ℕ, List, [], ◌∷◌, ◌++◌, Bool, true, false, not, Option, Some, None, flat_map, ◌||◌, refl, ap, sym, subst, ◌∙◌}
use Rattle.std.specs.Prelude.{if◌then◌else◌}
use Rattle.std.specs.List.{list_any}
use Rattle.std.specs.Str.{bytes_eq}
use Rattle.std.proofs.lemmas.Slice.Eq.{bytes_eq-Decides}
use Rattle.spec_data.specs.Data.{Data, null, flag, num, text, array, object}
use Rattle.spec_data.specs.Faults.{is_fit, max_id}
use Rattle.spec_data.specs.Folding.{folded}
use Rattle.spec_data.specs.Rising.{put}
use Rattle.spec_data.specs.Rows.{Row}
use Rattle.spec_data.specs.Scalars.{scalar_of}
use Rattle.index_tree.specs.declared.expression.BinaryOp.{BinaryOp}
use Rattle.index_tree.specs.declared.expression.BinaryOp.TheVariants as op
use Rattle.index_tree.specs.declared.map_query.Clause.{Clause}
use Rattle.index_tree.specs.declared.map_query.Clause.TheVariants as clause
use Rattle.index_tree.specs.declared.map_query.MapMember.{MapMember}
use Rattle.index_tree.specs.declared.map_query.MapQuery.{MapQuery}
use Rattle.index_tree.specs.Trees.{Tree, If, Binary, Unary, Dot, Load, Num, Quoted, Flag, Null, Var}
use Rattle.index_tree.specs.Asking.{Lookup, Asking, from, gives, after, goes_on, ◌>>=◌}
use Rattle.index_tree.specs.Evaluate.{Bindings, document_of, document_in, loaded, chosen, as_flag, in_turn, combined, evaluate}
use Rattle.index_tree.specs.Meaning.{Fields, where_some, bound_by, bound_after, fields_with, fields_under, entry_of, mapped, meaning}
use Rattle.index_tree.specs.Operators.{is_true, part_of, binary, unary}
use Rattle.index_tree.specs.Scope.{named_in, clause_names, all_named, others, each_once, scope_of, kept_in, within}

-- NAMES IN A SCOPE

abbrev IsIn : List ℕ → List (List ℕ) → Type 0
IsIn name names = list_any (bytes_eq name) names ≡ true

abbrev Covers : List (List ℕ) → List (List ℕ) → Type 0
Covers scope [] = Unit {0}
Covers scope (name ∷ more) = IsIn name scope × Covers scope more

covers_left : (scope names more : List (List ℕ)) → Covers scope (names ++ more) → Covers scope names
covers_left scope [] more h = tt
covers_left scope (name ∷ names) more h = (h.0, covers_left scope names more h.1)

covers_right : (scope names more : List (List ℕ)) → Covers scope (names ++ more) → Covers scope more
covers_right scope [] more h = h
covers_right scope (name ∷ names) more h = covers_right scope names more h.1

either_first : (a b : Bool) → a ≡ true → (a || b) ≡ true
either_first true b h = refl
either_first false b h = cc

either_second : (a b : Bool) → b ≡ true → (a || b) ≡ true
either_second true b h = refl
either_second false b h = h

-- one of the two, of which the first is not
second_of : (a b : Bool) → a ≡ false → (a || b) ≡ true → b ≡ true
second_of true b f h = cc
second_of false b f h = h

is_self : (name : List ℕ) → bytes_eq name name ≡ true
is_self name = (bytes_eq-Decides name name).1 refl

-- a name that is not the one that is left out stays
stays_by : (a b : Bool) (name x : List ℕ) (rest : List (List ℕ)) → bytes_eq name x ≡ a → ((a ≡ true) → b ≡ false) → (a ≡ false → IsIn name rest) →
    IsIn name (if not b then x ∷ rest else rest)
stays_by true true name x rest e apart more = absurd (true_false (apart refl))
  where
    true_false : true ≡ false → ⊥
    true_false h = cc
stays_by true false name x rest e apart more = either_first (bytes_eq name x) (list_any (bytes_eq name) rest) e
stays_by false true name x rest e apart more = more refl
stays_by false false name x rest e apart more = either_second (bytes_eq name x) (list_any (bytes_eq name) rest) (more refl)

different : (name c x : List ℕ) → bytes_eq name c ≡ false → bytes_eq name x ≡ true → bytes_eq c x ≡ false
different name c x apart same = different_by (bytes_eq c x) refl
  where
    different_by : (b : Bool) → bytes_eq c x ≡ b → bytes_eq c x ≡ false
    different_by false e = e
    different_by true e = absurd (let m = (bytes_eq-Decides name x).0 same ∙ sym ((bytes_eq-Decides c x).0 e) in let t = (bytes_eq-Decides name c).1 m in cc)

stays : (name c : List ℕ) (names : List (List ℕ)) → bytes_eq name c ≡ false → IsIn name names → IsIn name (others c names)
stays name c [] apart h = h
stays name c (x ∷ names) apart h =
    stays_by (bytes_eq name x) (bytes_eq c x) name x (others c names) refl (different name c x apart) (λ f. stays name c names apart (second_of (bytes_eq name x) (list_any (bytes_eq name) names) f h))

at_start : (name c : List ℕ) (names : List (List ℕ)) → IsIn name names → IsIn name (c ∷ others c names)
at_start name c names h = at_start_by (bytes_eq name c) refl
  where
    at_start_by : (b : Bool) → bytes_eq name c ≡ b → IsIn name (c ∷ others c names)
    at_start_by true e = either_first (bytes_eq name c) (list_any (bytes_eq name) (others c names)) e
    at_start_by false e = either_second (bytes_eq name c) (list_any (bytes_eq name) (others c names)) (stays name c names e h)

in_once : (name : List ℕ) (names : List (List ℕ)) → IsIn name names → IsIn name (each_once names)
in_once name [] h = h
in_once name (c ∷ names) h = in_once_by (bytes_eq name c) refl (λ t. in_once name names t)
  where
    in_once_by : (b : Bool) → bytes_eq name c ≡ b → (IsIn name names → IsIn name (each_once names)) → IsIn name (c ∷ others c (each_once names))
    in_once_by true e once = either_first (bytes_eq name c) (list_any (bytes_eq name) (others c (each_once names))) e
    in_once_by false e once = at_start name c (each_once names) (once (second_of (bytes_eq name c) (list_any (bytes_eq name) names) e h))

covers_by : (scope names : List (List ℕ)) → ((name : List ℕ) → IsIn name names → IsIn name scope) → Covers scope names
covers_by scope [] all = tt
covers_by scope (name ∷ names) all = (
  all name (either_first (bytes_eq name name) (list_any (bytes_eq name) names) (is_self name)),
  covers_by scope names (λ other h. all other (either_second (bytes_eq other name) (list_any (bytes_eq other) names) h)),
)

covered : (query : MapQuery) → Covers (scope_of query) (all_named query)
covered query = covers_by (scope_of query) (all_named query) (λ name h. at_start name query.collection (each_once (all_named query)) (in_once name (all_named query) h))

-- WHAT IS COMPUTED WITHOUT THE ROWS OUT OF A SCOPE IS THE SAME

abbrev IsBlind : {A : Type 0} → List (List ℕ) → (Lookup → Asking A) → Type 0
IsBlind scope c = (find : Lookup) → c (within scope find) ≡ c find

document_by : (b : Bool) (c : List ℕ) (r : Row) → document_in c (Some r) ≡ null → document_in c (if b then Some r else None) ≡ document_in c (Some r)
document_by true c r h = refl
document_by false c r h = sym h

document_kept : (scope : List (List ℕ)) (c : List ℕ) (o : Option Row) → IsIn c scope → document_in c (kept_in scope o) ≡ document_in c o
document_kept scope c None h = refl
document_kept scope c (Some r) h = kept_by (bytes_eq r.collection c) refl
  where
    kept_by : (b : Bool) → bytes_eq r.collection c ≡ b → document_in c (kept_in scope (Some r)) ≡ document_in c (Some r)
    kept_by true e = let P : List ℕ → Type 0 = λ name. IsIn name scope in
        ap (λ b. document_in c (if b then Some r else None)) (subst P (sym ((bytes_eq-Decides r.collection c).0 e)) h)
    kept_by false e = document_by (list_any (bytes_eq r.collection) scope) c r (ap (λ b. if b then document_of r.body else null) e)

from_blind : {A : Type 0} (scope : List (List ℕ)) (o : Option A) → IsBlind scope (λ find. from o)
from_blind scope o find = refl

goes_on_blind : {A B : Type 0} (scope : List (List ℕ)) (o : Option A) (k : Lookup → A → Asking B) → ((a : A) → IsBlind scope (λ find. k find a)) → IsBlind scope (λ find. goes_on o (k find))
goes_on_blind scope None k blind find = refl
goes_on_blind scope (Some a) k blind find = blind a find

then_blind : {A B : Type 0} (scope : List (List ℕ)) (c : Lookup → Asking A) (k : Lookup → A → Asking B) → IsBlind scope c → ((a : A) → IsBlind scope (λ find. k find a)) → IsBlind scope (λ find. c find >>= k find)
then_blind scope c k first more find =
    ap (λ e. e >>= k (within scope find)) (first find) ∙ ap (after (c find).loads) (goes_on_blind scope (c find).outcome k more find)

if_blind : {A : Type 0} (scope : List (List ℕ)) (b : Bool) (c d : Lookup → Asking A) → IsBlind scope c → IsBlind scope d → IsBlind scope (λ find. if b then c find else d find)
if_blind scope true c d x y find = x find
if_blind scope false c d x y find = y find

some_blind : {A B : Type 0} (scope : List (List ℕ)) (o : Option A) (k : Lookup → A → Asking (Option B)) → ((a : A) → IsBlind scope (λ find. k find a)) → IsBlind scope (λ find. where_some o (k find))
some_blind scope None k blind find = refl
some_blind scope (Some a) k blind find = blind a find

asked_blind : (scope : List (List ℕ)) (b : Bool) (c s : List ℕ) → IsIn c scope → IsBlind scope (λ find. if b then record { outcome = Some (document_in c (find s)); loads = s ∷ [] } else gives null)
asked_blind scope true c s h find = ap (λ d. record { outcome = Some d; loads = s ∷ [] }) (document_kept scope c (find s) h)
asked_blind scope false c s h find = refl

loaded_blind : (scope : List (List ℕ)) (c : List ℕ) (v : Data) → IsIn c scope → IsBlind scope (λ find. loaded find c v)
loaded_blind scope c (text s) h find = asked_blind scope (is_fit max_id s) c (folded s) h find
loaded_blind scope c null h find = refl
loaded_blind scope c (flag b) h find = refl
loaded_blind scope c (num n) h find = refl
loaded_blind scope c (array ds) h find = refl
loaded_blind scope c (object ms) h find = refl

chosen_blind : (scope : List (List ℕ)) (test value another : Lookup → Asking Data) → IsBlind scope test → IsBlind scope value → IsBlind scope another → IsBlind scope (λ find. chosen (test find) (value find) (another find))
chosen_blind scope test value another t v w =
    then_blind scope test (λ find x. if is_true x then value find else another find) t (λ x. if_blind scope (is_true x) value another v w)

flag_blind : (scope : List (List ℕ)) (c : Lookup → Asking Data) → IsBlind scope c → IsBlind scope (λ find. as_flag (c find))
flag_blind scope c blind = then_blind scope c (λ find v. gives (flag (is_true v))) blind (λ v. from_blind scope (Some (flag (is_true v))))

both_blind : (scope : List (List ℕ)) (o : BinaryOp) (left right : Lookup → Asking Data) → IsBlind scope left → IsBlind scope right → IsBlind scope (λ find. in_turn o (left find) (right find))
both_blind scope o left right l r =
    then_blind scope left (λ find v. right find >>= λ w. from (binary o v w)) l (λ v.
    then_blind scope right (λ find w. from (binary o v w)) r (λ w. from_blind scope (binary o v w)))

combined_blind : (scope : List (List ℕ)) (o : BinaryOp) (left right : Lookup → Asking Data) → IsBlind scope left → IsBlind scope right → IsBlind scope (λ find. combined o (left find) (right find))
combined_blind scope op.Or left right l r = chosen_blind scope left (λ find. gives (flag true)) (λ find. as_flag (right find)) l (from_blind scope (Some (flag true))) (flag_blind scope right r)
combined_blind scope op.And left right l r = chosen_blind scope left (λ find. as_flag (right find)) (λ find. gives (flag false)) l (flag_blind scope right r) (from_blind scope (Some (flag false)))
combined_blind scope o left right l r = both_blind scope o left right l r

evaluate_blind : (scope : List (List ℕ)) (bound : Bindings) (tree : Tree) → Covers scope (named_in tree) → IsBlind scope (λ find. evaluate find bound tree)
evaluate_blind scope bound (If test value other) h =
    let more = covers_right scope (named_in test) (named_in value ++ named_in other) h in
    chosen_blind scope (λ find. evaluate find bound test) (λ find. evaluate find bound value) (λ find. evaluate find bound other)
    (evaluate_blind scope bound test (covers_left scope (named_in test) (named_in value ++ named_in other) h))
    (evaluate_blind scope bound value (covers_left scope (named_in value) (named_in other) more))
    (evaluate_blind scope bound other (covers_right scope (named_in value) (named_in other) more))
evaluate_blind scope bound (Binary o left right) h =
    combined_blind scope o (λ find. evaluate find bound left) (λ find. evaluate find bound right)
    (evaluate_blind scope bound left (covers_left scope (named_in left) (named_in right) h)) (evaluate_blind scope bound right (covers_right scope (named_in left) (named_in right) h))
evaluate_blind scope bound (Unary o operand) h =
    then_blind scope (λ find. evaluate find bound operand) (λ find v. from (unary o v)) (evaluate_blind scope bound operand h) (λ v. from_blind scope (unary o v))
evaluate_blind scope bound (Dot holder name) h =
    then_blind scope (λ find. evaluate find bound holder) (λ find v. gives (part_of name v)) (evaluate_blind scope bound holder h) (λ v. from_blind scope (Some (part_of name v)))
evaluate_blind scope bound (Load id collection) h =
    then_blind scope (λ find. evaluate find bound id) (λ find v. loaded find collection v) (evaluate_blind scope bound id (covers_left scope (named_in id) (collection ∷ []) h))
    (λ v. loaded_blind scope collection v (covers_right scope (named_in id) (collection ∷ []) h).0)
evaluate_blind scope bound (Num n) h = λ find. refl
evaluate_blind scope bound (Quoted s) h = λ find. refl
evaluate_blind scope bound (Flag b) h = λ find. refl
evaluate_blind scope bound Null h = λ find. refl
evaluate_blind scope bound (Var name) h = λ find. refl

by_blind : (scope : List (List ℕ)) (bound : Bindings) (c : Clause) → Covers scope (clause_names c) → IsBlind scope (λ find. bound_by find bound c)
by_blind scope bound (clause.Where test) h =
    then_blind scope (λ find. evaluate find bound test) (λ find t. gives (if is_true t then Some bound else None)) (evaluate_blind scope bound test h)
    (λ t. from_blind scope (Some (if is_true t then Some bound else None)))
by_blind scope bound (clause.Let name value) h =
    then_blind scope (λ find. evaluate find bound value) (λ find v. gives (Some ((name, v) ∷ bound))) (evaluate_blind scope bound value h) (λ v. from_blind scope (Some (Some ((name, v) ∷ bound))))

bound_blind : (scope : List (List ℕ)) (clauses : List Clause) (bound : Bindings) → Covers scope (flat_map clause_names clauses) → IsBlind scope (λ find. bound_after find bound clauses)
bound_blind scope [] bound h = λ find. refl
bound_blind scope (c ∷ more) bound h =
    then_blind scope (λ find. bound_by find bound c) (λ find next. where_some next (λ names. bound_after find names more))
    (by_blind scope bound c (covers_left scope (clause_names c) (flat_map clause_names more) h))
    (λ next. some_blind scope next (λ find names. bound_after find names more) (λ names. bound_blind scope more names (covers_right scope (clause_names c) (flat_map clause_names more) h)))

abbrev member_names : List MapMember → List (List ℕ)
member_names members = flat_map (λ m. named_in m.value) members

with_blind : (scope : List (List ℕ)) (bound : Bindings) (members : List MapMember) (found : Fields) → Covers scope (member_names members) → IsBlind scope (λ find. fields_with find bound found members)
with_blind scope bound [] found h = λ find. refl
with_blind scope bound (m ∷ more) found h =
    then_blind scope (λ find. evaluate find bound m.value) (λ find v. fields_with find bound (put m.name (scalar_of v) found) more)
    (evaluate_blind scope bound m.value (covers_left scope (named_in m.value) (member_names more) h))
    (λ v. with_blind scope bound more (put m.name (scalar_of v) found) (covers_right scope (named_in m.value) (member_names more) h))

fields_blind : (scope : List (List ℕ)) (members : List MapMember) (bound : Bindings) → Covers scope (member_names members) → IsBlind scope (λ find. fields_under find members bound)
fields_blind scope members bound h =
    then_blind scope (λ find. fields_with find bound [] members) (λ find fields. gives (Some fields)) (with_blind scope bound members [] h) (λ fields. from_blind scope (Some (Some fields)))

entry_blind : (query : MapQuery) (document : Data) → IsBlind (scope_of query) (entry_of query document)
entry_blind query document =
    let scope = scope_of query in
    let clauses = flat_map clause_names query.clauses in
    then_blind scope (λ find. bound_after find ((query.var, document) ∷ []) query.clauses) (λ find bound. where_some bound (fields_under find query.members))
    (bound_blind scope query.clauses ((query.var, document) ∷ []) (covers_left scope clauses (member_names query.members) (covered query)))
    (λ bound. some_blind scope bound (λ find names. fields_under find query.members names)
    (λ names. fields_blind scope query.members names (covers_right scope clauses (member_names query.members) (covered query))))

pub reads_scope : (query : MapQuery) (d : Row) (find : Lookup) → meaning query d (within (scope_of query) find) ≡ meaning query d find
reads_scope query d find = ap mapped (entry_blind query (document_of d.body) find)
