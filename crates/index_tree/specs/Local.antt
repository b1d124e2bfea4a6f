-- A map depends on the document and on what its loads give, and on nothing else.
use Rattle.std.specs.Prelude.{◌≡◌, ℕ, List, [], ◌∷◌, ◌++◌, Bool, true, false, Option, Some, None, if◌then◌else◌, refl}
use Rattle.std.proofs.Common.{ap, sym, ◌∙◌}
use Rattle.spec_data.specs.Data.{Data, null, flag, num, text, array, object}
use Rattle.spec_data.specs.Rising.{put}
use Rattle.spec_data.specs.Scalars.{scalar_of}
use Rattle.spec_data.specs.Faults.{is_fit, max_id}
use Rattle.spec_data.specs.Folding.{folded}
use Rattle.spec_data.specs.Rows.{Row}
use Rattle.index_tree.specs.declared.expression.BinaryOp.{BinaryOp}
use Rattle.index_tree.specs.declared.expression.BinaryOp.TheVariants as op
use Rattle.index_tree.specs.declared.map_query.Clause.{Clause}
use Rattle.index_tree.specs.declared.map_query.Clause.TheVariants as clause
use Rattle.index_tree.specs.declared.map_query.MapMember.{MapMember}
use Rattle.index_tree.specs.declared.map_query.MapQuery.{MapQuery}
use Rattle.index_tree.specs.Trees.{Tree, If, Binary, Unary, Dot, Load, Num, Quoted, Flag, Null, Var}
use Rattle.index_tree.specs.Asking.{Lookup, Asking, AgreeAt, from, gives, after, goes_on, ◌>>=◌}
use Rattle.index_tree.specs.Operators.{is_true, part_of, binary, unary}
use Rattle.index_tree.specs.Evaluate.{Bindings, document_of, document_in, loaded, chosen, as_flag, combined, evaluate}
use Rattle.index_tree.specs.Meaning.{Fields, where_some, bound_by, bound_after, fields_with, fields_under, entry_of, mapped, meaning}

-- if lookups agree on all that was asked for, the result is the same
abbrev pub IsLocal : {A : Type 0} → (Lookup → Asking A) → Type 0
IsLocal c = (find other : Lookup) → AgreeAt (c find).loads find other → c other ≡ c find

agree_left : (ids more : List (List ℕ)) (find other : Lookup) → AgreeAt (ids ++ more) find other → AgreeAt ids find other
agree_left [] more find other h = tt
agree_left (id ∷ ids) more find other h = (h.0, agree_left ids more find other h.1)

agree_right : (ids more : List (List ℕ)) (find other : Lookup) → AgreeAt (ids ++ more) find other → AgreeAt more find other
agree_right [] more find other h = h
agree_right (id ∷ ids) more find other h = agree_right ids more find other h.1

from_local : {A : Type 0} (o : Option A) → IsLocal (λ find. from o)
from_local o find other h = refl

goes_on_local : {A B : Type 0} (o : Option A) (k : Lookup → A → Asking B) → ((a : A) → IsLocal (λ find. k find a)) → IsLocal (λ find. goes_on o (k find))
goes_on_local None k local find other h = refl
goes_on_local (Some a) k local find other h = local a find other h

then_local : {A B : Type 0} (c : Lookup → Asking A) (k : Lookup → A → Asking B) → IsLocal c → ((a : A) → IsLocal (λ find. k find a)) → IsLocal (λ find. c find >>= k find)
then_local c k first more find other h =
    let same = first find other (agree_left (c find).loads (goes_on (c find).outcome (k find)).loads find other h) in
    let rest = goes_on_local (c find).outcome k more find other (agree_right (c find).loads (goes_on (c find).outcome (k find)).loads find other h) in
    ap (λ e. e >>= k other) same ∙ ap (after (c find).loads) rest

if_local : {A : Type 0} (b : Bool) (c d : Lookup → Asking A) → IsLocal c → IsLocal d → IsLocal (λ find. if b then c find else d find)
if_local true c d x y find other h = x find other h
if_local false c d x y find other h = y find other h

asked_local : (b : Bool) (collection s : List ℕ) → IsLocal (λ find. if b then record { outcome = Some (document_in collection (find s)); loads = s ∷ [] } else gives null)
asked_local true collection s find other h = ap (λ r. record { outcome = Some (document_in collection r); loads = s ∷ [] }) (sym h.0)
asked_local false collection s find other h = refl

loaded_local : (collection : List ℕ) (v : Data) → IsLocal (λ find. loaded find collection v)
loaded_local collection (text s) find other h = asked_local (is_fit max_id s) collection (folded s) find other h
loaded_local collection null find other h = refl
loaded_local collection (flag b) find other h = refl
loaded_local collection (num n) find other h = refl
loaded_local collection (array ds) find other h = refl
loaded_local collection (object ms) find other h = refl

chosen_local : (test value another : Lookup → Asking Data) → IsLocal test → IsLocal value → IsLocal another → IsLocal (λ find. chosen (test find) (value find) (another find))
chosen_local test value another t v w =
    then_local test (λ find x. if is_true x then value find else another find) t (λ x. if_local (is_true x) value another v w)

flag_local : (c : Lookup → Asking Data) → IsLocal c → IsLocal (λ find. as_flag (c find))
flag_local c local = then_local c (λ find v. gives (flag (is_true v))) local (λ v. from_local (Some (flag (is_true v))))

both_local : (o : BinaryOp) (left right : Lookup → Asking Data) → IsLocal left → IsLocal right → IsLocal (λ find. left find >>= λ v. right find >>= λ w. from (binary o v w))
both_local o left right l r =
    then_local left (λ find v. right find >>= λ w. from (binary o v w)) l (λ v.
    then_local right (λ find w. from (binary o v w)) r (λ w. from_local (binary o v w)))

combined_local : (o : BinaryOp) (left right : Lookup → Asking Data) → IsLocal left → IsLocal right → IsLocal (λ find. combined o (left find) (right find))
combined_local op.Or left right l r = chosen_local left (λ find. gives (flag true)) (λ find. as_flag (right find)) l (from_local (Some (flag true))) (flag_local right r)
combined_local op.And left right l r = chosen_local left (λ find. as_flag (right find)) (λ find. gives (flag false)) l (flag_local right r) (from_local (Some (flag false)))
combined_local o left right l r = both_local o left right l r

pub evaluate_local : (bound : Bindings) (tree : Tree) → IsLocal (λ find. evaluate find bound tree)
evaluate_local bound (If test value other) =
    chosen_local (λ find. evaluate find bound test) (λ find. evaluate find bound value) (λ find. evaluate find bound other)
    (evaluate_local bound test) (evaluate_local bound value) (evaluate_local bound other)
evaluate_local bound (Binary o left right) =
    combined_local o (λ find. evaluate find bound left) (λ find. evaluate find bound right) (evaluate_local bound left) (evaluate_local bound right)
evaluate_local bound (Unary o operand) =
    then_local (λ find. evaluate find bound operand) (λ find v. from (unary o v)) (evaluate_local bound operand) (λ v. from_local (unary o v))
evaluate_local bound (Dot holder name) =
    then_local (λ find. evaluate find bound holder) (λ find v. gives (part_of name v)) (evaluate_local bound holder) (λ v. from_local (Some (part_of name v)))
evaluate_local bound (Load id collection) =
    then_local (λ find. evaluate find bound id) (λ find v. loaded find collection v) (evaluate_local bound id) (λ v. loaded_local collection v)
evaluate_local bound (Num n) = λ find other h. refl
evaluate_local bound (Quoted s) = λ find other h. refl
evaluate_local bound (Flag b) = λ find other h. refl
evaluate_local bound Null = λ find other h. refl
evaluate_local bound (Var name) = λ find other h. refl

some_local : {A B : Type 0} (o : Option A) (k : Lookup → A → Asking (Option B)) → ((a : A) → IsLocal (λ find. k find a)) → IsLocal (λ find. where_some o (k find))
some_local None k local find other h = refl
some_local (Some a) k local find other h = local a find other h

by_local : (bound : Bindings) (c : Clause) → IsLocal (λ find. bound_by find bound c)
by_local bound (clause.Where test) =
    then_local (λ find. evaluate find bound test) (λ find t. gives (if is_true t then Some bound else None)) (evaluate_local bound test)
    (λ t. from_local (Some (if is_true t then Some bound else None)))
by_local bound (clause.Let name value) =
    then_local (λ find. evaluate find bound value) (λ find v. gives (Some ((name, v) ∷ bound))) (evaluate_local bound value) (λ v. from_local (Some (Some ((name, v) ∷ bound))))

bound_local : (clauses : List Clause) (bound : Bindings) → IsLocal (λ find. bound_after find bound clauses)
bound_local [] bound = λ find other h. refl
bound_local (c ∷ more) bound =
    then_local (λ find. bound_by find bound c) (λ find next. where_some next (λ names. bound_after find names more)) (by_local bound c)
    (λ next. some_local next (λ find names. bound_after find names more) (λ names. bound_local more names))

with_local : (bound : Bindings) (members : List MapMember) (found : Fields) → IsLocal (λ find. fields_with find bound found members)
with_local bound [] found = λ find other h. refl
with_local bound (m ∷ more) found =
    then_local (λ find. evaluate find bound m.value) (λ find v. fields_with find bound (put m.name (scalar_of v) found) more) (evaluate_local bound m.value)
    (λ v. with_local bound more (put m.name (scalar_of v) found))

fields_local : (members : List MapMember) (bound : Bindings) → IsLocal (λ find. fields_under find members bound)
fields_local members bound =
    then_local (λ find. fields_with find bound [] members) (λ find fields. gives (Some fields)) (with_local bound members []) (λ fields. from_local (Some (Some fields)))

pub entry_local : (query : MapQuery) (document : Data) → IsLocal (entry_of query document)
entry_local query document =
    then_local (λ find. bound_after find ((query.var, document) ∷ []) query.clauses) (λ find bound. where_some bound (fields_under find query.members))
    (bound_local query.clauses ((query.var, document) ∷ [])) (λ bound. some_local bound (λ find names. fields_under find query.members names) (fields_local query.members))

-- if two lookups give the same for all that was asked for under the first, the map gives the same under both, and asks for the same
pub meaning_local : (query : MapQuery) (d : Row) (find other : Lookup) → AgreeAt (meaning query d find).loads find other → meaning query d other ≡ meaning query d find
meaning_local query d find other h = ap mapped (entry_local query (document_of d.body) find other h)
