-- What a map gives for a document: its entry, no entry, or a failure, and what it asked for.
use Rattle.std.specs.Prelude.{ℕ, List, [], ◌∷◌, Option, Some, None, if◌then◌else◌}
use Rattle.std.specs.Str.{bytes_eq}
use Rattle.spec_data.specs.Data.{Data}
use Rattle.spec_data.specs.Rising.{put}
use Rattle.spec_data.specs.Rows.{Row}
use Rattle.spec_data.specs.Scalars.{Scalar, scalar_of}
use Rattle.index_tree.specs.declared.map_query.Clause.{Clause}
use Rattle.index_tree.specs.declared.map_query.Clause.TheVariants as clause
use Rattle.index_tree.specs.declared.map_query.MapMember.{MapMember}
use Rattle.index_tree.specs.declared.map_query.MapQuery.{MapQuery}
use Rattle.index_tree.specs.Asking.{Lookup, Asking, gives, ◌>>=◌}
use Rattle.index_tree.specs.Operators.{is_true}
use Rattle.index_tree.specs.Evaluate.{Bindings, document_of, evaluate}

-- names of fields and their values, rising by the bytes of the names, so that each name is there once
abbrev pub Fields : Type 0
Fields = List (List ℕ × Scalar)

-- the value of the field of that name, if there is one
abbrev pub field_named : List ℕ → Fields → Option Scalar
field_named name [] = None
field_named name (f ∷ fields) = if bytes_eq name f.0 then Some f.1 else field_named name fields

pub data Outcome : Type 0 where
  Entry : Fields → Outcome
  NoEntry : Outcome
  Failed : Outcome

-- the folded ids are those asked for, in order, also before a failure
pub record Mapped : Type 0 where
  pub outcome : Outcome
  pub loads : List (List ℕ)

-- what goes on only if there is something
abbrev pub where_some : {A B : Type 0} → Option A → (A → Asking (Option B)) → Asking (Option B)
where_some None more = gives None
where_some (Some a) more = more a

-- the values of the names after a clause, which is computed at once; nothing if its condition is not true
abbrev pub bound_by : Lookup → Bindings → Clause → Asking (Option Bindings)
bound_by find bound (clause.Where test) = evaluate find bound test >>= λ t. gives (if is_true t then Some bound else None)
bound_by find bound (clause.Let name value) = evaluate find bound value >>= λ v. gives (Some ((name, v) ∷ bound))

-- after clauses in order; the first that leaves nothing ends them
abbrev pub bound_after : Lookup → Bindings → List Clause → Asking (Option Bindings)
bound_after find bound [] = gives (Some bound)
bound_after find bound (c ∷ more) = bound_by find bound c >>= λ next. where_some next (λ names. bound_after find names more)

-- the members are computed in their order, and each field goes in at its name; a list or an object counts as null
abbrev pub fields_with : Lookup → Bindings → Fields → List MapMember → Asking Fields
fields_with find bound found [] = gives found
fields_with find bound found (m ∷ more) = evaluate find bound m.value >>= λ v. fields_with find bound (put m.name (scalar_of v) found) more

abbrev pub fields_under : Lookup → List MapMember → Bindings → Asking (Option Fields)
fields_under find members bound = fields_with find bound [] members >>= λ fields. gives (Some fields)

-- the first name is that of the document
abbrev pub entry_of : MapQuery → Data → Lookup → Asking (Option Fields)
entry_of query document find = bound_after find ((query.var, document) ∷ []) query.clauses >>= λ bound. where_some bound (fields_under find query.members)

abbrev pub outcome_of : Option (Option Fields) → Outcome
outcome_of None = Failed
outcome_of (Some None) = NoEntry
outcome_of (Some (Some fields)) = Entry fields

abbrev pub mapped : Asking (Option Fields) → Mapped
mapped c = record { outcome = outcome_of c.outcome; loads = c.loads }

abbrev pub meaning : MapQuery → Row → Lookup → Mapped
meaning query d find = mapped (entry_of query (document_of d.body) find)
