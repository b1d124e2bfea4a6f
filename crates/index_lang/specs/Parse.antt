-- What the texts of a definition are answered.
use Rattle.std.specs.Prelude.{◌≡◌, ℕ, ◌⊎◌, nat_lt, if◌then◌else◌, List, [], ◌∷◌, length, map, Option, Some, None, option_map, Result, Ok, Err}
use Rattle.exact_parse.specs.Exact.{SpellsText, UnexpectedAt, TooLargeAt}
use Rattle.index_tokens.specs.Tokens.{tokens_of}
use Rattle.index_tokens.specs.Words.{Tokens, place_of}
use Rattle.index_tree.specs.declared.reduce_query.ReduceQuery.{ReduceQuery}
use Rattle.index_grammar.specs.Maps.{SpellsMap}
use Rattle.index_grammar.specs.Limits as maps
use Rattle.index_grammar.specs.View.{query_of}
use Rattle.reduce_grammar.specs.declared.spelled.SpelledReduce.{SpelledReduce}
use Rattle.reduce_grammar.specs.Reduces.{SpellsReduce}
use Rattle.reduce_grammar.specs.Limits as reduces
use Rattle.index_definition.specs.declared.refusal.Part.{Part}
use Rattle.index_definition.specs.declared.refusal.Part.TheVariants as part
use Rattle.index_definition.specs.declared.refusal.LangKind.{LangKind}
use Rattle.index_definition.specs.declared.refusal.LangKind.TheVariants as kind
use Rattle.index_definition.specs.declared.refusal.LangRefusal.{LangRefusal}
use Rattle.index_definition.specs.declared.refusal.LangRefusal.TheVariants.{At, NoMemory}
use Rattle.index_definition.specs.declared.definition.Definition.{Definition}
use Rattle.index_definition.specs.declared.definition.DefBody.TheVariants.{Static}
use Rattle.index_lang.specs.declared.reading.ReadMap.{ReadMap}
use Rattle.index_lang.specs.declared.reading.ReadReduce.{ReadReduce}
use Rattle.index_lang.specs.declared.reading.Trees.{Trees}
use Rattle.index_lang.specs.Bound.{unbound_in}
use Rattle.index_lang.specs.BoundGroups.{unbound_in_reduce}
use Rattle.index_lang.specs.Fields.{duplicate, fields_agree, irreducible, fold_name, fold_place, member_name, member_place}

-- ---- causes

abbrev pub refused_at : Part → LangKind → Option ℕ → Option LangRefusal
refused_at p k (Some place) = Some (At p place k)
refused_at p k None = None

-- the first cause that there is
abbrev pub first_cause : List (Option LangRefusal) → Option LangRefusal
first_cause [] = None
first_cause (Some refusal ∷ more) = Some refusal
first_cause (None ∷ more) = first_cause more

abbrev pub unless : {A : Type 0} → Option LangRefusal → A → Result A LangRefusal
unless (Some refusal) a = Err refusal
unless None a = Ok a

abbrev pub where_given : {A : Type 0} → Option A → (A → Option LangRefusal) → Option LangRefusal
where_given (Some a) cause = cause a
where_given None cause = None

-- ---- texts that are too long

abbrev pub most_bytes : ℕ
most_bytes = 65536

abbrev pub too_long : Part → List ℕ → Option LangRefusal
too_long p text = if nat_lt most_bytes (length text) then Some (At p most_bytes kind.TooLarge) else None

abbrev pub lengths : List ℕ → Option (List ℕ) → List (Option LangRefusal)
lengths text reduce = too_long part.Map text ∷ where_given reduce (too_long part.Reduce) ∷ []

-- ---- what is read

-- the map that the tokens spell and the first name in it that is not bound; or the first token with which no map goes on, or that is past a limit
abbrev pub IsMapOf : Tokens → Result ReadMap LangRefusal → Type 0
IsMapOf ts (Ok r) = (x : SpellsText SpellsMap maps.limit ts r.map) × (r.unbound ≡ unbound_in x.spelling)
IsMapOf ts (Err (At part.Map place kind.Unexpected)) = (p : Tokens) × UnexpectedAt SpellsMap maps.limit ts p × (place ≡ place_of p)
IsMapOf ts (Err (At part.Map place kind.TooLarge)) = (p : Tokens) × TooLargeAt SpellsMap maps.limit tt ts p × (place ≡ place_of p)
IsMapOf ts (Err _) = ⊥

abbrev pub IsReduceOf : Tokens → Result ReadReduce LangRefusal → Type 0
IsReduceOf ts (Ok r) = (x : SpellsText SpellsReduce reduces.limit ts r.reduce) × (r.unbound ≡ unbound_in_reduce x.spelling)
IsReduceOf ts (Err (At part.Reduce place kind.Unexpected)) = (p : Tokens) × UnexpectedAt SpellsReduce reduces.limit ts p × (place ≡ place_of p)
IsReduceOf ts (Err (At part.Reduce place kind.TooLarge)) = (p : Tokens) × TooLargeAt SpellsReduce reduces.limit tt ts p × (place ≡ place_of p)
IsReduceOf ts (Err _) = ⊥

-- of a text it is that of its tokens
abbrev pub IsMapRead : List ℕ → Result ReadMap LangRefusal → Type 0
IsMapRead text r = IsMapOf (tokens_of text) r

abbrev pub IsReduceRead : List ℕ → Result ReadReduce LangRefusal → Type 0
IsReduceRead text r = IsReduceOf (tokens_of text) r

abbrev pub IsReduceReadIf : Option (List ℕ) → Option ReadReduce → Type 0
IsReduceReadIf None None = Unit {0}
IsReduceReadIf (Some text) (Some r) = IsReduceRead text (Ok r)
IsReduceReadIf _ _ = ⊥

-- Both are read; or the map is refused; or it is read, and the reduce is refused.
abbrev pub AreRead : List ℕ → Option (List ℕ) → Result Trees LangRefusal → Type 0
AreRead text reduce (Ok trees) = IsMapRead text (Ok trees.map) × IsReduceReadIf reduce trees.reduce
AreRead text reduce (Err refusal) =
    IsMapRead text (Err refusal)
    ⊎ ((m : ReadMap) × IsMapRead text (Ok m) × (reduce_text : List ℕ) × (reduce ≡ Some reduce_text) × IsReduceRead reduce_text (Err refusal))

-- ---- what is looked for in the trees, in this order

abbrev pub reduce_causes : ReadMap → ReadReduce → List (Option LangRefusal)
reduce_causes m r =
    (if fields_agree m.map.members r.reduce.members then None else Some (At part.Reduce 0 kind.FieldsDiffer))
    ∷ refused_at part.Reduce kind.NotReducible (irreducible r.reduce)
    ∷ []

abbrev pub causes : Trees → List (Option LangRefusal)
causes t =
    refused_at part.Map kind.UnknownName t.map.unbound
    ∷ where_given t.reduce (λ r. refused_at part.Reduce kind.UnknownName r.unbound)
    ∷ refused_at part.Map kind.DuplicateField (duplicate member_name member_place t.map.map.members)
    ∷ where_given t.reduce (λ r. refused_at part.Reduce kind.DuplicateField (duplicate fold_name fold_place r.reduce.members))
    ∷ where_given t.reduce (λ r. first_cause (reduce_causes t.map r))
    ∷ []

-- ---- the definition

abbrev pub reduce_of : SpelledReduce → ReduceQuery
reduce_of r = record { var = r.var; group = r.group; key = r.key; members = map (λ p. p.member) r.members }

abbrev pub definition : List ℕ → List ℕ → Option (List ℕ) → Trees → Definition
definition name text reduce t = record {
  name = name;
  body = Static (query_of t.map.map) (option_map (λ r. reduce_of r.reduce) t.reduce) text reduce;
}

abbrev pub judged : List ℕ → List ℕ → Option (List ℕ) → Trees → Result Definition LangRefusal
judged name text reduce t = unless (first_cause (causes t)) (definition name text reduce t)

abbrev pub judged_if : List ℕ → List ℕ → Option (List ℕ) → Result Trees LangRefusal → Result Definition LangRefusal
judged_if name text reduce (Ok trees) = judged name text reduce trees
judged_if name text reduce (Err refusal) = Err refusal

-- ---- the answer

abbrev pub is_long : Option LangRefusal → Result Definition LangRefusal → Type 0 → Type 0
is_long (Some refusal) answer within = answer ≡ Err refusal
is_long None answer within = within

abbrev pub IsParsed : List ℕ → List ℕ → Option (List ℕ) → Result Definition LangRefusal → Type 0
IsParsed name text reduce answer = is_long (first_cause (lengths text reduce)) answer
    ((trees : Result Trees LangRefusal) × AreRead text reduce trees × (answer ≡ judged_if name text reduce trees))

-- out of memory says nothing
abbrev pub UnlessNoMemory : {A : Type 0} → Result A LangRefusal → (Result A LangRefusal → Type 0) → Type 0
UnlessNoMemory (Err NoMemory) says = Unit {0}
UnlessNoMemory answer says = says answer
