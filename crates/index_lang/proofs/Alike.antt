-- Whether two definitions have the same reduce.
use Rattle.std.proofs.Common.{◌≡◌, ◌↔◌, Bool, true, false, ◌&&◌, IsTrue, ℕ, List, Option, Some, None, refl, sym, ap, ◌∙◌}
use Rattle.std.proofs.lemmas.Bool.{false_from_ne_true}
use Rattle.spec_data.specs.Members.{Path}
use Rattle.index_tree.specs.Definitions.{Definition, is_same, map_code, reduce_code}
use Rattle.index_tree.specs.Definitions as is
use Rattle.index_tree.specs.declared.map_query.MapQuery.{MapQuery}
use Rattle.index_tree.specs.declared.reduce_query.ReduceQuery.{ReduceQuery}
use Rattle.index_definition.specs.declared.definition.DefBody.{DefBody}
use Rattle.index_definition.specs.declared.definition.DefBody.TheVariants.{Static, Auto}
use Rattle.index_definition.specs.DefinitionView.{automatic, definition_view}
use Rattle.index_definition.proofs.Sameness.{decided_alike}
use Rattle.spec_store.proofs.StoreLemmas.{both_true}
use Rattle.spec_server.specs.Several.{same_reduce}
use Rattle.index_lang.specs.Alike.{ReduceAlike}

map-alike : (map : MapQuery) (text : List ℕ) → is_same map_code map map ≡ true
map-alike map text =
    let d : DefBody = Static map None text None in
    (both_true (is_same map_code map map) true (sym (decided_alike true d d (λ yes. (refl, refl), λ same. refl)))).0

the_same : (r s : ReduceQuery) → Some r ≡ Some s → r ≡ s
the_same r s e = cc

-- two definitions with these reduces and one map are the same exactly if the reduces are
reduces-alike : (t : Bool) (map : MapQuery) (text : List ℕ) (r s : ReduceQuery) → (IsTrue t ↔ (r ≡ s)) → t ≡ is_same reduce_code r s
reduces-alike t map text r s decides =
    decided_alike t (Static map (Some r) text None) (Static map (Some s) text None) (λ yes. (refl, ap Some (decides.0 yes)), λ same. decides.1 (the_same r s same.1))
    ∙ ap (λ b. b && is_same reduce_code r s) (map-alike map text)

-- an automatic one has no reduce by a text
automatic-first : (c : List ℕ) (groups : Option (List Path)) (fields : List Path) (d : Definition) → false ≡ same_reduce (automatic c groups fields) d
automatic-first c None fields d = refl
automatic-first c (Some groups) fields d = refl

automatic-second : (map : MapQuery) (reduce : Option ReduceQuery) (text : List ℕ) (words : Option (List ℕ)) (c : List ℕ) (groups : Option (List Path)) (fields : List Path)
    → false ≡ same_reduce (is.Static map reduce text words) (automatic c groups fields)
automatic-second map None text words c groups fields = refl
automatic-second map (Some r) text words c None fields = refl
automatic-second map (Some r) text words c (Some groups) fields = refl

pub told-alike : (t : Bool) (a b : DefBody) → (IsTrue t ↔ ReduceAlike a b) → t ≡ same_reduce (definition_view a) (definition_view b)
told-alike t (Static map (Some r) text words) (Static other (Some s) load more) decides = reduces-alike t map text r s decides
told-alike t (Static map (Some r) text words) (Static other None load more) decides = false_from_ne_true t decides.0
told-alike t (Static map None text words) (Static other s load more) decides = false_from_ne_true t decides.0
told-alike t (Static map r text words) (Auto shape) decides = false_from_ne_true t decides.0 ∙ automatic-second map r text words shape.collection shape.groups shape.fields
told-alike t (Auto shape) b decides = false_from_ne_true t decides.0 ∙ automatic-first shape.collection shape.groups shape.fields (definition_view b)
