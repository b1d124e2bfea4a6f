-- What is read of texts: it has the name that it is given, and is a definition by texts.
use Rattle.std.proofs.Common.{◌≡◌, ℕ, List, false, Option, Some, None, IfSome, IsUtf8, Result, Ok, Err, refl, sym, ap, ◌∙◌, subst}
use Rattle.index_tree.specs.Definitions.{Definition}
use Rattle.spec_index.specs.World.{is_automatic}
use Rattle.index_definition.specs.DefinitionView.{definition_view}
use Rattle.index_definition.specs.RefusalView.{refusal_view}
use Rattle.index_definition.specs.declared.definition.Definition as program
use Rattle.index_definition.specs.declared.refusal.LangRefusal.{LangRefusal}
use Rattle.index_definition.specs.declared.refusal.LangRefusal.TheVariants.{At}
use Rattle.index_definition.specs.declared.refusal.LangKind.{LangKind}
use Rattle.index_definition.specs.declared.refusal.Part.{Part}
use Rattle.index_lang.specs.ByTexts.{IsByTexts}
use Rattle.index_lang.specs.Parse.{AreRead, IsParsed, causes, definition, first_cause, is_long, judged_if, lengths, unless}
use Rattle.index_lang.specs.Says.{Says}
use Rattle.index_lang.specs.declared.reading.Trees.{Trees}

module _ (name map : List ℕ) (reduce : Option (List ℕ)) (d : program.Definition) where
  -- for any property of what is read of trees that have nothing to be refused for
  judged : (P : program.Definition → Type 0) → ((trees : Trees) → first_cause (causes trees) ≡ None → P (definition name map reduce trees)) → (trees : Trees) (cause : Option LangRefusal)
      → first_cause (causes trees) ≡ cause → Ok d ≡ unless cause (definition name map reduce trees) → P d
  judged P all trees (Some why) is h = absurd cc
  judged P all trees None is h =
      let same : (a b : program.Definition) → (let r : Result program.Definition LangRefusal = Ok a in r) ≡ Ok b → a ≡ b = λ a b e. cc in
      subst P (sym (same d (definition name map reduce trees) h)) (all trees is)

  judged-if : (P : program.Definition → Type 0) → ((trees : Trees) → first_cause (causes trees) ≡ None → P (definition name map reduce trees)) → (trees : Result Trees LangRefusal)
      → Ok d ≡ judged_if name map reduce trees → P d
  judged-if P all (Ok trees) h = judged P all trees (first_cause (causes trees)) refl h
  judged-if P all (Err why) h = absurd cc

  pub parsed : (P : program.Definition → Type 0) → ((trees : Trees) → first_cause (causes trees) ≡ None → P (definition name map reduce trees)) → IsParsed name map reduce (Ok d) → P d
  parsed P all h = by (first_cause (lengths map reduce)) h
    where
      by : (long : Option LangRefusal) → is_long long (Ok d) ((trees : Result Trees LangRefusal) × AreRead map reduce trees × (Ok d ≡ judged_if name map reduce trees)) → P d
      by (Some why) g = absurd cc
      by None g = judged-if P all g.0 g.2

pub parsed-name : (name map : List ℕ) (reduce : Option (List ℕ)) (d : program.Definition) → IsParsed name map reduce (Ok d) → d.name ≡ name
parsed-name name map reduce d h = parsed name map reduce d (λ e. e.name ≡ name) (λ trees none. refl) h

parsed-given : (name map : List ℕ) (reduce : Option (List ℕ)) (d : program.Definition) → IsParsed name map reduce (Ok d) → is_automatic (definition_view d.body) ≡ false
parsed-given name map reduce d h = parsed name map reduce d (λ e. is_automatic (definition_view e.body) ≡ false) (λ trees none. refl) h

-- a definition by texts is no automatic one
pub said-given : (d : Definition) → IsByTexts d → is_automatic d ≡ false
said-given d by = let x = by.says in ap is_automatic x.seen ∙ parsed-given x.name by.texts.0 by.texts.1 x.definition x.given

pub says-parsed : (name map : List ℕ) (reduce : Option (List ℕ)) (d : program.Definition) → IsParsed name map reduce (Ok d) → Says (map, reduce) (Ok (definition_view d.body))
says-parsed name map reduce d h = record { name = name; definition = d; given = h; seen = refl }

pub says-refused : (name map : List ℕ) (reduce : Option (List ℕ)) (part : Part) (at : ℕ) (kind : LangKind) → IsParsed name map reduce (Err (At part at kind)) → Says (map, reduce) (Err (refusal_view part at kind))
says-refused name map reduce part at kind h = record { name = name; part = part; at = at; kind = kind; given = h; seen = refl }

pub by-parsed : (name map : List ℕ) (reduce : Option (List ℕ)) (d : program.Definition) → IsUtf8 map → IfSome reduce IsUtf8 → IsParsed name map reduce (Ok d) → IsByTexts (definition_view d.body)
by-parsed name map reduce d utf8 reduce_utf8 h = record { texts = (map, reduce); utf8 = utf8; reduce_utf8 = reduce_utf8; says = says-parsed name map reduce d h }

pub by-shared : (a b : program.Definition) → a ≡ b → IsByTexts (definition_view b.body) → IsByTexts (definition_view a.body)
by-shared a b is by = subst (λ d. IsByTexts (definition_view d.body)) (sym is) by

pub ruleset said = (said-given)

pub ruleset giving = (parsed-name, says-parsed, says-refused, by-parsed)

pub ruleset sealing = (by-shared)
