-- What the texts of the index say, and what is asked for it.
use Rattle.std.proofs.Common.{◌≡◌, ℕ, List, [], ◌∷◌, Option, Some, None, IfSome, Result, Ok, Err, refl, sym, ap, ◌∙◌, subst}
use Rattle.index_definition.specs.RefusalView.{refusal_view}
use Rattle.index_definition.specs.declared.refusal.LangKind.{LangKind}
use Rattle.index_definition.specs.declared.refusal.LangRefusal.{LangRefusal}
use Rattle.index_definition.specs.declared.refusal.LangRefusal.TheVariants.{At}
use Rattle.index_definition.specs.declared.refusal.Part.{Part}
use Rattle.index_lang.specs.ByTexts.{Gives, Named}
use Rattle.index_lang.specs.Says.{Says}
use Rattle.index_tree.specs.Definitions.{Definition}
use Rattle.index_tree.specs.Language as tree
use Rattle.raven_reading.proofs.TextLemmas.{said-by}
use Rattle.raven_request.specs.RequestView.{request_view}
use Rattle.raven_request.specs.declared.request.Request as program
use Rattle.spec_index.specs.World.{is_automatic}
use Rattle.spec_measure.specs.Requests.{definitions, index_name, index_texts}
use Rattle.spec_server.specs.Requests.{Define}
use Rattle.raven_measure.specs.Defining.{IsDefining, MayBeMade, requests_view}

pub asks-definition : (name : List ℕ) (d : Named) (request : Option program.Request) → name ≡ index_name → Gives name index_texts (Ok d)
    → requests_view request ≡ Define d.name d.definition ∷ [] → IsDefining request
asks-definition name d request named gives asks = record { answer = Ok d.definition; says = gives.1; asks = asks ∙ ap (λ n. Define n d.definition ∷ []) (gives.0 ∙ named) }

pub asks-nothing : (name : List ℕ) (refusal : LangRefusal) (part : Part) (at : ℕ) (kind : LangKind) → refusal ≡ At part at kind → Gives name index_texts (Err refusal) → IsDefining None
asks-nothing name refusal part at kind is gives = record {
  answer = Err (refusal_view part at kind);
  says = subst (λ (e : LangRefusal). Gives name index_texts (Err e)) is gives;
  asks = refl;
}

-- what is asked is well formed, since texts say no automatic index
pub formed_defining : (found : Option program.Request) → IsDefining found → IfSome found (λ request. MayBeMade (request_view request))
formed_defining None d = tt
formed_defining (Some request) d = by d.answer d.says d.asks
  where
    by : (answer : Result Definition tree.LangRefusal) → Says index_texts answer → request_view request ∷ [] ≡ definitions answer → MayBeMade (request_view request)
    by (Ok e) says h = let same : request_view request ≡ Define index_name e = cc in subst MayBeMade (sym same) (ap is_automatic (said-by index_texts e says).by_texts, refl)
    by (Err refusal) says h = absurd cc
