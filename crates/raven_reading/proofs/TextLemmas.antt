-- What texts say is a definition by these texts, so what is read of a row agrees with its body.
use Rattle.std.proofs.Common.{◌≡◌, ℕ, List, [], ◌∷◌, true, false, cond, Option, Some, None, option_map, is_some, Result, Ok, Err, refl, sym, ap, ◌∙◌, subst}
use Rattle.spec_data.specs.Kept.{KeptRow}
use Rattle.spec_data.specs.Rows.{Body, doc, gone}
use Rattle.spec_store.specs.Commit.{Setting}
use Rattle.spec_store.specs.Kept.{rows_in}
use Rattle.index_tree.specs.Language as is
use Rattle.spec_server.specs.Courses.{Machine}
use Rattle.index_tree.specs.Definitions.{Definition, Texts}
use Rattle.spec_index.specs.Reduces.{has_quotient}
use Rattle.spec_server.specs.Opening.{BodyForm, NoForm, AutoForm, StaticForm, ReadRow, body_form, is_defining, opened}
use Rattle.index_grammar.specs.View.{query_of}
use Rattle.index_definition.specs.DefinitionView.{definition_view}
use Rattle.index_lang.specs.Parse.{AreRead, IsReduceReadIf, causes, definition, first_cause, is_long, judged_if, lengths, reduce_of, unless}
use Rattle.index_definition.specs.declared.definition.Definition as program
use Rattle.index_lang.specs.declared.reading.ReadReduce.{ReadReduce}
use Rattle.index_lang.specs.declared.reading.Trees.{Trees}
use Rattle.index_definition.specs.declared.refusal.LangRefusal.{LangRefusal}
use Rattle.raven_laws.specs.Opened.{AgreesWithTexts, AgreesWithForm, AgreesWithBody, HasOwnDefinition, HaveOwnDefinitions, OpenedFaithfully}
use Rattle.index_lang.specs.Openings.{AreReadRows, IsInBody, IsOfForm, IsOpened, IsOpenedBy, IsReadIf, IsReadRow, unless_divided, without_refusal}
use Rattle.index_lang.specs.Says.{Says}

-- WHAT TEXTS SAY

-- a reduce is read exactly if there is the text of one
both-read : (reduce : Option (List ℕ)) (o : Option ReadReduce) → IsReduceReadIf reduce o → is_some (option_map (λ r. reduce_of r.reduce) o) ≡ is_some reduce
both-read None None h = refl
both-read (Some text) (Some r) h = refl
both-read None (Some r) h = absurd h
both-read (Some text) None h = absurd h

same_given : (a b : program.Definition) → (let r : Result program.Definition LangRefusal = Ok a in r) ≡ Ok b → a ≡ b
same_given a b h = cc

judged-by : (name : List ℕ) (texts : Texts) (p : program.Definition) (trees : Trees) (cause : Option LangRefusal) → IsReduceReadIf texts.1 trees.reduce
    → Ok p ≡ unless cause (definition name texts.0 texts.1 trees) → AgreesWithTexts texts (definition_view p.body)
judged-by name texts p trees (Some refusal) read h = absurd cc
judged-by name texts p trees None read h = record {
  query = query_of trees.map.map;
  reduce = option_map (λ r. reduce_of r.reduce) trees.reduce;
  both = both-read texts.1 trees.reduce read;
  by_texts = ap (λ (q : program.Definition). definition_view q.body) (same_given p (definition name texts.0 texts.1 trees) h);
}

read-by : (name : List ℕ) (texts : Texts) (p : program.Definition) (trees : Result Trees LangRefusal) → AreRead texts.0 texts.1 trees → Ok p ≡ judged_if name texts.0 texts.1 trees
    → AgreesWithTexts texts (definition_view p.body)
read-by name texts p (Ok trees) read h = judged-by name texts p trees (first_cause (causes trees)) read.1 h
read-by name texts p (Err refusal) read h = absurd cc

parsed-by : (name : List ℕ) (texts : Texts) (p : program.Definition) (long : Option LangRefusal)
    → is_long long (Ok p) ((trees : Result Trees LangRefusal) × AreRead texts.0 texts.1 trees × (Ok p ≡ judged_if name texts.0 texts.1 trees)) → AgreesWithTexts texts (definition_view p.body)
parsed-by name texts p (Some refusal) h = absurd cc
parsed-by name texts p None h = read-by name texts p h.0 h.1 h.2

pub said-by : (texts : Texts) (d : Definition) → Says texts (Ok d) → AgreesWithTexts texts d
said-by texts d x = subst (AgreesWithTexts texts) (sym x.seen) (parsed-by x.name texts x.definition (first_cause (lengths texts.0 texts.1)) x.given)

-- WHAT IS READ OF A ROW

same_definition : (a b : Definition) → Some a ≡ Some b → a ≡ b
same_definition a b h = cc

pub said-of : (texts : Texts) (d : Definition) (answer : Result Definition is.LangRefusal) → Says texts answer → Some d ≡ without_refusal answer → Says texts (Ok d)
said-of texts d (Ok e) says h = subst (λ x. Says texts (Ok x)) (sym (same_definition d e h)) says
said-of texts d (Err refusal) says h = absurd cc

-- without quotients there is what the texts say, and it has none
pub undivided-told : (d : Definition) (o : Option Definition) → Some d ≡ unless_divided false o → (Some d ≡ o) × (has_quotient d ≡ false)
undivided-told d None h = absurd cc
undivided-told d (Some e) h = elim (has_quotient e) as (λ b. has_quotient e ≡ b → Some d ≡ cond b None (Some e) → (Some d ≡ Some e) × (has_quotient d ≡ false)) [
  | true ↦ λ is g. absurd cc
  | false ↦ λ is g. (g, ap has_quotient (same_definition d e g) ∙ is)
] refl h

form-told : (form : BodyForm) (d : Definition) → IsOfForm form (Some d) → AgreesWithForm form d
form-told NoForm d h = absurd cc
form-told (AutoForm e) d h = same_definition d e h
form-told (StaticForm true texts) d h = record { agrees = said-by texts d (said-of texts d h.answer h.says h.told); undivided = λ never. absurd cc }
form-told (StaticForm false texts) d h =
    let told = undivided-told d (without_refusal h.answer) h.told in record { agrees = said-by texts d (said-of texts d h.answer h.says told.0); undivided = λ is. told.1 }

pub body-told : (b : Body) (d : Definition) → IsInBody b (Some d) → AgreesWithBody b d
body-told (doc v) d h = form-told (body_form v) d h
body-told gone d h = absurd cc

row-told : (x : ReadRow) → IsReadRow x → HasOwnDefinition x
row-told x right d is e =
    let defining : is_defining x.row ≡ true = is in
    body-told x.row.body d (subst (IsInBody x.row.body) e (subst (λ b. IsReadIf b x.row x.definition) defining right))

pub rows-told : (xs : List ReadRow) → AreReadRows xs → HaveOwnDefinitions xs
rows-told [] h = tt
rows-told (x ∷ xs) h = (row-told x h.0, rows-told xs h.1)

told-by : (s : Setting) (held : List KeptRow) (M : Machine) (r : Result (List _) ℕ) → rows_in s.max_rows held ≡ r → IsOpenedBy s r (Ok M) → OpenedFaithfully s held M
told-by s held M (Err etag) e x = absurd cc
told-by s held M (Ok rows) e x = record { opened = record { read = x.read; rows = e ∙ ap Ok (sym x.rows); opens = ap (λ all. opened s all x.read) x.rows ∙ x.opened }; told = rows-told x.read x.right }

pub opened-told : (s : Setting) (held : List KeptRow) (M : Machine) → IsOpened s held (Ok M) → OpenedFaithfully s held M
opened-told s held M x = told-by s held M (rows_in s.max_rows held) refl x
