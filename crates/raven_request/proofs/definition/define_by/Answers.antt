use Rattle.std.proofs.Common.{Err, subst}
use Rattle.index_definition.specs.declared.refusal.LangRefusal.{LangRefusal}
use Rattle.index_lang.specs.Bodies.{texts_behind}
use Rattle.index_lang.specs.ByTexts.{Gives}
use Rattle.raven_request.proofs.Requesting.{asks-refused}
use Rattle.raven_request.proofs.definition.define_by.Goals as goal

pub returns-in-Err-At : goal.returns-in-Err-At
returns-in-Err-At c =
    let texts = texts_behind c.args.texts in
    let says = subst (λ (e : LangRefusal). Gives c.args.name texts (Err e)) c.in-Err-At.field-0-is c.in-Err-At.ensures in
    asks-refused c.args.name texts _ _ _ _ _ _ c.in-Err-At.part-is c.in-Err-At.at-is c.in-Err-At.kind-is says
