-- What is read of a request that may have the texts of a definition or of a query.
use Rattle.std.specs.Prelude.{◌≡◌, Some, Result, Ok, Err}
use Rattle.spec_server.specs.Requests as is
use Rattle.spec_server.specs.Replies.{Reply}
use Rattle.spec_server.specs.Words.{LineRead}
use Rattle.spec_server.specs.Texts.{Asked}
use Rattle.spec_server.specs.Script.{refusal_reply}
use Rattle.spec_server.specs.Words as script
use Rattle.raven_lines.specs.Lines.{Comes}
use Rattle.raven_request.specs.RequestView.{Refuses, request_view}
use Rattle.raven_request.specs.declared.request.Request.{Request}
use Rattle.raven_request.specs.declared.request.ReadRefusal.{ReadRefusal}
use Rattle.raven_request.specs.declared.request.ReadRefusal.TheVariants as refusal

-- what is asked comes to this refusal
pub record ComesToRefusal (asked : Asked) (why : ReadRefusal) : Type 0 where
  pub read : LineRead
  pub comes : Comes asked read
  pub told : Refuses why read

-- so, unless memory ran out, which says nothing
abbrev pub IsRefusedFor : Asked → ReadRefusal → Type 0
IsRefusedFor asked refusal.NoMemory = Unit {0}
IsRefusedFor asked why = ComesToRefusal asked why

-- what is asked comes to the request that this is, or to this refusal
abbrev pub AsksBy : {A : Type 0} → (A → is.Request) → Asked → Result A ReadRefusal → Type 0
AsksBy view asked (Ok a) = Comes asked (Ok (Some (is.Do (view a))))
AsksBy view asked (Err why) = IsRefusedFor asked why

abbrev pub Asks : Asked → Result Request ReadRefusal → Type 0
Asks asked result = AsksBy request_view asked result

-- the reply is that to the refusal of what is asked
pub record IsRefusal (asked : Asked) (reply : Reply) : Type 0 where
  pub refusal : script.ReadRefusal
  pub comes : Comes asked (Err refusal)
  pub reply_is : reply ≡ refusal_reply refusal
