-- What is answered to a request that is refused before the database is asked.
use Rattle.std.specs.Prelude.{◌≡◌, ℕ, List, Bool}
use Rattle.spec_server.specs.Replies.{Reply}
use Rattle.spec_server.specs.Texts.{Asked}
use Rattle.spec_http.specs.Answers.{no_database, no_route, response_to}
use Rattle.raven_request.specs.RequestRead.{IsRefusal, IsRefusedFor}
use Rattle.http_front.specs.declared.refusal.HttpRefusal.{HttpRefusal}
use Rattle.http_front.specs.declared.refusal.HttpRefusal.TheVariants as refusal

-- the response has the reply that says why what is asked is refused
pub record IsRefused (asked : Asked) (close : Bool) (bytes : List ℕ) : Type 0 where
  pub reply : Reply
  pub refused : IsRefusal asked reply
  pub bytes_are : bytes ≡ response_to close reply

-- the response to a refusal
abbrev pub AnswersRefusal : HttpRefusal → Bool → List ℕ → Type 0
AnswersRefusal refusal.NoRoute close bytes = bytes ≡ no_route close
AnswersRefusal refusal.NoDatabase close bytes = bytes ≡ no_database close
AnswersRefusal (refusal.Unread why) close bytes = (asked : Asked) → IsRefusedFor asked why → IsRefused asked close bytes
