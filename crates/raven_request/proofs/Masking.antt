-- A query of an index of several maps, which is read as one of an index.
use Rattle.std.proofs.Common.{◌≡◌, ℕ, List, Some, None, Result, Ok, Err, ap, subst}
use Rattle.spec_data.specs.Data.{Data}
use Rattle.spec_query.specs.Query as query
use Rattle.spec_query.specs.Query.{Query}
use Rattle.spec_query.specs.Refusals.{QueryRefusal}
use Rattle.spec_server.specs.Requests.{Ask, Do, Mask}
use Rattle.spec_server.specs.Words as read
use Rattle.spec_server.specs.Words.{LineRead, then_read}
use Rattle.spec_server.specs.Texts.{Asking, Querying, QueryingSeveral, asked_by_text, asked_to_query, asked_to_query_several, asking_of_body, whole_ask}
use Rattle.raven_lines.specs.Lines.{Comes}
use Rattle.raven_lines.specs.SaysQuery.{SaysQuery}
use Rattle.raven_request.proofs.Readings.{refused_on}
use Rattle.raven_request.proofs.Requesting.{comes-then, not_refused, plainly-refused, refused-as, refused-then, told-refused}
use Rattle.raven_request.specs.RequestRead.{IsRefusedFor}
use Rattle.raven_request.specs.RequestView.{Refuses}
use Rattle.raven_request.specs.declared.request.ReadRefusal.{ReadRefusal}

-- the text and what is asked beside it are not found
pub masks-unasked : (given : Result (List ℕ × Asking) read.ReadRefusal) (why : ReadRefusal) → Refuses why given → IsRefusedFor (asked_to_query_several given) why
masks-unasked (Ok given) why h = not_refused (QueryingSeveral given.0 given.1) given why h
masks-unasked (Err told) why h = plainly-refused (Err told) why (refused_on why (Err told) (λ given. Ok None) h)

-- what is asked of one index is asked of several maps
masks-given : (given : Result (List ℕ × Asking) read.ReadRefusal) (ask : query.Ask) → Comes (asked_to_query given) (Ok (Some (Do (Ask ask)))) → Comes (asked_to_query_several given) (Ok (Some (Do (Mask ask))))
masks-given (Err told) ask h = absurd cc
masks-given (Ok given) ask h = by h.answer h.says h.read
  where
    by : (answer : Result Query QueryRefusal) → SaysQuery given.0 answer → Ok (Some (Do (Ask ask))) ≡ asked_by_text given.1 answer → Comes (QueryingSeveral given.0 given.1) (Ok (Some (Do (Mask ask))))
    by (Ok q) says is =
        let same : ask ≡ whole_ask given.1 q = cc in
        record { answer = Ok q; says = says; read = ap (λ a. Ok (Some (Do (Mask a)))) same }
    by (Err cause) says is = absurd cc

-- and its text is refused for the same cause
masks-refused : (given : Result (List ℕ × Asking) read.ReadRefusal) (why : ReadRefusal) → IsRefusedFor (asked_to_query given) why → IsRefusedFor (asked_to_query_several given) why
masks-refused (Err told) why h = h
masks-refused (Ok given) why h = refused-as (Querying given.0 given.1) (QueryingSeveral given.0 given.1) why (λ r. by r.read r.comes.answer r.comes.says r.comes.read r.told) h
  where
    by : (told : LineRead) (answer : Result Query QueryRefusal) → SaysQuery given.0 answer → told ≡ asked_by_text given.1 answer → Refuses why told → IsRefusedFor (QueryingSeveral given.0 given.1) why
    by told (Ok q) says is refuses = not_refused (QueryingSeveral given.0 given.1) (Some (Do (Ask (whole_ask given.1 q)))) why (subst (Refuses why) is refuses)
    by told (Err cause) says is refuses = told-refused (QueryingSeveral given.0 given.1) why (record { read = told; comes = record { answer = Err cause; says = says; read = is }; told = refuses })

-- in JSON that is read first
module _ (json : Result Data read.ReadRefusal) (d : Data) (is : json ≡ Ok d) where
  pub mask-then : (ask : query.Ask) → Comes (asked_to_query (asking_of_body d)) (Ok (Some (Do (Ask ask)))) → Comes (asked_to_query_several (then_read json asking_of_body)) (Ok (Some (Do (Mask ask))))
  mask-then ask h = comes-then asked_to_query_several asking_of_body json d is (Ok (Some (Do (Mask ask)))) (masks-given (asking_of_body d) ask h)

  pub mask-refused : (why : ReadRefusal) → IsRefusedFor (asked_to_query (asking_of_body d)) why → IsRefusedFor (asked_to_query_several (then_read json asking_of_body)) why
  mask-refused why h = refused-then asked_to_query_several asking_of_body json d is why (masks-refused (asking_of_body d) why h)

pub ruleset masking = (masks-unasked, mask-then, mask-refused, refused_on)
