-- The receipts of sessions over a desk of a turn.
use Rattle.std.proofs.Common.{◌≡◌, ◌≢◌, ℕ, ◌+◌, ◌-◌, List, [], ◌∷◌, ◌++◌, Bool, true, false, Option, Some, None, Ok, Err, refl, sym, ap, ◌∙◌, subst, arith, inl, inr, ◌⊎◌}
use Rattle.spec_server.specs.Requests.{Request, Do, Read, Publish}
use Rattle.spec_server.specs.Words.{LineRead}
use Rattle.spec_http.specs.Requests as is
use Rattle.spec_http.specs.Requests.{asked_over_http}
use Rattle.http_read.specs.declared.end.HttpEnd.{HttpEnd}
use Rattle.http_read.specs.declared.end.HttpEnd.TheVariants.{Ended}
use Rattle.http_session.specs.declared.why.Why.{Why}
use Rattle.http_session.specs.declared.why.Why.TheVariants as why
use Rattle.http_session.specs.Sessions.{Answered, Finishes, Refused, SoFar, Stopped, start, next, is_last}
use Rattle.spec_desk.specs.Lived.{Follows, Lived, etags}
use Rattle.spec_desk.specs.Receipts.{AllLink, IsTrueReceipt}
use Rattle.http_desk.specs.Answers.{AnswersOverHttp, AnswersRead, IsReceived}
use Rattle.http_desk.specs.Chains.{Given}
use Rattle.turn_desk.specs.Seated.{Seated, stands_seated}
use Rattle.raven_serve.specs.Fronts.{AnswersSeated, KeepsSeated}
use Rattle.raven_serve.specs.Receipts.{HasReceipts, Leads, Receipts}

-- one more is asked
longer : (clock : Option ℕ) (seen : List Lived) (given : List Given) (mid : List Lived) (n : ℕ) (g : Given) (seen' : List Lived) (k : ℕ) → Receipts clock seen given mid n → Leads clock mid g seen' k
    → Receipts clock seen (given ++ g ∷ []) seen' (n + k)
longer clock seen [] mid n g seen' k h l = (seen', k, 0, subst (λ (s : List Lived). Leads clock s g seen' k) h.0 l, (refl, refl), (let none = h.1 in omega arith))
longer clock seen (first ∷ more) mid n g seen' k h l = (h.0, h.1, h.2 + k, h.3, longer clock h.0 more mid h.2 g seen' k h.4 l, (let sum = h.5 in omega arith))

-- a request that reached the desk
pub record Step (x y : Seated) : Type 0 where
  pub given : Given
  pub took : ℕ
  pub leads : Leads x.moment x.pass.seen given y.pass.seen took
  pub made : y.pass.made ≡ x.pass.made + took
  pub clock : y.moment ≡ x.moment

stepped : (x y : Seated) (q : Request) (close : Bool) (bytes : List ℕ) → IsReceived Follows stands_seated x q close bytes y → Step x y
stepped x y q close bytes h =
    let a = h.given.asked in
    let same : a.end ≡ a.left = a.caught_up in
    record {
      given = record { request = q; receipt = h.receipt };
      took = a.took;
      leads = record { first = a.first; left = a.left; after = a.after; receipt = a.receipt; now_seen = a.now_seen ∙ ap (λ (z : Lived). z ∷ []) same };
      made = let all = a.now_made in let e : etags a.end ≡ etags a.left = ap etags same in omega arith;
      clock = h.given.goes_on.clock;
    }

read-step : (x y : Seated) (read : LineRead) (close : Bool) (bytes : List ℕ) → AnswersRead Follows stands_seated x read close bytes y → (y ≡ x) ⊎ Step x y
read-step x y (Err refusal) close bytes h = inl h.1
read-step x y (Ok None) close bytes h = absurd h
read-step x y (Ok (Some (Do q))) close bytes h = inr (stepped x y q close bytes h)
read-step x y (Ok (Some (Read worker number max))) close bytes h = absurd h
read-step x y (Ok (Some (Publish worker))) close bytes h = absurd h

one-step : (a : is.HttpAsked) (x y : Seated) (close : Bool) (bytes : List ℕ) → AnswersOverHttp Follows stands_seated x a close bytes y → (y ≡ x) ⊎ Step x y
one-step is.NoRoute x y close bytes h = inl h.1
one-step is.NoDatabase x y close bytes h = inl h.1
one-step (is.Asks asked) x y close bytes h = read-step x y h.read close bytes h.answers

go-on : (first x y : Seated) → HasReceipts first x → (y ≡ x) ⊎ Step x y → HasReceipts first y
go-on first x y c (inl e) = subst (λ (z : Seated). HasReceipts first z) (sym e) c
go-on first x y c (inr s) = record {
  given = c.given ++ s.given ∷ [];
  took = c.took + s.took;
  receipts = longer first.moment first.pass.seen c.given x.pass.seen c.took s.given y.pass.seen s.took c.receipts (subst (λ (m : Option ℕ). Leads m x.pass.seen s.given y.pass.seen s.took) c.clock s.leads);
  made = let a = c.made in let b = s.made in omega arith;
  clock = s.clock ∙ c.clock;
}

pub so_far : (first : Seated × List ℕ) (bytes : List ℕ) (n : ℕ) (written : List ℕ) (last : Seated × List ℕ) (rest : List ℕ) → SoFar AnswersSeated first bytes n written last rest → HasReceipts first.0 last.0
so_far first bytes n written last rest start = record { given = []; took = 0; receipts = (refl, refl); made = omega arith; clock = refl }
so_far first bytes n written last rest (next {n = m} {written = before} {answerer = a} {rest = left_before} request left response after far read further answers) =
    go-on first.0 a.0 after.0 (so_far first bytes m before a left_before far) (one-step (asked_over_http a.1 request) a.0 after.0 false response answers.answers)

module _ (first : Seated × List ℕ) (bytes : List ℕ) (held : Option (List ℕ)) where
  answered : (n : ℕ) (last : Seated × List ℕ) (now : Option (List ℕ)) → Answered AnswersSeated KeepsSeated first bytes held n last now → HasReceipts first.0 last.0
  answered n last now h =
      go-on first.0 h.answerer.0 last.0 (so_far first bytes n h.written h.answerer h.rest h.so_far) (one-step (asked_over_http h.answerer.1 h.request) h.answerer.0 last.0 true h.response h.asked.answers)

  refused : (end : HttpEnd) (last : Seated × List ℕ) (now : Option (List ℕ)) → Refused AnswersSeated KeepsSeated first bytes held end last now → HasReceipts first.0 last.0
  refused end last now h = so_far first bytes h.n h.written last h.rest h.so_far

  stopped : (last : Seated × List ℕ) (now : Option (List ℕ)) → Stopped AnswersSeated KeepsSeated first bytes held last now → HasReceipts first.0 last.0
  stopped last now (inl h) =
      go-on first.0 h.answerer.0 last.0 (so_far first bytes h.n h.written h.answerer h.rest h.so_far) (one-step (asked_over_http h.answerer.1 h.request) h.answerer.0 last.0 (is_last h.n h.request.close) h.response h.asked.answers)
  stopped last now (inr h) = so_far first bytes h.n h.written last h.rest h.so_far

  -- whatever ended the session, but for want of memory
  pub finished : (w : Why) (last : Seated × List ℕ) (now : Option (List ℕ)) → w ≢ why.NoMemory → Finishes AnswersSeated KeepsSeated first bytes held w last now → HasReceipts first.0 last.0
  finished why.Ended last now some h = refused Ended last now h
  finished (why.Http end) last now some h = refused end last now h.1
  finished why.Closed last now some h = answered h.0 last now h.2
  finished why.Enough last now some h = answered 999 last now h
  finished why.WriteFault last now some h = stopped last now h
  finished why.ReadFault last now some h = so_far first bytes h.n h.written last h.rest h.so_far
  finished why.NoMemory last now some h = absurd (some refl)
