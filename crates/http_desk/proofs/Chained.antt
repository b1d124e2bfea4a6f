-- The receipts of a session over the desk of one caller.
use Rattle.std.proofs.Common.{◌≡◌, ◌≢◌, ℕ, ◌+◌, ◌-◌, List, [], ◌∷◌, ◌++◌, Bool, true, false, Option, IfSome, Some, None, Ok, Err, refl, sym, ap, ◌∙◌, subst, arith, inl, inr, ◌⊎◌}
use Rattle.spec_server.specs.Requests.{Request, Do, Read, Publish}
use Rattle.spec_server.specs.Words.{LineRead}
use Rattle.spec_http.specs.Requests as is
use Rattle.spec_http.specs.Requests.{asked_over_http}
use Rattle.http_read.specs.declared.end.HttpEnd.{HttpEnd}
use Rattle.http_read.specs.declared.end.HttpEnd.TheVariants.{Ended}
use Rattle.http_session.specs.declared.why.Why.{Why}
use Rattle.http_session.specs.declared.why.Why.TheVariants as why
use Rattle.http_session.specs.Sessions.{Answered, Finishes, Refused, SoFar, Stopped, start, next, is_last}
use Rattle.spec_desk.specs.Lived.{Follows, Lived, etags}
use Rattle.spec_desk.specs.Receipts.{CatchesUp, IsTrueReceipt, Onward}
use Rattle.spec_desk.specs.Receipts.Onward.{same, on}
use Rattle.spec_desk.proofs.Later.{same-follows}
use Rattle.spec_desk.proofs.Onwards.{head}
use Rattle.raven_desk.specs.Desks.{Alone, stands_alone}
use Rattle.http_desk.specs.Answers.{AnswersOverHttp, AnswersRead, IsReceived}
use Rattle.http_desk.specs.Chains.{AnswersAlone, Chain, Found, Given, IsChained, KeepsAlone, Leads}

-- one more is asked
longer : (clock : Option ℕ) (pump : ℕ) (x : Lived) (given : List Given) (y : Lived) (n : ℕ) (g : Given) (z : Lived) (k : ℕ) → Chain clock pump x given y n → Leads clock pump y g z k
    → Chain clock pump x (given ++ g ∷ []) z (n + k)
longer clock pump x [] y n g z k h l = (z, k, 0, subst (λ (w : Lived). Leads clock pump w g z k) h.0 l, (refl, refl), (let none = h.1 in omega arith))
longer clock pump x (first ∷ more) y n g z k h l =
    (h.0, h.1, h.2 + k, h.3, longer clock pump h.0 more y h.2 g z k h.4 l, (let sum = h.5 in omega arith))

-- a request that reached the desk, and one that did not
pub record Step (x y : Alone) : Type 0 where
  pub given : Given
  pub took : ℕ
  pub leads : Leads x.moment x.pump x.live given y.live took
  pub made : etags y.live ≡ etags x.live + took
  pub clock : y.moment ≡ x.moment
  pub pump : y.pump ≡ x.pump

same_head : (x y : Lived) → x ∷ [] ≡ y ∷ [] → x ≡ y
same_head x y e = cc

stepped : (x y : Alone) (q : Request) (close : Bool) (bytes : List ℕ) → IsReceived Found stands_alone x q close bytes y → Step x y
stepped x y q close bytes h =
    let a = h.given.asked in
    let goes = h.given.goes_on in
    let here : y.live ≡ a.end = same_head y.live a.end a.now_seen in
    record {
      given = record { request = q; receipt = h.receipt };
      took = a.took + (etags y.live - etags a.left);
      leads = record {
        left = a.left;
        took = a.took;
        receipt = subst (λ (w : Lived). IsTrueReceipt Found x.moment q w h.receipt a.left a.took) (head Found x.live a.first a.after) a.receipt;
        caught_up = subst (λ (w : Lived). CatchesUp x.moment x.pump a.left w) (sym here) a.caught_up;
        later = subst (λ (w : Lived). Follows a.left w) (sym here) a.later;
        number = refl;
      };
      made = let all = a.now_made in let same : etags y.live ≡ etags a.end = ap etags here in omega arith;
      clock = goes.clock;
      pump = goes.pump;
    }

read-step : (x y : Alone) (read : LineRead) (close : Bool) (bytes : List ℕ) → AnswersRead Found stands_alone x read close bytes y → (y ≡ x) ⊎ Step x y
read-step x y (Err refusal) close bytes h = inl h.1
read-step x y (Ok None) close bytes h = absurd h
read-step x y (Ok (Some (Do q))) close bytes h = inr (stepped x y q close bytes h)
read-step x y (Ok (Some (Read worker number max))) close bytes h = absurd h
read-step x y (Ok (Some (Publish worker))) close bytes h = absurd h

one-step : (a : is.HttpAsked) (x y : Alone) (close : Bool) (bytes : List ℕ) → AnswersOverHttp Found stands_alone x a close bytes y → (y ≡ x) ⊎ Step x y
one-step is.NoRoute x y close bytes h = inl h.1
one-step is.NoDatabase x y close bytes h = inl h.1
one-step (is.Asks asked) x y close bytes h = read-step x y h.read close bytes h.answers

go-on : (first x y : Alone) → IsChained first x → (y ≡ x) ⊎ Step x y → IsChained first y
go-on first x y c (inl e) = subst (λ (z : Alone). IsChained first z) (sym e) c
go-on first x y c (inr s) = record {
  given = c.given ++ s.given ∷ [];
  took = c.took + s.took;
  chain = longer first.moment first.pump first.live c.given x.live c.took s.given y.live s.took c.chain
      (subst (λ (n : ℕ). Leads first.moment n x.live s.given y.live s.took) c.pump (subst (λ (m : Option ℕ). Leads m x.pump x.live s.given y.live s.took) c.clock s.leads));
  made = let a = c.made in let b = s.made in omega arith;
  clock = s.clock ∙ c.clock;
  pump = s.pump ∙ c.pump;
}

pub chained : (first : Alone × List ℕ) (bytes : List ℕ) (n : ℕ) (written : List ℕ) (last : Alone × List ℕ) (rest : List ℕ) → SoFar AnswersAlone first bytes n written last rest → IsChained first.0 last.0
chained first bytes n written last rest start = record { given = []; took = 0; chain = (refl, refl); made = omega arith; clock = refl; pump = refl }
chained first bytes n written last rest (next {n = m} {written = before} {answerer = a} {rest = left_before} request left response after so_far read further answers) =
    go-on first.0 a.0 after.0 (chained first bytes m before a left_before so_far) (one-step (asked_over_http a.1 request) a.0 after.0 false response answers.answers)

-- the last request was answered
module _ (first : Alone × List ℕ) (bytes : List ℕ) (held : Option (List ℕ)) where
  answered : (n : ℕ) (last : Alone × List ℕ) (now : Option (List ℕ)) → Answered AnswersAlone KeepsAlone first bytes held n last now → IsChained first.0 last.0
  answered n last now h =
      go-on first.0 h.answerer.0 last.0 (chained first bytes n h.written h.answerer h.rest h.so_far) (one-step (asked_over_http h.answerer.1 h.request) h.answerer.0 last.0 true h.response h.asked.answers)

  refused : (end : HttpEnd) (last : Alone × List ℕ) (now : Option (List ℕ)) → Refused AnswersAlone KeepsAlone first bytes held end last now → IsChained first.0 last.0
  refused end last now h = chained first bytes h.n h.written last h.rest h.so_far

  stopped : (last : Alone × List ℕ) (now : Option (List ℕ)) → Stopped AnswersAlone KeepsAlone first bytes held last now → IsChained first.0 last.0
  stopped last now (inl h) =
      go-on first.0 h.answerer.0 last.0 (chained first bytes h.n h.written h.answerer h.rest h.so_far) (one-step (asked_over_http h.answerer.1 h.request) h.answerer.0 last.0 (is_last h.n h.request.close) h.response h.asked.answers)
  stopped last now (inr h) = chained first bytes h.n h.written last h.rest h.so_far

  -- whatever ended the session, but for want of memory
  pub finished : (w : Why) (last : Alone × List ℕ) (now : Option (List ℕ)) → w ≢ why.NoMemory → Finishes AnswersAlone KeepsAlone first bytes held w last now → IsChained first.0 last.0
  finished why.Ended last now some h = refused Ended last now h
  finished (why.Http end) last now some h = refused end last now h.1
  finished why.Closed last now some h = answered h.0 last now h.2
  finished why.Enough last now some h = answered 999 last now h
  finished why.WriteFault last now some h = stopped last now h
  finished why.ReadFault last now some h = chained first bytes h.n h.written last h.rest h.so_far
  finished why.NoMemory last now some h = absurd (some refl)

-- ONE SESSION

pair_of : (p : Alone × List ℕ) (x : Alone) (name : List ℕ) → x ≡ p.0 → p.1 ≡ name → p ≡ (x, name)
pair_of p x name e f = subst (λ (y : Alone). p ≡ (y, name)) (sym e) (ap (λ (m : List ℕ). (p.0, m)) f)

-- the desk was put with the name, and taken out again
pub served-alone : (left held now : Option (List ℕ)) (w : Why) (begun : Alone × List ℕ) (desk : Alone) (name : List ℕ) (last : Alone × List ℕ) (end : Alone) → begun ≡ (desk, name) → end ≡ last.0 → KeepsAlone begun last
    → IfSome left (λ bytes. Finishes AnswersAlone KeepsAlone begun bytes held w last now) → IfSome left (λ bytes. Finishes AnswersAlone KeepsAlone (desk, name) bytes held w (end, name) now)
served-alone left held now w begun desk name last end e f k h =
    subst (λ (z : Alone × List ℕ). IfSome left (λ bytes. Finishes AnswersAlone KeepsAlone (desk, name) bytes held w z now)) (pair_of last end name f (k.name ∙ ap (λ (p : Alone × List ℕ). p.1) e))
    (subst (λ (z : Alone × List ℕ). IfSome left (λ bytes. Finishes AnswersAlone KeepsAlone z bytes held w last now)) e h)

pub kept-alone : (begun : Alone × List ℕ) (desk : Alone) (name : List ℕ) (last : Alone × List ℕ) (end : Alone) → begun ≡ (desk, name) → end ≡ last.0 → KeepsAlone begun last → KeepsAlone (desk, name) (end, name)
kept-alone begun desk name last end e f k =
    subst (λ (z : Alone × List ℕ). KeepsAlone (desk, name) z) (pair_of last end name f (k.name ∙ ap (λ (p : Alone × List ℕ). p.1) e)) (subst (λ (z : Alone × List ℕ). KeepsAlone z last) e k)

-- WHAT IS LEFT

follows-alone : (x y : Lived) → Onward (x ∷ []) (y ∷ []) → Follows x y
follows-alone x y (same e) = same-follows x y (same_head y x e)
follows-alone x y (on z linked e) = subst (λ (w : Lived). Follows x w) (sym (same_head y z e)) (head Follows x z linked)

pub goes-later : (a b : Alone × List ℕ) → KeepsAlone a b → Follows a.0.live b.0.live
goes-later a b k = follows-alone a.0.live b.0.live k.goes_on.onward
