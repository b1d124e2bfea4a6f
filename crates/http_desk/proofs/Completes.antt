-- If no count of faults rises, a valid session comes to its end.
use Rattle.std.proofs.Common.{◌≡◌, ◌≢◌, ℕ, ◌+◌, List, true, false, Option, IfSome, Ok, Err, ap, subst}
use Rattle.spec_data.specs.Kept.{KeptRow}
use Rattle.http_read.specs.declared.end.HttpEnd.{HttpEnd}
use Rattle.http_read.specs.declared.end.HttpEnd.TheVariants.{Ended}
use Rattle.http_read.specs.declared.request.HttpRequest.{HttpRequest}
use Rattle.http_read.specs.Requests.{End, IsNext, Request}
use Rattle.http_read.proofs.OneAnswer.{next_one}
use Rattle.http_session.specs.Sessions.{Finishes, SoFar, start, next, is_last}
use Rattle.http_session.specs.declared.why.Why.TheVariants as why
use Rattle.raven_reading.proofs.Once.{held_once}
use Rattle.spec_server.specs.Options.{setting_with}
use Rattle.raven_desk.specs.Desks.{Alone}
use Rattle.raven_desk.specs.Openings.{IsBad}
use Rattle.http_desk.specs.Chains.{AnswersAlone, KeepsAlone}
use Rattle.http_desk.specs.ProgramSessions.{EndsSo, Serves, Session, desk_of}
use Rattle.http_desk.specs.Completeness.{ComesToEnd, ends, closes, goes_on, HasNoFault, IsFinished, IsValid}
use Rattle.http_desk.specs.declared.serving.ServeEnd.{ServeEnd}
use Rattle.http_desk.specs.declared.serving.ServeEnd.TheVariants as is

not_both : (request : HttpRequest) (left : List ℕ) (end : HttpEnd) → Request request left ≡ End end → ⊥
not_both request left end e = absurd cc

same_request : (a b : HttpRequest) (k l : List ℕ) → Request a k ≡ Request b l → a ≡ b
same_request a b k l e = cc

same_left : (a b : HttpRequest) (k l : List ℕ) → Request a k ≡ Request b l → k ≡ l
same_left a b k l e = cc

not_last : (n : ℕ) (a b : HttpRequest) → a ≡ b → is_last n a.close ≡ true → is_last n b.close ≡ false → ⊥
not_last n a b e here gone = let same : is_last n a.close ≡ is_last n b.close = ap (λ (r : HttpRequest). is_last n r.close) e in absurd cc

-- after a request that does not end the session
past : (n : ℕ) (bytes : List ℕ) (request : HttpRequest) (left : List ℕ) → IsNext bytes (Request request left) → is_last n request.close ≡ false → ComesToEnd n bytes → ComesToEnd (n + 1) left
past n bytes request left read on (ends none) = absurd (not_both request left Ended (next_one bytes (Request request left) (End Ended) read none))
past n bytes request left read on (closes other behind came last) =
    absurd (not_last n other request (same_request other request behind left (next_one bytes (Request other behind) (Request request left) came read)) last on)
past n bytes request left read on (goes_on other behind came more rest) =
    subst (λ (k : List ℕ). ComesToEnd (n + 1) k) (same_left other request behind left (next_one bytes (Request other behind) (Request request left) came read)) rest

-- and after all that were answered so far
comes-on : (first : Alone × List ℕ) (bytes : List ℕ) (n : ℕ) (written : List ℕ) (last : Alone × List ℕ) (rest : List ℕ) → SoFar AnswersAlone first bytes n written last rest → ComesToEnd 0 bytes → ComesToEnd n rest
comes-on first bytes n written last rest start c = c
comes-on first bytes n written last rest (next {n = m} {written = before} {answerer = a} {rest = behind} request left response after so_far read on answers) c =
    past m behind request rest read on (comes-on first bytes m before a behind so_far c)

not_end : (n : ℕ) (bytes : List ℕ) (end : HttpEnd) → end ≢ Ended → IsNext bytes (End end) → ComesToEnd n bytes → ⊥
not_end n bytes end other read (ends none) = other (let same : End end ≡ End Ended = next_one bytes (End end) (End Ended) read none in cc)
not_end n bytes end other read (closes request left came last) = not_both request left end (next_one bytes (Request request left) (End end) came read)
not_end n bytes end other read (goes_on request left came more rest) = not_both request left end (next_one bytes (Request request left) (End end) came read)

-- so the bytes are not refused
not_refused : (s : Session) (end : HttpEnd) → IsValid s → Serves (why.Http end) s → ⊥
not_refused s end v h =
    let f = subst (λ (left : Option (List ℕ)). IfSome left (λ bytes. Finishes AnswersAlone KeepsAlone (desk_of s h.first) bytes s.before.output.held (why.Http end) (desk_of s h.last) s.after.output.held)) v.input h.finishes in
    not_end f.1.n f.1.rest end f.0 f.1.read (comes-on (desk_of s h.first) v.bytes f.1.n f.1.written (desk_of s h.last) f.1.rest f.1.so_far v.comes)

not_bad : (s : Session) (etag : ℕ) → IsValid s → IsBad (setting_with s.base) s.before.keeper.held etag → ⊥
not_bad s etag v b =
    let bad = subst (λ (h : Option (List KeptRow)). IsBad (setting_with s.base) h etag) v.kept b in
    absurd (let once = held_once (setting_with s.base) v.rows (Ok v.machine) (Err etag) v.opens bad in cc)

pub completes : (s : Session) (end : ServeEnd) → EndsSo end s → IsValid s → HasNoFault s → IsFinished end
completes s is.Done h v n = tt
completes s is.Enough h v n = tt
completes s is.NoMemory h v n = tt
completes s is.ReadFault h v n = absurd (n.input h.0)
completes s is.WriteFault h v n = absurd (n.output h.0)
completes s is.KeptFault h v n = absurd (n.keeper h.1)
completes s (is.KeptBad etag) h v n = absurd (not_bad s etag v h.1)
completes s (is.Refused end) h v n = absurd (not_refused s end v h.1)
