-- The reply that says why what is asked is refused.
use Rattle.std.proofs.Common.{◌≡◌, Option, Some, None, Result, Ok, Err, IfOk, refl, subst}
use Rattle.spec_data.specs.Faults.{Fault}
use Rattle.spec_server.specs.Replies.{Reply}
use Rattle.spec_server.specs.Words.{BadId, BadName, LineRead, ReadRefusal}
use Rattle.spec_server.specs.Texts.{Asked}
use Rattle.spec_server.specs.Script.{fault_reply, refusal_reply}
use Rattle.raven_lines.specs.Lines.{Comes}
use Rattle.raven_request.specs.RequestRead.{IsRefusal}
use Rattle.raven_request.specs.RequestView.{IsBadId, IsBadName}

pub refused_as : (asked : Asked) (read : LineRead) (refusal : ReadRefusal) (reply : Reply) → Comes asked read → read ≡ Err refusal → reply ≡ refusal_reply refusal → IsRefusal asked reply
refused_as asked read refusal reply comes is reply_is = record { refusal = refusal; comes = subst (Comes asked) is comes; reply_is = reply_is }

pub refused_id : (asked : Asked) (got : LineRead) (fault : Option Fault) (reply : Reply) → Comes asked got → IsBadId fault got → ((f : Fault) → fault ≡ Some f → reply ≡ fault_reply f) → IsRefusal asked reply
refused_id asked got None reply comes h of_fault = absurd h
refused_id asked got (Some f) reply comes h of_fault = refused_as asked got (BadId f) reply comes h (of_fault f refl)

pub refused_name : (asked : Asked) (got : LineRead) (fault : Option Fault) (reply : Reply) → Comes asked got → IsBadName fault got → ((f : Fault) → fault ≡ Some f → reply ≡ fault_reply f) → IsRefusal asked reply
refused_name asked got None reply comes h of_fault = absurd h
refused_name asked got (Some f) reply comes h of_fault = refused_as asked got (BadName f) reply comes h (of_fault f refl)

-- what holds of a result holds of it as something that follows
pub if_ok : {T E : Type 0} (r : Result T E) (P Q : T → Type 0) → ((t : T) → P t → Q t) → IfOk r P → IfOk r Q
if_ok (Ok t) P Q f h = f t h
if_ok (Err e) P Q f h = tt

pub ruleset refusals = (refused_as, refused_id, refused_name)
