-- The response to an end, all or a prefix of it.
use Rattle.std.proofs.Common.{◌≡◌, ◌≢◌, ℕ, List, [], Option, Some, None, Result, Ok, Err, OnOk, OnErr, inl, inr, refl, sym, ap, ◌∙◌, subst}
use Rattle.std.specs.Prelude.{⊤}
use Rattle.raven_ports.specs.Reported.{appended}
use Rattle.raven_ports.specs.declared.ports.SinkFault.{SinkFault}
use Rattle.raven_ports.specs.declared.ports.SinkFault.TheVariants as sink_fault
use Rattle.http_read.specs.declared.end.HttpEnd.{HttpEnd}
use Rattle.http_read.specs.declared.end.HttpEnd.TheVariants.{Ended, BadHead, HeadTooLarge, BodyTooLarge, Encoded, BadChunk, Truncated, ReadFault, NoMemory}
use Rattle.spec_http.specs.Answers.{response_to_end}
use Rattle.http_session.specs.declared.why.Why.TheVariants as why
use Rattle.raven_ports.specs.Given.{GivesPrefix}
use Rattle.http_session.specs.Sessions.{end_bytes, or_nothing}
use Rattle.http_session.specs.Steps.{NamesEnd, Refuses, Tells, why_after, why_silent}
use Rattle.raven_ports.proofs.Pieces.{appended-nil}

-- an end with a response is one of the bytes, and not the end of the source
record Loud (end : HttpEnd) : Type 0 where
  more : end ≢ Ended
  tells : Tells end

loud : (end : HttpEnd) → response_to_end end ≢ None → Loud end
loud Ended some = absurd (some refl)
loud BadHead some = record { more = λ e. cc; tells = (λ e. cc, λ e. cc) }
loud HeadTooLarge some = record { more = λ e. cc; tells = (λ e. cc, λ e. cc) }
loud BodyTooLarge some = record { more = λ e. cc; tells = (λ e. cc, λ e. cc) }
loud Encoded some = record { more = λ e. cc; tells = (λ e. cc, λ e. cc) }
loud BadChunk some = record { more = λ e. cc; tells = (λ e. cc, λ e. cc) }
loud Truncated some = absurd (some refl)
loud ReadFault some = absurd (some refl)
loud NoMemory some = absurd (some refl)

pub silent : (end : HttpEnd) (now : Option (List ℕ)) → response_to_end end ≡ None → Refuses end now (why_silent end) now
silent Ended now none = (refl, refl)
silent BadHead now none = absurd cc
silent HeadTooLarge now none = absurd cc
silent BodyTooLarge now none = absurd cc
silent Encoded now none = absurd cc
silent BadChunk now none = absurd cc
silent Truncated now none = (refl, (λ e. cc), (λ e. cc, λ e. cc), sym (appended-nil now))
silent ReadFault now none = (refl, refl)
silent NoMemory now none = inl (refl, refl)

pub no_response : (end : HttpEnd) (now : Option (List ℕ)) → response_to_end end ≢ None → Refuses end now why.NoMemory now
no_response end now some = inr ((loud end some).tells, record { prefix = []; rest = end_bytes end; split = refl; given = sym (appended-nil now) })

some_is : (end : HttpEnd) (text : List ℕ) → response_to_end end ≡ Some text → response_to_end end ≢ None
some_is end text is none = cc

pub last_given : (end : HttpEnd) (text : List ℕ) (r : Result ⊤ SinkFault) (old new : Option (List ℕ)) → response_to_end end ≡ Some text → OnOk r (new ≡ appended old text) → OnErr r (GivesPrefix old new text)
    → Refuses end old (why_after end r) new
last_given end text (Ok _) old new is all part = let l = loud end (some_is end text is) in (refl, l.more, l.tells, all ∙ ap (appended old) (sym (ap or_nothing is)))
last_given end text (Err sink_fault.Failed) old new is all part = ((loud end (some_is end text is)).tells, subst (λ o. GivesPrefix old new (or_nothing o)) (sym is) part)
last_given end text (Err sink_fault.NoMemory) old new is all part = inr ((loud end (some_is end text is)).tells, subst (λ o. GivesPrefix old new (or_nothing o)) (sym is) part)

pub silent_names : (end : HttpEnd) → response_to_end end ≡ None → NamesEnd (why_silent end)
silent_names Ended none = tt
silent_names BadHead none = absurd cc
silent_names HeadTooLarge none = absurd cc
silent_names BodyTooLarge none = absurd cc
silent_names Encoded none = absurd cc
silent_names BadChunk none = absurd cc
silent_names Truncated none = (λ e. cc, (λ e. cc, λ e. cc))
silent_names ReadFault none = tt
silent_names NoMemory none = tt

pub last_names : (end : HttpEnd) (text : List ℕ) (r : Result ⊤ SinkFault) → response_to_end end ≡ Some text → NamesEnd (why_after end r)
last_names end text (Ok _) is = let l = loud end (some_is end text is) in (l.more, l.tells)
last_names end text (Err sink_fault.Failed) is = tt
last_names end text (Err sink_fault.NoMemory) is = tt

pub ruleset refusing = (silent, no_response, last_given, silent_names, last_names)
