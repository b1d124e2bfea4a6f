-- A session so far, if its source reports its bytes.
use Rattle.std.proofs.Common.{◌≡◌, ◌≢◌, ℕ, ◌+◌, ◌<◌, ◌==◌, if◌then◌else◌, inl, inr, List, [], ◌++◌, Bool, true, false, Option, Some, None, IfSome, Ok, Err, refl, sym, ap, ◌∙◌, subst}
use Rattle.std.proofs.lemmas.Bool.{ne_eqb}
use Rattle.std.proofs.lemmas.List.{append-nil}
use Rattle.raven_ports.specs.Reported.{appended}
use Rattle.raven_ports.specs.declared.ports.SinkFault.TheVariants as sink_fault
use Rattle.http_read.specs.declared.end.HttpEnd.{HttpEnd}
use Rattle.http_read.specs.declared.end.HttpEnd.TheVariants.{Ended, BadHead, HeadTooLarge, BodyTooLarge, Encoded, BadChunk, Truncated, ReadFault, NoMemory}
use Rattle.http_read.specs.declared.request.HttpRequest.{HttpRequest}
use Rattle.http_read.specs.Requests.{End, IsNext}
use Rattle.http_read.specs.Reading.{unread, IsEnd, RequestCame}
use Rattle.http_session.specs.declared.why.Why.{Why}
use Rattle.http_session.specs.declared.why.Why.TheVariants as why
use Rattle.raven_ports.specs.Given.{GivesPrefix}
use Rattle.http_session.specs.Sessions.{SoFar, start, next, is_last, Answered, Refused, StoppedAtEnd, Unread, Finishes, end_bytes}
use Rattle.http_session.specs.Steps.{Gave, Refuses, Tells}
use Rattle.raven_ports.proofs.Pieces.{appended-appended, appended-nil}

if_some_at : (o : Option (List ℕ)) (P : List ℕ → Type 0) (x : List ℕ) → o ≡ Some x → IfSome o P → P x
if_some_at o P x is h = subst (λ u. IfSome u P) is h

if_some_map : (o : Option (List ℕ)) (P Q : List ℕ → Type 0) → ((x : List ℕ) → P x → Q x) → IfSome o P → IfSome o Q
if_some_map None P Q f h = tt
if_some_map (Some x) P Q f h = f x h

end_says : (end : HttpEnd) (P : HttpEnd → Type 0) → Tells end → IsEnd end P → P end
end_says Ended P a h = h
end_says BadHead P a h = h
end_says HeadTooLarge P a h = h
end_says BodyTooLarge P a h = h
end_says Encoded P a h = h
end_says BadChunk P a h = h
end_says Truncated P a h = h
end_says ReadFault P a h = absurd (a.0 refl)
end_says NoMemory P a h = absurd (a.1 refl)

either : (b c : Bool) → c ≡ true → (if b then true else c) ≡ true
either true c is = refl
either false c is = is

pub last_by_count : (n : ℕ) (close : Bool) → n ≡ 999 → is_last n close ≡ true
last_by_count n close is = ap (λ k. is_last k close) is

pub last_by_request : (n : ℕ) (close : Bool) → close ≡ true → is_last n close ≡ true
last_by_request n close is = either (n == 999) close is

pub not_last : (n : ℕ) (close : Bool) → (n ≡ 999 → ⊥) → close ≡ false → is_last n close ≡ false
not_last n close more is = ap (λ b. if b then true else close) (ne_eqb n 999 more) ∙ is

-- requests were answered so far, and these bytes are before the reader
pub record Runs {D : Type 0} (A : D → HttpRequest → Bool → List ℕ → D → Type 0) (first : D) (held left : Option (List ℕ)) (n : ℕ) (answerer : D) (taken : List ℕ) (behind now : Option (List ℕ)) : Type 0 where
  pub by : (bytes : List ℕ) → left ≡ Some bytes → (written rest : List ℕ) × SoFar A first bytes n written answerer rest × (unread taken behind ≡ Some rest) × (now ≡ appended held written)

pub runs_first : {D : Type 0} (A : D → HttpRequest → Bool → List ℕ → D → Type 0) (first : D) (held left : Option (List ℕ)) → Runs A first held left 0 first [] left held
runs_first A first held left = record { by = λ bytes is. ([], bytes, start, ap (unread []) is, sym (appended-nil held)) }

pub runs_begin : {D : Type 0} (A : D → HttpRequest → Bool → List ℕ → D → Type 0) (first : D) (held left : Option (List ℕ)) (taken : List ℕ) → taken ≡ [] → Runs A first held left 0 first taken left held
runs_begin A first held left taken is = subst (λ t. Runs A first held left 0 first t left held) (sym is) (runs_first A first held left)

module _ {D : Type 0} (A : D → HttpRequest → Bool → List ℕ → D → Type 0) (K : D → D → Type 0) (first : D) (held : Option (List ℕ)) where
  pub runs_next : (left : Option (List ℕ)) (n m : ℕ) (answerer after : D) (taken then_taken : List ℕ) (behind then_behind now then_now : Option (List ℕ)) (request : HttpRequest) (last : Bool)
      → Runs A first held left n answerer taken behind now → IfSome (unread taken behind) (λ rest. RequestCame rest (Ok request) (unread then_taken then_behind))
      → Gave A K answerer request last now (Ok tt) after then_now → last ≡ is_last n request.close → is_last n request.close ≡ false → m ≡ n + 1
      → Runs A first held left m after then_taken then_behind then_now
  runs_next left n m answerer after taken then_taken behind then_behind now then_now request last runs came gave is on count = record {
    by = λ bytes l.
        let r = runs.by bytes l in
        let c = if_some_at (unread taken behind) (λ rest. RequestCame rest (Ok request) (unread then_taken then_behind)) r.1 r.3 came in (
          r.0 ++ gave.0,
          c.0,
          subst (λ k. SoFar A first bytes k (r.0 ++ gave.0) after c.0) (sym count) (next request c.0 gave.0 after r.2 c.1 on (subst (λ l. A answerer request l gave.0 after) (is ∙ on) gave.1)),
          c.2,
          gave.2 ∙ ap (λ o. appended o gave.0) r.4 ∙ appended-appended held r.0 gave.0,
        );
  }

  answered : (left : Option (List ℕ)) (n : ℕ) (answerer after : D) (taken : List ℕ) (behind later now then_now : Option (List ℕ)) (request : HttpRequest) (last : Bool)
      → Runs A first held left n answerer taken behind now → IfSome (unread taken behind) (λ rest. RequestCame rest (Ok request) later) → Gave A K answerer request last now (Ok tt) after then_now
      → last ≡ is_last n request.close → is_last n request.close ≡ true
      → IfSome left (λ bytes. Answered A K first bytes held n after then_now)
  answered None n answerer after taken behind later now then_now request last runs came gave is ends = tt
  answered (Some bytes) n answerer after taken behind later now then_now request last runs came gave is ends =
      let r = runs.by bytes refl in
      let c = if_some_at (unread taken behind) (λ rest. RequestCame rest (Ok request) later) r.1 r.3 came in
      record {
        written = r.0;
        answerer = answerer;
        rest = r.1;
        request = request;
        left = c.0;
        response = gave.0;
        so_far = r.2;
        read = c.1;
        closing = ends;
        asked = subst (λ l. A answerer request l gave.0 after) (is ∙ ends) gave.1;
        given = gave.2 ∙ ap (λ o. appended o gave.0) r.4 ∙ appended-appended held r.0 gave.0;
      }

  pub closes : (left : Option (List ℕ)) (n : ℕ) (answerer after : D) (taken : List ℕ) (behind later now then_now : Option (List ℕ)) (request : HttpRequest) (last : Bool)
      → Runs A first held left n answerer taken behind now → IfSome (unread taken behind) (λ rest. RequestCame rest (Ok request) later) → Gave A K answerer request last now (Ok tt) after then_now
      → last ≡ is_last n request.close → is_last n request.close ≡ true → n < 999
      → IfSome left (λ bytes. Finishes A K first bytes held why.Closed after then_now)
  closes left n answerer after taken behind later now then_now request last runs came gave is ends few =
      if_some_map left (λ bytes. Answered A K first bytes held n after then_now) (λ bytes. Finishes A K first bytes held why.Closed after then_now) (λ bytes x. (n, few, x))
      (answered left n answerer after taken behind later now then_now request last runs came gave is ends)

  pub is_enough : (left : Option (List ℕ)) (n : ℕ) (answerer after : D) (taken : List ℕ) (behind later now then_now : Option (List ℕ)) (request : HttpRequest) (last : Bool)
      → Runs A first held left n answerer taken behind now → IfSome (unread taken behind) (λ rest. RequestCame rest (Ok request) later) → Gave A K answerer request last now (Ok tt) after then_now
      → last ≡ is_last n request.close → is_last n request.close ≡ true → n ≡ 999
      → IfSome left (λ bytes. Finishes A K first bytes held why.Enough after then_now)
  is_enough left n answerer after taken behind later now then_now request last runs came gave is ends full =
      if_some_map left (λ bytes. Answered A K first bytes held n after then_now) (λ bytes. Finishes A K first bytes held why.Enough after then_now) (λ bytes x. subst (λ k. Answered A K first bytes held k after then_now) full x)
      (answered left n answerer after taken behind later now then_now request last runs came gave is ends)

  pub stops : (left : Option (List ℕ)) (n : ℕ) (answerer after : D) (taken : List ℕ) (behind later now then_now : Option (List ℕ)) (request : HttpRequest) (last : Bool)
      → Runs A first held left n answerer taken behind now → IfSome (unread taken behind) (λ rest. RequestCame rest (Ok request) later) → Gave A K answerer request last now (Err sink_fault.Failed) after then_now
      → last ≡ is_last n request.close
      → IfSome left (λ bytes. Finishes A K first bytes held why.WriteFault after then_now)
  stops None n answerer after taken behind later now then_now request last runs came gave is = tt
  stops (Some bytes) n answerer after taken behind later now then_now request last runs came gave is =
      let r = runs.by bytes refl in
      let c = if_some_at (unread taken behind) (λ rest. RequestCame rest (Ok request) later) r.1 r.3 came in
      inl (record {
        n = n;
        written = r.0;
        answerer = answerer;
        rest = r.1;
        request = request;
        left = c.0;
        response = gave.0;
        middle = now;
        so_far = r.2;
        read = c.1;
        asked = subst (λ l. A answerer request l gave.0 after) is gave.1;
        before = r.4;
        given = gave.2;
      })

  pub runs_out : (left : Option (List ℕ)) (n : ℕ) (answerer after : D) (taken : List ℕ) (behind later now then_now : Option (List ℕ)) (request : HttpRequest) (last : Bool)
      → Runs A first held left n answerer taken behind now → IfSome (unread taken behind) (λ rest. RequestCame rest (Ok request) later) → Gave A K answerer request last now (Err sink_fault.NoMemory) after then_now
      → last ≡ is_last n request.close
      → IfSome left (λ bytes. Finishes A K first bytes held why.NoMemory after then_now)
  runs_out None n answerer after taken behind later now then_now request last runs came gave is = tt
  runs_out (Some bytes) n answerer after taken behind later now then_now request last runs came (inl gave) is =
      let r = runs.by bytes refl in
      let c = if_some_at (unread taken behind) (λ rest. RequestCame rest (Ok request) later) r.1 r.3 came in
      inr (inl (record {
        n = n;
        written = r.0;
        answerer = answerer;
        rest = r.1;
        request = request;
        left = c.0;
        so_far = r.2;
        read = c.1;
        kept = gave.0;
        given = gave.1 ∙ r.4;
      }))
  runs_out (Some bytes) n answerer after taken behind later now then_now request last runs came (inr gave) is =
      inr (inr (stops (Some bytes) n answerer after taken behind later now then_now request last runs came gave is))

  pub none_begun : (left : Option (List ℕ)) → IfSome left (λ bytes. Finishes A K first bytes held why.NoMemory first held)
  none_begun None = tt
  none_begun (Some bytes) = inl (record { n = 0; written = []; rest = bytes; so_far = start; given = sym (appended-nil held) })

  unread_more : (bytes : List ℕ) (n : ℕ) (answerer : D) (taken : List ℕ) (behind now then_now : Option (List ℕ)) → Runs A first held (Some bytes) n answerer taken behind now → then_now ≡ now → Unread A K first bytes held answerer then_now
  unread_more bytes n answerer taken behind now then_now runs same = let r = runs.by bytes refl in record { n = n; written = r.0; rest = r.1; so_far = r.2; given = same ∙ r.4 }

  stopped_at_end : (bytes : List ℕ) (n : ℕ) (answerer : D) (taken : List ℕ) (behind later now then_now : Option (List ℕ)) (end : HttpEnd)
      → Runs A first held (Some bytes) n answerer taken behind now → IfSome (unread taken behind) (λ rest. RequestCame rest (Err end) later) → Tells end → GivesPrefix now then_now (end_bytes end)
      → StoppedAtEnd A K first bytes held answerer then_now
  stopped_at_end bytes n answerer taken behind later now then_now end runs came tells given =
      let r = runs.by bytes refl in
      let c = if_some_at (unread taken behind) (λ rest. RequestCame rest (Err end) later) r.1 r.3 came in
      record {
        n = n;
        written = r.0;
        rest = r.1;
        end = end;
        middle = now;
        so_far = r.2;
        read = end_says end (λ x. IsNext r.1 (End x)) tells c;
        before = r.4;
        given = given;
      }

  pub refused : (left : Option (List ℕ)) (n : ℕ) (answerer : D) (taken : List ℕ) (behind later now then_now : Option (List ℕ)) (end : HttpEnd) (w : Why)
      → Runs A first held left n answerer taken behind now → IfSome (unread taken behind) (λ rest. RequestCame rest (Err end) later) → Refuses end now w then_now
      → IfSome left (λ bytes. Finishes A K first bytes held w answerer then_now)
  refused None n answerer taken behind later now then_now end w runs came no_more = tt
  refused (Some bytes) n answerer taken behind later now then_now end why.Ended runs came no_more =
      let r = runs.by bytes refl in
      let c = if_some_at (unread taken behind) (λ rest. RequestCame rest (Err end) later) r.1 r.3 came in
      record {
        n = n;
        written = r.0;
        rest = r.1;
        so_far = r.2;
        read = subst (λ e. IsEnd e (λ x. IsNext r.1 (End x))) no_more.0 c;
        given = no_more.1 ∙ r.4 ∙ ap (appended held) (sym (append-nil r.0));
      }
  refused (Some bytes) n answerer taken behind later now then_now end (why.Http e) runs came no_more =
      let r = runs.by bytes refl in
      let c = if_some_at (unread taken behind) (λ rest. RequestCame rest (Err end) later) r.1 r.3 came in
      subst (λ x. (x ≢ Ended) × Refused A K first bytes held x answerer then_now) (sym no_more.0) (
        no_more.1,
        record {
          n = n;
          written = r.0;
          rest = r.1;
          so_far = r.2;
          read = end_says end (λ x. IsNext r.1 (End x)) no_more.2 c;
          given = no_more.3 ∙ ap (λ o. appended o (end_bytes end)) r.4 ∙ appended-appended held r.0 (end_bytes end);
        },
      )
  refused (Some bytes) n answerer taken behind later now then_now end why.ReadFault runs came no_more = unread_more bytes n answerer taken behind now then_now runs no_more.1
  refused (Some bytes) n answerer taken behind later now then_now end why.WriteFault runs came no_more =
      inr (stopped_at_end bytes n answerer taken behind later now then_now end runs came no_more.0 no_more.1)
  refused (Some bytes) n answerer taken behind later now then_now end why.NoMemory runs came (inl no_more) = inl (unread_more bytes n answerer taken behind now then_now runs no_more.1)
  refused (Some bytes) n answerer taken behind later now then_now end why.NoMemory runs came (inr no_more) =
      inr (inr (inr (stopped_at_end bytes n answerer taken behind later now then_now end runs came no_more.0 no_more.1)))
  refused (Some bytes) n answerer taken behind later now then_now end why.Closed runs came no_more = absurd no_more
  refused (Some bytes) n answerer taken behind later now then_now end why.Enough runs came no_more = absurd no_more
