-- The members of a query.
use Rattle.std.proofs.Common.{◌≡◌, ◌∙◌, ℕ, List, [], ◌∷◌, Some, Result, Ok, Bool, true, false, refl, sym, ap, subst, codes}
use Rattle.std.specs.Prelude.{if◌then◌else◌}
use Rattle.std.specs.Str.{bytes_eq}
use Rattle.std.proofs.lemmas.Slice.Eq.{bytes_eq-Decides}
use Rattle.spec_data.specs.Data.{entries_of}
use Rattle.spec_data.specs.Members.{member}
use Rattle.spec_data.specs.Rising.{Pairs, without}
use Rattle.spec_data.proofs.MemberLemmas.{pairs_of-entries_of}
use Rattle.spec_server.specs.Words.{then_read}
use Rattle.spec_server.specs.Texts.{asking_with, beside_in, parameters_member}
use Rattle.raven_request.specs.RequestView.{Reads, asking_view}
use Rattle.raven_request.proofs.Readings.{bad_member, refused_on}
use Rattle.raven_request.specs.declared.query.Asking as program
use Rattle.raven_request.specs.declared.request.ReadRefusal.{ReadRefusal}

-- MEMBERS

pub ruleset parameters = (bad_member, pairs_of-entries_of)

-- a member is still there where one of another name is taken out
pub member-without : (k name : List ℕ) (ms : Pairs) → bytes_eq k name ≡ false → member k (entries_of (without name ms)) ≡ member k (entries_of ms)
member-without k name [] other = refl
member-without k name (m ∷ ms) other = by (bytes_eq name m.0) refl (member-without k name ms other)
  where
    by : (t : Bool) → bytes_eq name m.0 ≡ t → member k (entries_of (without name ms)) ≡ member k (entries_of ms)
        → member k (entries_of (if t then ms else m ∷ without name ms)) ≡ member k (entries_of (m ∷ ms))
    by true same further = sym (ap (λ u. if u then Some m.1 else member k (entries_of ms)) (ap (bytes_eq k) (sym ((bytes_eq-Decides name m.0).0 same)) ∙ other))
    by false same further = ap (λ r. if bytes_eq k m.0 then Some m.1 else r) further

-- the parameters are no longer among the members
pub asking-without : (parameters : Pairs) (ms left : Pairs) → left ≡ without (codes "QueryParameters") ms → asking_with parameters (entries_of left) ≡ asking_with parameters (entries_of ms)
asking-without parameters ms left out =
    ap (λ l. asking_with parameters (entries_of l)) out
    ∙ rw (still (codes "Start") refl, still (codes "PageSize") refl, still (codes "CutoffEtag") refl, still (codes "WaitForNonStaleResults") refl, still (codes "Looks") refl) refl
  where
    still : (k : List ℕ) → bytes_eq k (codes "QueryParameters") ≡ false → member k (entries_of (without (codes "QueryParameters") ms)) ≡ member k (entries_of ms)
    still k other = member-without k (codes "QueryParameters") ms other

-- so what is read of the members that are left is what was read of all
pub beside-read : (ms left parameters : Pairs) (result : Result program.Asking ReadRefusal) → left ≡ without (codes "QueryParameters") ms
    → parameters_member (member (codes "QueryParameters") (entries_of ms)) ≡ Ok parameters → Reads asking_view result (asking_with parameters (entries_of left))
    → Reads asking_view result (beside_in (entries_of ms))
beside-read ms left parameters result out is h =
    subst (λ r. Reads asking_view result r)
    (asking-without parameters ms left out ∙ sym (ap (λ r. then_read r (λ p. asking_with p (entries_of ms))) is)) h

pub ruleset beside = (beside-read, refused_on)
