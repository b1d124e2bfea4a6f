-- Sessions that come to their end if no device fails and there is memory.
use Rattle.std.specs.Prelude.{◌≡◌, ℕ, ◌+◌, true, false, List, Some, Ok}
use Rattle.spec_data.specs.Kept.{KeptRow}
use Rattle.raven_ports.specs.Faults.{Rose}
use Rattle.http_read.specs.declared.end.HttpEnd.TheVariants.{Ended}
use Rattle.http_read.specs.declared.request.HttpRequest.{HttpRequest}
use Rattle.http_read.specs.Requests.{End, IsNext, Request}
use Rattle.http_session.specs.Sessions.{is_last}
use Rattle.index_lang.specs.Openings.{IsOpened}
use Rattle.spec_server.specs.Courses.{Machine}
use Rattle.spec_server.specs.Options.{setting_with}
use Rattle.http_desk.specs.ProgramSessions.{Session}
use Rattle.http_desk.specs.declared.serving.ServeEnd.{ServeEnd}
use Rattle.http_desk.specs.declared.serving.ServeEnd.TheVariants.{Done, Enough, NoMemory}

-- These bytes, after so many requests, are requests up to one that ends the session, or up to their end.
pub data ComesToEnd : ℕ → List ℕ → Type 0 where
  ends : {n : ℕ} {bytes : List ℕ} → IsNext bytes (End Ended) → ComesToEnd n bytes
  closes : {n : ℕ} {bytes : List ℕ} (request : HttpRequest) (left : List ℕ) → IsNext bytes (Request request left) → is_last n request.close ≡ true → ComesToEnd n bytes
  goes_on : {n : ℕ} {bytes : List ℕ} (request : HttpRequest) (left : List ℕ) → IsNext bytes (Request request left) → is_last n request.close ≡ false → ComesToEnd (n + 1) left → ComesToEnd n bytes

-- the input comes to its end so, and the stored rows open; both devices report these
pub record IsValid (s : Session) : Type 0 where
  pub bytes : List ℕ
  pub input : s.before.input.left ≡ Some bytes
  pub comes : ComesToEnd 0 bytes
  pub rows : List KeptRow
  pub kept : s.before.keeper.held ≡ Some rows
  pub machine : Machine
  pub opens : IsOpened (setting_with s.base) rows (Ok machine)

-- no count of faults rose
pub record HasNoFault (s : Session) : Type 0 where
  pub input : ¬ Rose s.before.input.faults s.after.input.faults
  pub output : ¬ Rose s.before.output.faults s.after.output.faults
  pub keeper : ¬ Rose s.before.keeper.count s.after.keeper.count

-- all requests were answered, or memory ran out
abbrev pub IsFinished : ServeEnd → Type 0
IsFinished Done = Unit {0}
IsFinished Enough = Unit {0}
IsFinished NoMemory = Unit {0}
IsFinished other = ⊥
