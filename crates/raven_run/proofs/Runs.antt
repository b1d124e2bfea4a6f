-- Lines that are answered one after another.
use Rattle.std.proofs.Common.{◌≡◌, ℕ, ◌<◌, List, [], ◌∷◌, ◌++◌, Option, IfSome, refl, ap, sym, ◌∙◌, append_assoc, subst}
use Rattle.std.proofs.lemmas.List.{append-nil}
use Rattle.spec_data.specs.Moments.{moments_end}
use Rattle.raven_ports.specs.Asking.{Asked}
use Rattle.raven_ports.specs.Reported.{appended}
use Rattle.raven_ports.specs.States.{KeeperState, SinkState}
use Rattle.spec_server.specs.Lines.{lines}
use Rattle.spec_server.specs.Courses.{Machine}
use Rattle.spec_server.specs.Script.{Given, reply_to, replies_to, after_line, after_lines}
use Rattle.raven_run.specs.Answering.{IsAnswered, IsCutAt}
use Rattle.spec_desk.specs.Keepers.{MayGive}
use Rattle.raven_run.specs.Devices.{AreGiven, IsGiven, given, tasks_in}
use Rattle.raven_ports.specs.Given.{GivesPrefix}
use Rattle.raven_run.specs.Answers.{Answers, ServerState, StopsBefore, StopsIn, texts_of}
use Rattle.raven_ports.proofs.Pieces.{appended-appended, appended-nil}

replies_to-after : (done : List Given) (line : Given) (M : Machine) → replies_to (done ++ line ∷ []) M ≡ replies_to done M ++ reply_to line (after_lines done M)
replies_to-after [] line M = append-nil (reply_to line M)
replies_to-after (l ∷ ls) line M =
    ap (λ z. reply_to l M ++ z) (replies_to-after ls line (after_line l M)) ∙ sym (append_assoc (reply_to l M) (replies_to ls (after_line l M)) (reply_to line (after_lines ls (after_line l M))))

after_lines-after : (done : List Given) (line : Given) (M : Machine) → after_lines (done ++ line ∷ []) M ≡ after_line line (after_lines done M)
after_lines-after [] line M = refl
after_lines-after (l ∷ ls) line M = after_lines-after ls line (after_line l M)

texts_of-after : (done : List Given) (line : Given) (more : List (List ℕ)) → texts_of (done ++ line ∷ []) ++ more ≡ texts_of done ++ line.line ∷ more
texts_of-after [] line more = refl
texts_of-after (l ∷ ls) line more = ap (λ z. l.line ∷ z) (texts_of-after ls line more)

one_more_given : (clock : Option ℕ) (before at after : KeeperState) (M : Machine) (done : List Given) (line : Given) → AreGiven clock before at M done
    → IsGiven clock at after (after_lines done M) line → AreGiven clock before after M (done ++ line ∷ [])
one_more_given clock before at after M [] line e c = (after, (let P : KeeperState → Type 0 = λ k. IsGiven clock k after M line in subst P e c), refl)
one_more_given clock before at after M (l ∷ ls) line h c = (h.0, h.1, one_more_given clock h.0 at after (after_line l M) ls line h.2 c)

-- some lines were answered, and the rest is left
pub record HasRun (clock : Option ℕ) (script : List ℕ) (before at : ServerState) (rest : List ℕ) : Type 0 where
  pub done : List Given
  pub split : lines script ≡ texts_of done ++ lines rest
  pub given : AreGiven clock before.keeper at.keeper before.machine done
  pub written : at.output.held ≡ appended before.output.held (replies_to done before.machine)
  pub left : at.machine ≡ after_lines done before.machine

-- the line that was answered
pub record Answered (clock : Option ℕ) (at after : ServerState) (line : List ℕ) (moment : ℕ) (reply : List ℕ) : Type 0 where
  pub moment_is : MayGive clock moment
  pub answer : IsAnswered line moment at.keeper after.keeper at.machine after.machine reply

pub answered : (clock : Option ℕ) (at after : ServerState) (line : List ℕ) (moment : ℕ) (reply : List ℕ) → moment < moments_end → IfSome clock (λ m. moment ≡ m)
    → IsAnswered line moment at.keeper after.keeper at.machine after.machine reply → Answered clock at after line moment reply
answered clock at after line moment reply b s a = record { moment_is = record { below = b; still = s }; answer = a }

-- the line as it was given, to a machine that is the one before it
line_given : (clock : Option ℕ) (at after : ServerState) (M : Machine) (line : List ℕ) (moment : ℕ) (reply : List ℕ) → at.machine ≡ M
    → (a : Answered clock at after line moment reply) → IsGiven clock at.keeper after.keeper M (given line a.answer.read moment a.answer.takes at.keeper after.keeper)
line_given clock at after M line moment reply e a = record {
  line = line;
  read = a.answer.read;
  now = moment;
  takes = a.answer.takes;
  is = refl;
  means = a.answer.means;
  moment = a.moment_is;
  asked = let P : Machine → Type 0 = λ x. Asked at.keeper after.keeper a.answer.takes (tasks_in x moment a.answer.read) in subst P e a.answer.asked;
}

pub starts : (clock : Option ℕ) (script : List ℕ) (state : ServerState) → HasRun clock script state state script
starts clock script state = record { done = []; split = refl; given = refl; written = sym (appended-nil state.output.held); left = refl }

pub runs_on : (clock : Option ℕ) (script : List ℕ) (before at after : ServerState) (rest line more : List ℕ) (moment : ℕ) (reply : List ℕ)
    → HasRun clock script before at rest → lines rest ≡ line ∷ lines more → Answered clock at after line moment reply → after.output.held ≡ appended at.output.held reply
    → HasRun clock script before after more
runs_on clock script before at after rest line more moment reply h l a k =
    let g : Given = given line a.answer.read moment a.answer.takes at.keeper after.keeper in
    let M : Machine = before.machine in
    record {
      done = h.done ++ g ∷ [];
      split = h.split ∙ ap (λ z. texts_of h.done ++ z) l ∙ sym (texts_of-after h.done g (lines more));
      given = one_more_given clock before.keeper at.keeper after.keeper M h.done g h.given (line_given clock at after (after_lines h.done M) line moment reply h.left a);
      written = k ∙ ap (λ z. appended z reply) h.written ∙ appended-appended before.output.held (replies_to h.done M) reply
          ∙ ap (λ z. appended before.output.held (replies_to h.done M ++ z)) (a.answer.reply ∙ ap (reply_to g) h.left) ∙ ap (appended before.output.held) (sym (replies_to-after h.done g M));
      left = a.answer.machine ∙ ap (after_line g) h.left ∙ sym (after_lines-after h.done g M);
    }

pub runs_out : (clock : Option ℕ) (script : List ℕ) (before at : ServerState) (rest : List ℕ) → HasRun clock script before at rest → rest ≡ [] → Answers clock script before at
runs_out clock script before at rest h e =
    record { all = h.done; split = h.split ∙ ap (λ z. texts_of h.done ++ lines z) e ∙ append-nil (texts_of h.done); given = h.given; written = h.written; executed = h.left }

pub stops_in : (clock : Option ℕ) (script : List ℕ) (before at after : ServerState) (rest line : List ℕ) (more : List (List ℕ)) (moment : ℕ) (reply : List ℕ)
    → HasRun clock script before at rest → lines rest ≡ line ∷ more → Answered clock at after line moment reply → GivesPrefix at.output.held after.output.held reply
    → StopsIn clock script before after
stops_in clock script before at after rest line more moment reply h l a k =
    let g : Given = given line a.answer.read moment a.answer.takes at.keeper after.keeper in
    let M : Machine = before.machine in
    record {
      done = h.done;
      line = g;
      more = more;
      part = k.prefix;
      rest = k.rest;
      split = h.split ∙ ap (λ z. texts_of h.done ++ z) l ∙ sym (texts_of-after h.done g more);
      piece = ap (reply_to g) (sym h.left) ∙ sym a.answer.reply ∙ k.split;
      given = one_more_given clock before.keeper at.keeper after.keeper M h.done g h.given (line_given clock at after (after_lines h.done M) line moment reply h.left a);
      written = k.given ∙ ap (λ z. appended z k.prefix) h.written ∙ appended-appended before.output.held (replies_to h.done M) k.prefix;
      executed = a.answer.machine ∙ ap (after_line g) h.left ∙ sym (after_lines-after h.done g M);
    }

pub stops_before : (clock : Option ℕ) (script : List ℕ) (before at after : ServerState) (rest line : List ℕ) (more : List (List ℕ)) (moment : ℕ) → HasRun clock script before at rest
    → lines rest ≡ line ∷ more → MayGive clock moment → IsCutAt line moment at.machine at.keeper after.machine after.keeper.held → after.output ≡ at.output → StopsBefore clock script before after
stops_before clock script before at after rest line more moment h l m cut w = record {
  done = h.done;
  line = line;
  more = more;
  split = h.split ∙ ap (λ z. texts_of h.done ++ z) l;
  reached = at.keeper;
  given = h.given;
  now = moment;
  moment = m;
  cut = subst (λ (M : Machine). IsCutAt line moment M at.keeper after.machine after.keeper.held) h.left cut;
  written = ap (λ (z : SinkState). z.held) w ∙ h.written;
}

pub ruleset steps = (starts, answered, runs_on, runs_out)
