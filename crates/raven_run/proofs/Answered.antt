-- What is written for a line, and what it leaves, by what it means.
use Rattle.std.proofs.Common.{◌≡◌, ℕ, List, [], Option, Some, None, Ok, Err, inl, inr, refl, ap, ◌∙◌, subst}
use Rattle.std.specs.Prelude.{option_map}
use Rattle.spec_data.specs.Kept.{KeptRow}
use Rattle.spec_server.specs.Requests.{Do, Line as LineIs, Request}
use Rattle.spec_server.specs.Courses.{Machine}
use Rattle.spec_server.specs.Replies.{Reply, printed}
use Rattle.spec_server.specs.Words.{LineRead}
use Rattle.spec_server.specs.Texts.{asked_of}
use Rattle.spec_server.specs.Script.{left_by, written_for}
use Rattle.spec_server.specs.WellFormed.{IsWellFormed}
use Rattle.raven_lines.specs.Lines.{IsLine}
use Rattle.raven_ports.specs.Asking.{Asked}
use Rattle.raven_ports.specs.States.{KeeperState}
use Rattle.raven_reading.proofs.Formed.{line-formed}
use Rattle.raven_request.specs.RequestRead.{IsRefusal}
use Rattle.raven_script.specs.LineView.{Answers, line_view}
use Rattle.raven_script.specs.declared.request.Line.{Line}
use Rattle.raven_run.specs.Answering.{IsAnswered, IsCut, IsCutAt, IsHandled}
use Rattle.raven_run.specs.Devices.{circumstance, tasks_in}

-- nothing was asked of the keeper
unasked : (line : List ℕ) (now : ℕ) (before after : KeeperState) (M N : Machine) (text : List ℕ) (read : LineRead) → IsLine line read → after ≡ before → N ≡ M
    → text ≡ written_for M (circumstance now [] before after) read → M ≡ left_by M (circumstance now [] before after) read → [] ≡ tasks_in M now read → IsAnswered line now before after M N text
unasked line now before after M N text read means same still t m r = record {
  read = read;
  takes = [];
  means = means;
  reply = t;
  machine = still ∙ m;
  asked = subst (λ all. Asked before after [] all) r (refl, same);
}

pub answers-refused : (line : List ℕ) (now : ℕ) (before after : KeeperState) (M N : Machine) (text : List ℕ) (reply : Reply) → IsRefusal (asked_of line) reply → text ≡ printed reply → after ≡ before → N ≡ M
    → IsAnswered line now before after M N text
answers-refused line now before after M N text reply h t same still = unasked line now before after M N text (Err h.refusal) h.comes same still (t ∙ ap printed h.reply_is) refl refl

pub answers-none : (line : List ℕ) (now : ℕ) (before after : KeeperState) (M N : Machine) (text : List ℕ) → IsLine line (Ok None) → text ≡ [] → after ≡ before → N ≡ M → IsAnswered line now before after M N text
answers-none line now before after M N text means t same still = unasked line now before after M N text (Ok None) means same still t refl refl

-- the line asks for this
asks : (line : List ℕ) (found : Option Line) (one : Line) → found ≡ Some one → Answers (asked_of line) (Ok found) → IsLine line (Ok (Some (line_view one)))
asks line found one is h = subst (λ (o : Option Line). IsLine line (Ok (option_map line_view o))) is h

pub formed_as : (line : List ℕ) (found : Option Line) (one : Line) → found ≡ Some one → Answers (asked_of line) (Ok found) → IsWellFormed (line_view one)
formed_as line found one is h = line-formed line (line_view one) (asks line found one is h)

-- and it was done
pub answers-as : (line : List ℕ) (now : ℕ) (before after : KeeperState) (M N : Machine) (text : List ℕ) (found : Option Line) (one : Line) → found ≡ Some one → Answers (asked_of line) (Ok found)
    → IsHandled (line_view one) now before after M N text → IsAnswered line now before after M N text
answers-as line now before after M N text found one is h done = record {
  read = Ok (Some (line_view one));
  takes = done.takes;
  means = asks line found one is h;
  reply = done.reply;
  machine = done.machine;
  asked = done.asked;
}

-- or memory ran out
pub cut-as : (line : List ℕ) (now : ℕ) (M : Machine) (keeper : KeeperState) (N : Machine) (held : Option (List KeptRow)) (found : Option Line) (one : Line) → found ≡ Some one
    → Answers (asked_of line) (Ok found) → IsCut (λ (q : Request). line_view one ≡ Do q) now M keeper N held → IsCutAt line now M keeper N held
cut-as line now M keeper N held found one is h (inl same) = inl same
cut-as line now M keeper N held found one is h (inr part) =
    inr (record {
      request = part.request;
      asked = subst (λ (l : LineIs). IsLine line (Ok (Some l))) part.asked (asks line found one is h);
      several = part.several;
      part = part.part;
      workers = part.workers;
    })

pub ruleset answers = (answers-refused, answers-none)
