-- What is true of all that was answered over HTTP.
use Rattle.std.proofs.Common.{◌≡◌, ◌≢◌, ℕ, ◌+◌, ◌==◌, List, [], ◌∷◌, ◌++◌, Bool, true, false, Option, IfSome, refl, sym, ap, ◌∙◌, subst}
use Rattle.std.specs.Prelude.{All, MatchBool}
use Rattle.std.proofs.lemmas.List.Elements.{All-cons, All-nil}
use Rattle.spec_server.specs.Requests.{Do, Event, Request}
use Rattle.spec_server.specs.Machine.{run}
use Rattle.spec_server.specs.Replies.{Reply}
use Rattle.spec_server.specs.Sound.{IsMachine, Sound}
use Rattle.raven_laws.proofs.AnswerLemmas.{Sound-fresh, Sound-ids}
use Rattle.raven_laws.proofs.FlagLemmas.{Sound-flags}
use Rattle.raven_laws.proofs.MachineLemmas.{run-append}
use Rattle.raven_laws.proofs.MatchLemmas.{Sound-exact}
use Rattle.raven_laws.proofs.ServedLemmas.{step-served}
use Rattle.raven_laws.proofs.WorkerLemmas.{publish-answered, read-answered}
use Rattle.spec_desk.specs.Keepers.{keeping}
use Rattle.spec_desk.specs.Lived.{Follows, Lived, Seen, machine_in}
use Rattle.spec_desk.specs.Receipts.{IsTrueReceipt, Look, MakesBatches, Waits}
use Rattle.spec_desk.specs.Stepped.{IsStepAt}
use Rattle.spec_desk.proofs.Later.{Follows-itself, Follows-then, same-follows}
use Rattle.spec_desk.proofs.Onwards.{head}
use Rattle.http_session.specs.Sessions.{Finishes}
use Rattle.http_session.specs.declared.why.Why.{Why}
use Rattle.http_session.specs.declared.why.Why.TheVariants as why
use Rattle.raven_desk.specs.Desks.{Alone}
use Rattle.http_desk.specs.Chains.{AnswersAlone, Chain, Found, Given, IsChained, KeepsAlone, Leads}
use Rattle.http_desk.specs.ProgramSessions.{Session, desk_of}
use Rattle.http_desk.proofs.Chained as alone
use Rattle.turn_desk.specs.Seated.{Seated, seated}
use Rattle.raven_run.specs.Truth.{AnswersTruly}
use Rattle.raven_serve.specs.Finishing.{Server}
use Rattle.raven_serve.specs.Fronts.{AnswersSeated, KeepsSeated}
use Rattle.raven_serve.specs.Receipts.{Receipts}
use Rattle.raven_serve.specs.Standing.{shots_of}
use Rattle.raven_serve.proofs.Goings.{goes_later}
use Rattle.raven_serve.proofs.Receiving as seated_receipts
use Rattle.raven_console.specs.Truth.{AllLookTruly, ChainsTruly, HasTrueReceipts, IsTrueBetween, LooksTruly, ServerIsTrue, SessionIsTrue}

-- A SOUND WORLD

answers-truly : (x : Lived) → Sound x.world → AnswersTruly (machine_in x)
answers-truly x sound =
    let M = machine_in x in
    let is : IsMachine M = record { world = sound; held = λ h has. absurd has } in
    record {
      sound = is;
      flags = Sound-flags M sound;
      fresh = Sound-fresh M sound;
      exact = Sound-exact M sound;
      ids = Sound-ids M sound;
      served = λ k now line. step-served M k now line is;
      reads = λ k now worker max name. read-answered M k now worker max name;
      publishes = λ k now worker. publish-answered M k now worker;
    }

-- LOOKS, in a value that follows x

module _ (Link : Lived → Lived → Type 0) (to : (a b : Lived) → Link a b → Follows a b) (x : Lived) where
  look_true : (clock : Option ℕ) (q : Request) (y found left : Lived) (s : Seen) (reply : Reply) → Follows x y → Look Link clock q y found s reply left → LooksTruly x s
  look_true clock q y found left s reply f l = subst (λ (t : Seen). LooksTruly x t) (sym l.shown) ((Follows-then x y found f (to y found l.link)).world, answers-truly found l.sound)

  look_on : (clock : Option ℕ) (q : Request) (y found left : Lived) (s : Seen) (reply : Reply) → Follows x y → Look Link clock q y found s reply left → Follows x left
  look_on clock q y found left s reply f l = Follows-then x found left (Follows-then x y found f (to y found l.link)) l.later

  waits_true : (clock : Option ℕ) (q : Request) (y : Lived) (earlier : List Seen) (z : Lived) (n : ℕ) → Follows x y → Waits Link clock q y earlier z n → All (LooksTruly x) earlier × Follows x z
  waits_true clock q y [] z n f w = (All-nil (LooksTruly x), subst (λ (v : Lived). Follows x v) (sym w.0) f)
  waits_true clock q y (s ∷ more) z n f w =
      let rest = waits_true clock q w.1 more z w.3 (look_on clock q y w.0 w.1 s w.2 f w.4) w.6 in
      (All-cons (LooksTruly x) s more (look_true clock q y w.0 w.1 s w.2 f w.4) rest.0, rest.1)

  receipt_true : (clock : Option ℕ) (y left : Lived) (g : Given) (n : ℕ) → Follows x y → IsTrueReceipt Link clock g.request y g.receipt left n → All (LooksTruly x) (shots_of g.receipt) × Follows x left
  receipt_true clock y left g n f t =
      let w = waits_true clock g.request y g.receipt.earlier t.before t.took f t.waits in (
        All-cons (LooksTruly x) g.receipt.shot g.receipt.earlier (look_true clock g.request t.before t.found left g.receipt.shot g.receipt.reply w.1 t.last) w.0,
        look_on clock g.request t.before t.found left g.receipt.shot g.receipt.reply w.1 t.last,
      )

-- A SERVER

all_true : (x : Lived) (clock : Option ℕ) (y : Lived) (given : List Given) (seen : List Lived) (n : ℕ) → Follows x y → Receipts clock (y ∷ []) given seen n → AllLookTruly x given
all_true x clock y [] seen n f h = All-nil (λ (g : Given). All (LooksTruly x) (shots_of g.receipt))
all_true x clock y (g ∷ more) seen n f h =
    let l = h.3 in
    let r = receipt_true Follows (λ a b i. i) x clock l.first l.left g h.1 (Follows-then x y l.first f (head Follows y l.first l.after)) l.receipt in
    All-cons (λ (k : Given). All (LooksTruly x) (shots_of k.receipt)) g more r.0
    (all_true x clock l.left more seen h.2 r.1 (subst (λ (s : List Lived). Receipts clock s more seen h.2) l.now_seen h.4))

session-true : (x : Lived) (d last : Seated × List ℕ) (bytes : List ℕ) (held now : Option (List ℕ)) (how : Why) → (z : Lived) × (d.0.pass.seen ≡ z ∷ []) × Follows x z → how ≢ why.NoMemory
    → Finishes AnswersSeated KeepsSeated d bytes held how last now → HasTrueReceipts x d.0 last.0
session-true x d last bytes held now how at some h =
    let has = seated_receipts.finished d bytes held how last now some h in
    record { has = has; truly = all_true x d.0.moment at.0 has.given last.0.pass.seen has.took at.2 (subst (λ (s : List Lived). Receipts d.0.moment s has.given last.0.pass.seen has.took) at.1 has.receipts) }

pub server-true : (s : Server) → ServerIsTrue s
server-true s = record {
  truth = λ x y failed before after served calls d last between left chain call bytes some reports.
      session-true x d last bytes call.serves.found.sink.held call.serves.left.sink.held call.why (goes_later calls (seated served.pass s.clock, s.name) before d between x chain served.seen) some
      (subst (λ (o : Option (List ℕ)). IfSome o (λ b. Finishes AnswersSeated KeepsSeated d b call.serves.found.sink.held call.why last call.serves.left.sink.held)) reports call.serves.session.served);
}

-- A SESSION OVER THE DESK OF ONE CALLER

-- the machine comes from one state to another by some events
abbrev Comes : Lived → Lived → Type 0
Comes x y = (events : List Event) × (machine_in y ≡ run events (machine_in x))

comes-none : (x y : Lived) → y ≡ x → Comes x y
comes-none x y e = ([], ap machine_in e)

comes-then : (x y z : Lived) → Comes x y → Comes y z → Comes x z
comes-then x y z a b = (a.0 ++ b.0, b.1 ∙ ap (run b.0) a.1 ∙ sym (run-append a.0 b.0 (machine_in x)))

comes-step : (clock : Option ℕ) (q : Request) (x : Lived) (reply : Reply) (y : Lived) → IsStepAt clock q x reply y → Comes x y
comes-step clock q x reply y s = (record { line = Do q; now = s.0; keeping = keeping s.2.takes x.keeper y.keeper } ∷ [], s.2.machine)

comes-look : (clock : Option ℕ) (q : Request) (x found : Lived) (s : Seen) (reply : Reply) (y : Lived) → Look Found clock q x found s reply y → Comes x y
comes-look clock q x found s reply y l = subst (λ (z : Lived). Comes z y) l.link (comes-step clock q found reply y l.step)

comes-waits : (clock : Option ℕ) (q : Request) (x : Lived) (earlier : List Seen) (y : Lived) (n : ℕ) → Waits Found clock q x earlier y n → Comes x y
comes-waits clock q x [] y n w = comes-none x y w.0
comes-waits clock q x (s ∷ more) y n w = comes-then x w.1 y (comes-look clock q x w.0 s w.2 w.1 w.4) (comes-waits clock q w.1 more y w.3 w.6)

comes-batches : (clock : Option ℕ) (pump : ℕ) (none : Bool) (x y : Lived) → MatchBool none (y ≡ x) (MakesBatches clock pump x y) → Comes x y
comes-batches clock pump true x y e = comes-none x y e
comes-batches clock pump false x y m = comes-then x m.between y (comes-step clock _ x m.pumped m.between m.batch) (comes-step clock _ m.between m.tidied y m.tidy)

comes-lead : (clock : Option ℕ) (pump : ℕ) (x : Lived) (g : Given) (y : Lived) (n : ℕ) → Leads clock pump x g y n → Comes x y
comes-lead clock pump x g y n l =
    let t = l.receipt in
    comes-then x l.left y (comes-then x t.before l.left (comes-waits clock g.request x g.receipt.earlier t.before t.took t.waits) (comes-look clock g.request t.before t.found g.receipt.shot g.receipt.reply l.left t.last))
    (comes-batches clock pump (pump == 0) l.left y l.caught_up)

comes-chain : (clock : Option ℕ) (pump : ℕ) (x : Lived) (given : List Given) (y : Lived) (n : ℕ) → Chain clock pump x given y n → Comes x y
comes-chain clock pump x [] y n c = comes-none x y c.0
comes-chain clock pump x (g ∷ more) y n c = comes-then x c.0 y (comes-lead clock pump x g c.0 c.1 c.3) (comes-chain clock pump c.0 more y c.2 c.4)

-- what was found is what was there
found : (a b : Lived) → Found a b → Follows a b
found a b e = same-follows a b e

chain-true : (x : Lived) (clock : Option ℕ) (pump : ℕ) (y : Lived) (given : List Given) (z : Lived) (n : ℕ) → Follows x y → Chain clock pump y given z n → AllLookTruly x given × Follows x z
chain-true x clock pump y [] z n f c = (All-nil (λ (g : Given). All (LooksTruly x) (shots_of g.receipt)), subst (λ (v : Lived). Follows x v) (sym c.0) f)
chain-true x clock pump y (g ∷ more) z n f c =
    let r = receipt_true Found found x clock y c.3.left g c.3.took f c.3.receipt in
    let rest = chain-true x clock pump c.0 more z c.2 (Follows-then x c.3.left c.0 r.1 c.3.later) c.4 in
    (All-cons (λ (k : Given). All (LooksTruly x) (shots_of k.receipt)) g more r.0 rest.0, rest.1)

-- the state on which a request was asked is sound
waits-sound : (clock : Option ℕ) (q : Request) (x : Lived) (earlier : List Seen) (y : Lived) (n : ℕ) → Waits Found clock q x earlier y n → Sound y.world → Sound x.world
waits-sound clock q x [] y n w sound = subst (λ (z : Lived). Sound z.world) w.0 sound
waits-sound clock q x (s ∷ more) y n w sound = subst (λ (z : Lived). Sound z.world) w.4.link w.4.sound

asked-sound : (clock : Option ℕ) (pump : ℕ) (x : Lived) (given : List Given) (y : Lived) (n : ℕ) → Chain clock pump x given y n → Sound y.world → Sound x.world
asked-sound clock pump x [] y n c sound = subst (λ (z : Lived). Sound z.world) c.0 sound
asked-sound clock pump x (g ∷ more) y n c sound =
    let t = c.3.receipt in
    waits-sound clock g.request x g.receipt.earlier t.before t.took t.waits (subst (λ (z : Lived). Sound z.world) t.last.link t.last.sound)

-- a chain is cut in two
pub record Cut (clock : Option ℕ) (pump : ℕ) (x : Lived) (earlier later : List Given) (y : Lived) : Type 0 where
  pub between : Lived
  pub took : ℕ
  pub takes : ℕ
  pub before : Chain clock pump x earlier between took
  pub after : Chain clock pump between later y takes

cut-at : (clock : Option ℕ) (pump : ℕ) (x : Lived) (earlier later : List Given) (y : Lived) (n : ℕ) → Chain clock pump x (earlier ++ later) y n → Cut clock pump x earlier later y
cut-at clock pump x [] later y n c = record { between = x; took = 0; takes = n; before = (refl, refl); after = c }
cut-at clock pump x (g ∷ earlier) later y n c =
    let rest = cut-at clock pump c.0 earlier later y c.2 c.4 in
    record { between = rest.between; took = c.1 + rest.took; takes = rest.takes; before = (c.0, c.1, rest.took, c.3, rest.before, refl); after = rest.after }

true-between : (clock : Option ℕ) (pump : ℕ) (x : Lived) (earlier later : List Given) (y : Lived) (n : ℕ) → Chain clock pump x (earlier ++ later) y n → Sound y.world → IsTrueBetween clock pump x earlier later y
true-between clock pump x earlier later y n c sound =
    let k = cut-at clock pump x earlier later y n c in
    let first = chain-true x clock pump x earlier k.between k.took (Follows-itself x) k.before in
    let second = chain-true k.between clock pump k.between later y k.takes (Follows-itself k.between) k.after in
    let reached = comes-chain clock pump x earlier k.between k.took k.before in
    record {
      between = k.between;
      took = k.took;
      takes = k.takes;
      before = k.before;
      after = k.after;
      events = reached.0;
      state = reached.1;
      truly = answers-truly k.between (asked-sound clock pump k.between later y k.takes k.after sound);
      since = first.1.world;
      onward = second.1.world;
      looks = first.0;
    }

chains-truly : (first last : Alone) → IsChained first last → Sound last.live.world → ChainsTruly first last
chains-truly first last c sound = record {
  chained = c;
  truly = λ earlier later cut. true-between first.moment first.pump first.live earlier later last.live c.took (subst (λ (l : List Given). Chain first.moment first.pump first.live l last.live c.took) cut c.chain) sound;
}

pub session-is-true : (s : Session) → SessionIsTrue s
session-is-true s = record {
  truth = λ how served bytes some reports. chains-truly (desk_of s served.first).0 (desk_of s served.last).0
      (alone.finished (desk_of s served.first) bytes s.before.output.held how (desk_of s served.last) s.after.output.held some
      (subst (λ (o : Option (List ℕ)). IfSome o (λ b. Finishes AnswersAlone KeepsAlone (desk_of s served.first) b s.before.output.held how (desk_of s served.last) s.after.output.held)) reports served.finishes))
      served.holds.sound.world;
}

pub ruleset truths = (session-is-true, server-true)
