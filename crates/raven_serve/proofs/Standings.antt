-- What becomes of the rows that a desk of a turn has seen.
use Rattle.std.proofs.Common.{◌≡◌, ℕ, List, [], ◌∷◌, Some, Option, sym, subst}
use Rattle.std.specs.Prelude.{All}
use Rattle.std.proofs.lemmas.List.Elements.{All-cons, All-nil}
use Rattle.spec_data.specs.Rows.{Row}
use Rattle.spec_store.specs.Store.{row_at}
use Rattle.spec_server.specs.Requests.{Request}
use Rattle.spec_server.specs.Replies.{Reply}
use Rattle.spec_server.specs.Sound.{Sound}
use Rattle.raven_laws.specs.Cleaning.{Stands}
use Rattle.raven_laws.proofs.CleaningLemmas.{rows-Stand}
use Rattle.spec_desk.specs.Lived.{Follows, Lived, Seen, seen_of}
use Rattle.spec_desk.specs.Receipts.{AllLink, IsTrueReceipt, Look, Waits}
use Rattle.spec_desk.proofs.Later.{Follows-itself, Follows-then}
use Rattle.spec_desk.proofs.Onwards.{head}
use Rattle.http_desk.specs.Chains.{Given}
use Rattle.raven_serve.specs.Receipts.{Leads, Receipts}
use Rattle.raven_serve.specs.Standing.{AllShow, shots_of}

-- in a value that follows
pub stands : (x y : Lived) (q : List ℕ) (r : Row) → Sound x.world → Follows x y → row_at q x.world.store.rows ≡ Some r → Stands y.world.store q r
stands x y q r o f e = rows-Stand x.world.store y.world.store q r o.store f.world.store e

-- a row of a sound value
module _ (x : Lived) (q : List ℕ) (r : Row) (o : Sound x.world) (there : row_at q x.world.store.rows ≡ Some r) where
  abbrev Shows : Seen → Type 0
  Shows s = Stands s.world.store q r

  -- in a look where a value was seen last that follows it
  shows : (clock : Option ℕ) (request : Request) (y found left : Lived) (s : Seen) (reply : Reply) → Follows x y → Look Follows clock request y found s reply left → Shows s
  shows clock request y found left s reply f l = subst Shows (sym l.shown) (stands x found q r o (Follows-then x y found f l.link) there)

  goes : (clock : Option ℕ) (request : Request) (y found left : Lived) (s : Seen) (reply : Reply) → Follows x y → Look Follows clock request y found s reply left → Follows x left
  goes clock request y found left s reply f l = Follows-then x found left (Follows-then x y found f l.link) l.later

  -- in the looks of a query that waits
  wait : (clock : Option ℕ) (request : Request) (y : Lived) (earlier : List Seen) (z : Lived) (n : ℕ) → Follows x y → Waits Follows clock request y earlier z n → All Shows earlier × Follows x z
  wait clock request y [] z n f w = (All-nil Shows, subst (λ (v : Lived). Follows x v) (sym w.0) f)
  wait clock request y (s ∷ more) z n f w =
      let rest = wait clock request w.1 more z w.3 (goes clock request y w.0 w.1 s w.2 f w.4) w.6 in
      (All-cons Shows s more (shows clock request y w.0 w.1 s w.2 f w.4) rest.0, rest.1)

  -- in those of one request
  lead : (clock : Option ℕ) (y : Lived) (g : Given) (seen' : List Lived) (n : ℕ) → Follows x y → Leads clock (y ∷ []) g seen' n → All Shows (shots_of g.receipt) × (z : Lived) × (seen' ≡ z ∷ []) × Follows x z
  lead clock y g seen' n f l =
      let t = l.receipt in
      let first = Follows-then x y l.first f (head Follows y l.first l.after) in
      let w = wait clock g.request l.first g.receipt.earlier t.before t.took first t.waits in (
        All-cons Shows g.receipt.shot g.receipt.earlier (shows clock g.request t.before t.found l.left g.receipt.shot g.receipt.reply w.1 t.last) w.0,
        l.left,
        l.now_seen,
        goes clock g.request t.before t.found l.left g.receipt.shot g.receipt.reply w.1 t.last,
      )

  all_lead : (clock : Option ℕ) (y : Lived) (given : List Given) (seen' : List Lived) (n : ℕ) → Follows x y → Receipts clock (y ∷ []) given seen' n → AllShow given q r
  all_lead clock y [] seen' n f h = All-nil (λ (g : Given). All Shows (shots_of g.receipt))
  all_lead clock y (g ∷ more) seen' n f h =
      let l = lead clock y g h.0 h.1 f h.3 in
      All-cons (λ (k : Given). All Shows (shots_of k.receipt)) g more l.0 (all_lead clock l.1 more seen' h.2 l.3 (subst (λ (s : List Lived). Receipts clock s more seen' h.2) l.2 h.4))

-- in those of all requests of a session
pub sessions : (clock : Option ℕ) (x : Lived) (given : List Given) (seen' : List Lived) (n : ℕ) (q : List ℕ) (r : Row) → Sound x.world → Receipts clock (x ∷ []) given seen' n
    → row_at q x.world.store.rows ≡ Some r → AllShow given q r
sessions clock x given seen' n q r o h e = all_lead x q r o e clock x given seen' n (Follows-itself x) h
