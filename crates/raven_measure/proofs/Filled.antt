-- The requests with the orders, one order after another.
use Rattle.std.proofs.Common.{◌≡◌, ℕ, suc, ◌+◌, ◌*◌, ◌≤◌, List, [], ◌∷◌, ◌++◌, Bool, true, false, Option, Some, None, length, add-one, append_assoc, sym, ap, ◌∙◌, subst, arith}
use Rattle.std.proofs.lemmas.List.{append-nil, length-append}
use Rattle.std.specs.Prelude.{if◌then◌else◌, ◌%◌, ◌==◌, ◌<◌, ◌-◌, replicate}
use Rattle.spec_measure.specs.Draws.{draw, next}
use Rattle.spec_measure.specs.Orders.{order, order_id}
use Rattle.spec_measure.specs.Requests.{Options, batches, deletions, pumping, requests, requests_with}
use Rattle.spec_server.specs.Requests.{Put, Request}
use Rattle.spec_store.specs.Commit.{AnyVector}
use Rattle.raven_request.specs.declared.request.Request as program
use Rattle.raven_measure.specs.Defining.{requests_view}
use Rattle.raven_measure.specs.Doing.{CatchesUp, Does, Measures, State, Stops, StopsCatchingUp, StopsMeasuring}
use Rattle.raven_measure.specs.declared.making.Stop.{Stop}
use Rattle.raven_measure.specs.declared.making.Stop.TheVariants.{NoMemory as OutOfMemory}
use Rattle.raven_measure.proofs.Doing.{does_more, moved_few, stops_after, stops_at_once, stops_before}

-- ONE ORDER

-- what is asked with the order of this number, which is made of these draws
abbrev requests_of : Options → ℕ → ℕ → List Request
requests_of o n x = Put (order_id n) AnyVector (order (next x) (next (next x)) (next (next (next x)))) ∷ (deletions n ++ batches o n)

-- it is what is asked with the order that follows k others
of_draws : (o : Options) (k x : ℕ) → x ≡ draw o.seed (3 * k) → requests_of o (k + 1) x ≡ requests_with o k
of_draws o k x d = ap (λ n. requests_of o n x) (add-one k) ∙ ap (requests_of o (suc k)) d

-- what was put is the first of them
abbrev IsPut : Request → ℕ → ℕ → Type 0
IsPut r k x = r ≡ Put (order_id (k + 1)) AnyVector (order (next x) (next (next x)) (next (next (next x))))

order_asked : (o : Options) (k x : ℕ) (r : Request) → IsPut r k x → x ≡ draw o.seed (3 * k) → (r ∷ []) ++ (deletions (k + 1) ++ batches o (k + 1)) ≡ requests_with o k
order_asked o k x r is d = ap (λ q. q ∷ (deletions (k + 1) ++ batches o (k + 1))) is ∙ of_draws o k x d

pub does_order : (clock : Option ℕ) (A B C D : State) (o : Options) (k x : ℕ) (r : Request) → IsPut r k x → x ≡ draw o.seed (3 * k) → Does clock A (r ∷ []) B → Does clock B (deletions (k + 1)) C
    → Does clock C (batches o (k + 1)) D → Does clock A (requests_with o k) D
does_order clock A B C D o k x r is d put deleted pumped =
    subst (λ rs. Does clock A rs D) (order_asked o k x r is d)
    (does_more clock A B D (r ∷ []) (deletions (k + 1) ++ batches o (k + 1)) put (does_more clock B C D (deletions (k + 1)) (batches o (k + 1)) deleted pumped))

-- memory ran out before the first of them
pub stops_at_order : (clock : Option ℕ) (A : State) (o : Options) (k : ℕ) → Stops clock A (requests_with o k) A OutOfMemory
stops_at_order clock A o k = stops_at_once clock A _ _

pub stops_at_put : (clock : Option ℕ) (A D : State) (o : Options) (k x : ℕ) (r : Request) (why : Stop) → IsPut r k x → x ≡ draw o.seed (3 * k) → Stops clock A (r ∷ []) D why
    → Stops clock A (requests_with o k) D why
stops_at_put clock A D o k x r why is d s =
    subst (λ rs. Stops clock A rs D why) (order_asked o k x r is d) (stops_before clock A D (r ∷ []) (deletions (k + 1) ++ batches o (k + 1)) why s)

pub stops_at_deletion : (clock : Option ℕ) (A B D : State) (o : Options) (k x : ℕ) (r : Request) (why : Stop) → IsPut r k x → x ≡ draw o.seed (3 * k) → Does clock A (r ∷ []) B
    → Stops clock B (deletions (k + 1)) D why → Stops clock A (requests_with o k) D why
stops_at_deletion clock A B D o k x r why is d put s =
    subst (λ rs. Stops clock A rs D why) (order_asked o k x r is d)
    (stops_after clock A B D (r ∷ []) (deletions (k + 1) ++ batches o (k + 1)) why put (stops_before clock B D (deletions (k + 1)) (batches o (k + 1)) why s))

pub stops_at_batch : (clock : Option ℕ) (A B C D : State) (o : Options) (k x : ℕ) (r : Request) (why : Stop) → IsPut r k x → x ≡ draw o.seed (3 * k) → Does clock A (r ∷ []) B
    → Does clock B (deletions (k + 1)) C → Stops clock C (batches o (k + 1)) D why → Stops clock A (requests_with o k) D why
stops_at_batch clock A B C D o k x r why is d put deleted s =
    subst (λ rs. Stops clock A rs D why) (order_asked o k x r is d)
    (stops_after clock A B D (r ∷ []) (deletions (k + 1) ++ batches o (k + 1)) why put (stops_after clock B C D (deletions (k + 1)) (batches o (k + 1)) why deleted s))

-- each order takes three draws
pub three_more : (seed k x y : ℕ) → x ≡ draw seed (3 * k) → y ≡ next (next (next x)) → y ≡ draw seed (3 * (k + 1))
three_more seed k x y e h =
    let three : suc (suc (suc (3 * k))) ≡ 3 * (k + 1) = omega arith in
    h ∙ ap (λ z. next (next (next z))) e ∙ ap (draw seed) three

-- HOW MANY REQUESTS THERE ARE

one_or_none : (b : Bool) (r : Request) → length (if b then r ∷ [] else []) ≤ 1
one_or_none true r = omega arith
one_or_none false r = omega arith

pub few_deletions : (n : ℕ) → length (deletions n) ≤ 1
few_deletions n = one_or_none (n % 10 == 0) _

pub few_batches : (o : Options) (n : ℕ) → length (batches o n) ≤ 1
few_batches o n = one_or_none (n % 100 == 0) _

few_with : (o : Options) (k : ℕ) → length (requests_with o k) ≤ 3
few_with o k =
    let both = length-append (deletions (suc k)) (batches o (suc k)) in
    let a = few_deletions (suc k) in
    let b = few_batches o (suc k) in
    omega arith

few_requests : (o : Options) (k : ℕ) → length (requests o k) ≤ 3 * k
few_requests o ℕ.zero = omega arith
few_requests o (suc k) =
    let earlier = few_requests o k in
    let with_it = few_with o k in
    let both = length-append (requests o k) (requests_with o k) in
    omega arith

pub few_defined : (d : Option program.Request) → length (requests_view d) ≤ 1
few_defined None = omega arith
few_defined (Some r) = omega arith

-- THE FIRST ORDERS

-- these requests were made first, and then those with so many orders
pub filled_more : (clock : Option ℕ) (o : Options) (k : ℕ) (first : List Request) (A B C : State) → Does clock A (first ++ requests o k) B → Does clock B (requests_with o k) C
    → Does clock A (first ++ requests o (k + 1)) C
filled_more clock o k first A B C d e =
    subst (λ n. Does clock A (first ++ requests o n) C) (sym (add-one k))
    (subst (λ rs. Does clock A rs C) (append_assoc first (requests o k) (requests_with o k)) (does_more clock A B C (first ++ requests o k) (requests_with o k) d e))

pub filled_few : (clock : Option ℕ) (o : Options) (k : ℕ) (d : Option program.Request) (A B : State) → Does clock A (requests_view d ++ requests o k) B → B.moved ≤ A.moved + (1 + 3 * k)
filled_few clock o k d A B h =
    let few = moved_few clock A B (requests_view d ++ requests o k) h in
    let both = length-append (requests_view d) (requests o k) in
    let a = few_defined d in
    let b = few_requests o k in
    omega arith

-- the requests of later orders stand after those of earlier ones
record Earlier (o : Options) (k n : ℕ) : Type 0 where
  pub later : List Request
  pub all : requests o n ≡ requests o k ++ (requests_with o k ++ later)

-- so many more
abbrev up : ℕ → ℕ → ℕ
up ℕ.zero k = k
up (suc more) k = suc (up more k)

up-is : (more k : ℕ) → up more k ≡ more + k
up-is ℕ.zero k = omega arith
up-is (suc more) k = let h = up-is more k in omega arith

earlier_by : (o : Options) (k more : ℕ) → Earlier o k (suc (up more k))
earlier_by o k ℕ.zero = record { later = []; all = ap (λ z. requests o k ++ z) (sym (append-nil (requests_with o k))) }
earlier_by o k (suc more) =
    let e = earlier_by o k more in
    let next = requests_with o (suc (up more k)) in
    record {
      later = e.later ++ next;
      all = ap (λ z. z ++ next) e.all ∙ append_assoc (requests o k) (requests_with o k ++ e.later) next ∙ ap (λ z. requests o k ++ z) (append_assoc (requests_with o k) e.later next);
    }

earlier : (o : Options) (k n : ℕ) → k < n → Earlier o k n
earlier o k n lt = subst (Earlier o k) (let is = up-is (n - suc k) k in let e : suc (up (n - suc k) k) ≡ n = omega arith in e) (earlier_by o k (n - suc k))

-- of those with one of the orders only some were made
pub filled_short : (clock : Option ℕ) (o : Options) (k n : ℕ) (first : List Request) (A B C : State) (why : Stop) → k < n → Does clock A (first ++ requests o k) B
    → Stops clock B (requests_with o k) C why → Stops clock A (first ++ requests o n) C why
filled_short clock o k n first A B C why lt d s =
    let e = earlier o k n lt in
    let all : (first ++ requests o k) ++ (requests_with o k ++ e.later) ≡ first ++ requests o n
    = append_assoc first (requests o k) (requests_with o k ++ e.later) ∙ ap (λ z. first ++ z) (sym e.all) in
    subst (λ rs. Stops clock A rs C why) all
    (stops_after clock A B C (first ++ requests o k) (requests_with o k ++ e.later) why d (stops_before clock B C (requests_with o k) e.later why s))

-- ALL REQUESTS

-- of those with the orders only some were made
pub stops_filling : (clock : Option ℕ) (o : Options) (first : List Request) (A C : State) (why : Stop) → Stops clock A (first ++ requests o o.docs) C why → StopsMeasuring clock o first A C why
stops_filling clock o first A C why s = record {
  more = 0;
  stops = subst (λ rs. Stops clock A rs C why) (append_assoc first (requests o o.docs) []) (stops_before clock A C (first ++ requests o o.docs) [] why s);
}

-- or of the batches that follow
pub stops_pumping : (clock : Option ℕ) (o : Options) (first : List Request) (A B C : State) (why : Stop) → Does clock A (first ++ requests o o.docs) B → StopsCatchingUp clock o B C why
    → StopsMeasuring clock o first A C why
stops_pumping clock o first A B C why d s = record {
  more = s.more;
  stops = subst (λ rs. Stops clock A rs C why) (append_assoc first (requests o o.docs) (replicate s.more (pumping o)))
      (stops_after clock A B C (first ++ requests o o.docs) (replicate s.more (pumping o)) why d s.stops);
}

pub measured : (clock : Option ℕ) (o : Options) (first : List Request) (A B C : State) → Does clock A (first ++ requests o o.docs) B → CatchesUp clock o B C → Measures clock o first A C
measured clock o first A B C d c = record { filled = B; fills = d; catches = c }
