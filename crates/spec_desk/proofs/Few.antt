-- A request makes one change at most, unless it is one of those that make several.
use Rattle.std.proofs.Common.{◌≡◌, ℕ, ◌≤◌, false, length, sym, subst}
use Rattle.spec_index.specs.World.{World}
use Rattle.spec_server.specs.Requests.{Request, makes_several}
use Rattle.spec_server.specs.Courses.{Course}
use Rattle.spec_server.specs.Machine.{course_of}
use Rattle.raven_laws.proofs.Acts.{one-at-most}

pub few : (c : Course) (W : World) (now : ℕ) (request : Request) → makes_several request ≡ false → c ≡ course_of W now request → length c.changes ≤ 1
few c W now request one is = subst (λ (d : Course). length d.changes ≤ 1) (sym is) (one-at-most W now request one)
