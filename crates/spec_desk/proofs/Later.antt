-- To follow is an order, and a later value has no fewer etags.
use Rattle.std.proofs.Common.{◌≡◌, ◌≤◌, sym, subst, arith}
use Rattle.raven_laws.proofs.WorldLemmas.{LaterW-itself, LaterW-then}
use Rattle.spec_server.specs.Sound.{LaterW}
use Rattle.spec_desk.specs.Lived.{Follows, Lived, etags}

pub Follows-itself : (x : Lived) → Follows x x
Follows-itself x = record { world = LaterW-itself x.world; fronts = omega arith; faults = omega arith }

pub Follows-then : (x y z : Lived) → Follows x y → Follows y z → Follows x z
Follows-then x y z f g = record {
  world = LaterW-then x.world y.world z.world f.world g.world;
  fronts = let a = f.fronts in let b = g.fronts in omega arith;
  faults = let a = f.faults in let b = g.faults in omega arith;
}

pub etags-more : (x y : Lived) → Follows x y → etags x ≤ etags y
etags-more x y f = f.world.store.grown

pub same-follows : (x y : Lived) → y ≡ x → Follows x y
same-follows x y e = subst (λ (z : Lived). Follows x z) (sym e) (Follows-itself x)

-- the world stays
pub stays-follows : (x y : Lived) → y.world ≡ x.world → y.fronts ≡ x.fronts → x.keeper.count ≤ y.keeper.count → Follows x y
stays-follows x y w f n = record { world = subst (λ W. LaterW x.world W) (sym w) (LaterW-itself x.world); fronts = omega arith; faults = n }
