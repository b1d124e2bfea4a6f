use Rattle.std.proofs.Common.{sym, subst}
use Rattle.spec_index.specs.World.{NumbersRise}
use Rattle.side_by_side.specs.Naming.{AreNamedAs}
use Rattle.side_by_side.proofs.Names.{version-named}
use Rattle.side_by_side.proofs.slots.Slots.with_version.Goals as goal

pub all_with_version-requires : goal.all_with_version-requires
all_with_version-requires c =
    let v = c.args.version.value in
    let slots = c.args.self.now.slots in
    subst (λ xs. AreNamedAs c.args.number v.name xs) (sym c.list.ensures.slots)
    (version-named slots c.args.number v.name v.version (subst (λ xs. NumbersRise 0 xs) c.list.ensures.slots c.list.ensures.rising) c.requires)
