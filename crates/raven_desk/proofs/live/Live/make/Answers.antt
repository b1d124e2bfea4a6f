use Rattle.std.proofs.Common.{subst}
use Rattle.spec_desk.specs.Keepers.{IsKept}
use Rattle.raven_desk.proofs.Changes.{is_past, keeps_change, on_err, rises}
use Rattle.raven_desk.proofs.live.Live.make.Goals as goal

pub keep-requires-clause-rising : goal.keep-requires-clause-rising
keep-requires-clause-rising g c = rises c.args.self.now c.args.change c.requires.rows

pub keep-requires-clause-past : goal.keep-requires-clause-past
keep-requires-clause-past g c =
    is_past c.self.inside.world (g.K.Keeper.state c.self.inside.keeper) c.self.inside.fronts c.args.self.now c.args.change c.self.view_is c.self.invariant c.requires.rows

pub invariant_of-self-2 : goal.invariant_of-self-2
invariant_of-self-2 g c =
    let before = g.K.Keeper.state c.self.inside.keeper in
    let after = g.K.Keeper.state c.keep.new.keeper in
    keeps_change c.self.inside.world before after c.self.inside.fronts c.args.self.now c.args.change c.into_world.result c.self.view_is c.self.invariant c.requires.rows c.requires.sound
    (subst (IsKept before after c.args.change.rows c.args.change.cleans) c.if-not-branch.false c.in_ok-keep.ensures.asked) c.into_world.ensures

pub returns-in_err-keep-clause-asks : goal.returns-in_err-keep-clause-asks
returns-in_err-keep-clause-asks g c = on_err c.from_residual.result _ c.in_err-keep.ensures.asks
