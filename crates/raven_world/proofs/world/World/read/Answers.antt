use Rattle.std.proofs.Common.{◌∙◌, ap, sym}
use Rattle.std.specs.Prelude.{option_copied}
use Rattle.spec_index.specs.World.{Slot, World, batch, serving}
use Rattle.raven_world.proofs.world.World.read.Goals as goal

pub returns-clause-read : goal.returns-clause-read
returns-clause-read g c = record {
  slot = c.in-Some.slot.now;
  serves = ap (λ (W : World). serving W.slots c.args.index.now) (sym c.self.view_is) ∙ sym c.serving.ensures ∙ ap option_copied c.in-Some.is;
  read = record {
    number = ap (λ (s : Slot). s.number) c.slot.view_is;
    from = c.etag_of.ensures;
    version = c.in_ok-version.ensures.version ∙ ap (λ (W : World). batch c.in-Some.slot.now.version W.store c.args.max) c.self.view_is;
    named = c.in_ok-version.ensures.named;
  };
}
