use Rattle.std.proofs.Common.{◌≡◌, ◌∙◌, ap, filter, map, not, subst, sym}
use Rattle.std.proofs.lemmas.Simd.{map-map}
use Rattle.spec_store.specs.Commit.{AnyVector, Delete}
use Rattle.spec_index.specs.Optimiser.{is_retired, retired}
use Rattle.spec_index.specs.World.{NumbersRise, Slot, index_id}
use Rattle.side_by_side.specs.Standing.{Standing}
use Rattle.side_by_side.proofs.Rising.{rise-passing}
use Rattle.side_by_side.proofs.slots.Slots.retire.Goals as goal

pub with_list-requires : goal.with_list-requires
with_list-requires c =
    let slots = c.list-2.result.now in
    subst (λ xs. NumbersRise 0 xs) (sym c.in_ok-kept.ensures) (rise-passing 0 (λ s. not (is_retired slots s)) slots c.list-2.ensures.rising)

pub returns : goal.returns
returns c setting S =
    let own = c.list-2.ensures.slots in
    let names : c.in_ok-names.names.items ≡ map (λ (s : Slot). s.name) (retired c.args.self.now.slots) = c.in_ok-names.ensures ∙ ap (λ xs. map (λ (s : Slot). s.name) (retired xs)) c.list.ensures.slots in
    record {
      slots = ap (λ (s : Standing). s.slots) c.in_ok-slots.ensures ∙ c.in_ok-kept.ensures ∙ ap (λ xs. filter (λ s. not (is_retired xs s)) xs) own;
      notes = ap (λ (s : Standing). s.notes) c.in_ok-slots.ensures;
      commands = c.in_ok-commands.ensures
          ∙ ap (map (λ name. Delete (index_id name) AnyVector)) (c.as_slice.ensures.value ∙ names)
          ∙ map-map (λ name. Delete (index_id name) AnyVector) (λ (s : Slot). s.name) (retired c.args.self.now.slots);
      names = names;
    }
