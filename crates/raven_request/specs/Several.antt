-- The texts of an index of several maps.
use Rattle.std.specs.Prelude.{◌≡◌, ◌≤◌, None, length, map}
use Rattle.spec_data.specs.Faults.{fault_of, max_name}
use Rattle.spec_server.specs.Several.{part_name}
use Rattle.spec_server.specs.Texts as read_texts
use Rattle.raven_request.specs.declared.several.SeveralTexts.{SeveralTexts}

abbrev pub several_view : SeveralTexts → read_texts.SeveralTexts
several_view t = record { name = t.name.now; maps = map (λ m. m.now) t.maps.items; reduce = t.reduce.now }

-- the first part has a valid name, and there are at most eight
pub record AreFit (t : read_texts.SeveralTexts) : Type 0 where
  pub name : fault_of max_name (part_name t.name 1) ≡ None
  pub few : length t.maps ≤ 8
