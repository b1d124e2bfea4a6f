-- A field that is put into an entry of the program.
use Rattle.std.proofs.Common.{◌≡◌, List, map, ap, ◌∙◌}
use Rattle.spec_data.specs.Rising.{IsRising, put}
use Rattle.spec_data.proofs.MemberLemmas.{rising_seen, rising_unseen, put_seen}
use Rattle.raven_value.specs.ScalarView.{scalar_view}
use Rattle.raven_value.specs.declared.scalar.Scalar.{Scalar}
use Rattle.raven_value.specs.declared.text.Text.{Text}
use Rattle.map_stage.specs.FieldView.{field_view}

pub rising_items : (xs : List (Text × Scalar)) → IsRising (map field_view xs) → IsRising xs
rising_items xs h = rising_unseen scalar_view xs h

pub rising_fields : (xs : List (Text × Scalar)) → IsRising xs → IsRising (map field_view xs)
rising_fields xs h = rising_seen scalar_view xs h

pub fields_put : (old new : List (Text × Scalar)) (k : Text) (v : Scalar) → new ≡ put k v old → map field_view new ≡ put k (scalar_view v) (map field_view old)
fields_put old new k v e = ap (λ (xs : List (Text × Scalar)). map field_view xs) e ∙ put_seen scalar_view k v old

pub ruleset fields = (rising_items, rising_fields, fields_put)
