-- What a reading gives, by the tests that the program makes of the bytes.
use Rattle.std.proofs.Common.{◌≡◌, ℕ, List, Bool, true, false, Option, Some, None, Result, Ok, Err, ap, ◌∙◌, IfOk, IfErr, IsUtf8, refl}
use Rattle.std.specs.Prelude.{if◌then◌else◌}
use Rattle.std.specs.Str.{is_utf8}
use Rattle.std.proofs.lemmas.Str.{is_utf8-from_IsUtf8, IsUtf8-from_is_utf8}
use Rattle.std.proofs.lemmas.Result.{IfOk-weaker, IfErr-weaker}
use Rattle.serde_json.specs.Data.{Data}
use Rattle.serde_json.specs.Read as json
use Rattle.spec_data.specs.Data as own
use Rattle.raven_value.specs.View.{data_of}
use Rattle.raven_value.specs.declared.value.Value.{Value}
use Rattle.spec_data.specs.Json as is
use Rattle.spec_data.specs.Json.{value_of, whole, or_refusal, reading, not_json, number_not_whole}
use Rattle.raven_json.specs.Refusal.{Refuses, Fails}
use Rattle.spec_data.specs.Scan.{is_too_deep, outside}
use Rattle.raven_json.specs.declared.decode.JsonRefusal.{JsonRefusal}
use Rattle.raven_json.specs.declared.decode.JsonRefusal.TheVariants.{NotJson, NumberNotWhole, TooDeep, NoMemory}

pub is_json : (bytes : List ℕ) (d : Data) → is_too_deep outside 0 bytes ≡ false → IsUtf8 bytes → json.read bytes ≡ Some d → reading bytes ≡ or_refusal number_not_whole (value_of d)
is_json bytes d f u r = rw (f, is_utf8-from_IsUtf8 bytes u, r)

at_utf8 : (b : Bool) (o : Option Data) → (b ≡ true → o ≡ None) → whole (if b then o else None) ≡ Err not_json
at_utf8 true o h = ap whole (h refl)
at_utf8 false o h = refl

pub is_no_json : (bytes : List ℕ) → is_too_deep outside 0 bytes ≡ false → (IsUtf8 bytes → json.read bytes ≡ None) → reading bytes ≡ Err not_json
is_no_json bytes f h = rw f (at_utf8 (is_utf8 bytes) (json.read bytes) (λ u. h (IsUtf8-from_is_utf8 bytes u)))

pub ok_of : (r : Result Value JsonRefusal) (read : Result own.Data is.JsonRefusal) (d : Data) → read ≡ or_refusal number_not_whole (value_of d) → IfOk r (λ v. value_of d ≡ Some (data_of v)) → IfOk r (λ v. read ≡ Ok (data_of v))
ok_of r read d e h = IfOk-weaker r _ _ (λ v k. e ∙ ap (or_refusal number_not_whole) k) h

refuses : (e : JsonRefusal) (read : Result own.Data is.JsonRefusal) (d : Data) → read ≡ or_refusal number_not_whole (value_of d) → Fails e (value_of d) → Refuses e read
refuses NoMemory read d e h = tt
refuses NotJson read d e h = absurd h
refuses NumberNotWhole read d e h = e ∙ ap (or_refusal number_not_whole) h
refuses TooDeep read d e h = absurd h

pub err_of : (r : Result Value JsonRefusal) (read : Result own.Data is.JsonRefusal) (d : Data) → read ≡ or_refusal number_not_whole (value_of d) → IfErr r (λ e. Fails e (value_of d)) → IfErr r (λ e. Refuses e read)
err_of r read d e h = IfErr-weaker r _ _ (λ x k. refuses x read d e k) h

pub never : {A : Type 0} → (A → false ≡ true) → A → ⊥
never h a = let e : false ≡ true = h a in cc
