-- When a reading is refused.
use Rattle.std.specs.Prelude.{◌≡◌, Option, None, Result, Err}
use Rattle.spec_data.specs.Json as is
use Rattle.raven_json.specs.declared.decode.JsonRefusal.{JsonRefusal}
use Rattle.raven_json.specs.declared.decode.JsonRefusal.TheVariants.{NotJson, NumberNotWhole, TooDeep, NoMemory}

-- each refusal is that of the reading; only NoMemory may come at any time
abbrev pub Refuses : {A : Type 0} → JsonRefusal → Result A is.JsonRefusal → Type 0
Refuses NoMemory reading = Unit {0}
Refuses NotJson reading = reading ≡ Err is.not_json
Refuses NumberNotWhole reading = reading ≡ Err is.number_not_whole
Refuses TooDeep reading = reading ≡ Err is.too_deep

-- a number is refused only if there is nothing to convert to; only NoMemory may come at any time
abbrev pub Fails : {A : Type 0} → JsonRefusal → Option A → Type 0
Fails NoMemory found = Unit {0}
Fails NotJson found = ⊥
Fails NumberNotWhole found = found ≡ None
Fails TooDeep found = ⊥
