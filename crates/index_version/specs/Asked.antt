-- What the map is asked for, and what it gives.
use Rattle.std.specs.Prelude.{◌≡◌, Option, IfOk, option_map}
use Rattle.spec_data.specs.Folding.{folded}
use Rattle.spec_data.specs.Rows.{Row}
use Rattle.spec_data.specs.Tables.{Table}
use Rattle.index_tree.specs.Meaning.{Mapped}
use Rattle.index_tree.specs.Mapper.{Mapper}
use Rattle.index_version.specs.Kept.{Given, given_at}
use Rattle.index_version.specs.declared.asking.Asked.{Asked}

-- what a map gives for a document
abbrev pub given_by : (Row → Mapped) → Row → Given
given_by meaning d = record { id = d.id; mapped = meaning d }

-- what it gives for the document that is asked about, if there is one
abbrev pub given_about : (Row → Mapped) → Asked → Option Given
given_about meaning a = option_map (λ about. given_by meaning about.0.now) a.about

-- the document of the id is asked about, if it is mapped
abbrev pub IsQuestion : Mapper → Table → Asked → Type 0
IsQuestion m T a = given_about (λ d. m.meaning d T) a ≡ given_at m T (folded a.id.now)

-- the same id, with what the map gives for the document that was asked about
abbrev pub IsAnswer : (Row → Mapped) → Asked → Asked → Type 0
IsAnswer meaning before after = (after.id.now ≡ before.id.now) × IfOk after.given (λ given. given ≡ given_about meaning before)

-- it has what the map gives for the id
abbrev pub IsAnswered : Mapper → Table → Asked → Type 0
IsAnswered m T a = IfOk a.given (λ given. given ≡ given_at m T (folded a.id.now))
