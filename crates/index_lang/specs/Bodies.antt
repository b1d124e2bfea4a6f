-- The members of a body that reads as a definition.
use Rattle.std.specs.Borrow.{Bor}
use Rattle.std.specs.Prelude.{ℕ, List, Bool, true, false, ◌==◌, if◌then◌else◌, Option, Some, None, codes, option_map}
use Rattle.spec_data.specs.Members.{member}
use Rattle.index_tree.specs.Definitions.{Texts}
use Rattle.spec_server.specs.Opening.{BodyForm, NoForm, auto_read, dividing, form_of, is_part, is_two, reduce_form, reduce_read, texts_read}
use Rattle.spec_data.specs.Data.{Data, Entries, text}

-- the text, if it is a part of a path
abbrev pub part_in : Data → Option (List ℕ)
part_in (text t) = if is_part t then Some t else None
part_in other = None

-- the texts of a map and of a reduce, if there is one, behind these references
abbrev pub texts_behind : Bor (List ℕ) × Option (Bor (List ℕ)) → Texts
texts_behind texts = (texts.0.now, option_map (λ t. t.now) texts.1)

-- whether it is there and says the second version
abbrev pub says_two : Option Data → Bool
says_two None = false
says_two (Some version) = is_two version

-- what a body says, if that is what its members say beside the version; only in the second one there may be quotients
abbrev pub in_version : (may_divide : Bool) → BodyForm → BodyForm
in_version false form = form
in_version true form = dividing form

-- what an object says that has four members
abbrev pub form_in : (may_divide : Bool) → Entries → BodyForm
form_in may_divide ms =
    in_version may_divide (form_of (auto_read (member (codes "@metadata") ms) (member (codes "Collection") ms) (member (codes "Fields") ms) (member (codes "Kind") ms))
    (texts_read (member (codes "@metadata") ms) (member (codes "Kind") ms) (member (codes "Map") ms) (member (codes "Reduce") ms)))

-- what one says that has five
abbrev pub reduce_form_in : Entries → BodyForm
reduce_form_in ms =
    reduce_form (reduce_read (member (codes "@metadata") ms) (member (codes "Collection") ms) (member (codes "Groups") ms) (member (codes "Kind") ms) (member (codes "Sums") ms))

-- what one says that has so many members beside the version
abbrev pub form_by_count : (count : ℕ) (may_divide : Bool) → Entries → BodyForm
form_by_count count may_divide ms = if count == 4 then form_in may_divide ms else (if count == 5 then reduce_form_in ms else NoForm)
