-- What is shown of a document or of a row of a reduce.
use Rattle.std.specs.Prelude.{ℕ, negsuc, pos, List, [], ◌∷◌, ◌++◌, ◌&&◌, if◌then◌else◌, Option, Some, None, unwrap_or, option_map, codes, int_le}
use Rattle.std.specs.Fmt.{signed_decimal}
use Rattle.std.specs.Option.{option_and_then}
use Rattle.spec_data.specs.Data.{Data, null, flag, num, text, object, entries_of}
use Rattle.spec_data.specs.Members.{Path, value_at}
use Rattle.spec_data.specs.Rising.{Pairs, put}
use Rattle.spec_data.specs.Scalars.{Scalar, nothing, truth, number, words}
use Rattle.index_tree.specs.Mapper.{joined}
use Rattle.index_tree.specs.Meaning.{Fields, field_named}
use Rattle.spec_query.specs.Plan.{Selected}
use Rattle.spec_query.specs.Query.{Field, At, Count, Sum}

-- the name of a field in an index; no field of a map has brackets in its name
abbrev pub field_name : Field → List ℕ
field_name (At path) = joined path
field_name Count = codes "count()"
field_name (Sum path) = codes "sum(" ++ (joined path ++ codes ")")

-- of columns with one name the last counts
abbrev pub members_of : (Field → Data) → List Selected → Pairs → Pairs
members_of value [] members = members
members_of value (c ∷ columns) members = members_of value columns (put c.name (value c.field) members)

-- the whole, or an object of the columns
abbrev pub selected : Data → (Field → Data) → List Selected → Data
selected whole value [] = whole
selected whole value (c ∷ columns) = object (entries_of (members_of value (c ∷ columns) []))

-- IN A DOCUMENT

-- any value, also a list or an object
abbrev pub in_document : Data → Field → Data
in_document d (At path) = unwrap_or (value_at path d) null
in_document d Count = null
in_document d (Sum path) = null

abbrev pub text_of : Data → Option (List ℕ)
text_of (text s) = Some s
text_of other = None

-- the text at a path, if there is one
abbrev pub text_in_document : Data → Path → Option (List ℕ)
text_in_document d path = option_and_then text_of (value_at path d)

-- IN A ROW

-- a number outside 64 bits is shown as a text of its digits
abbrev pub scalar_data : Scalar → Data
scalar_data nothing = null
scalar_data (truth b) = flag b
scalar_data (number n) = if int_le (negsuc 9223372036854775807) n && int_le n (pos 9223372036854775807) then num n else text (signed_decimal n)
scalar_data (words s) = text s

abbrev pub in_row : Fields → Field → Data
in_row fields field = unwrap_or (option_map scalar_data (field_named (field_name field) fields)) null

abbrev pub words_of : Scalar → Option (List ℕ)
words_of (words s) = Some s
words_of other = None

-- the text of a field, if it is one; a number that is shown as a text is none
abbrev pub text_in_row : Fields → Path → Option (List ℕ)
text_in_row fields path = option_and_then words_of (field_named (joined path) fields)

-- the fields of a row under their names
abbrev pub row_members : Fields → Pairs → Pairs
row_members [] members = members
row_members (f ∷ fields) members = row_members fields (put f.0 (scalar_data f.1) members)

abbrev pub row_data : Fields → Data
row_data fields = object (entries_of (row_members fields []))
