-- The lines that have texts: the definition of an index, and a query.
use Rattle.std.specs.Prelude.{ℕ, ℤ, pos, ◌+◌, List, [], ◌∷◌, Bool, false, ◌&&◌, nat_le, if◌then◌else◌, Option, Some, None, Result, Ok, Err, codes, length}
use Rattle.std.specs.Str.{bytes_eq, is_utf8}
use Rattle.spec_data.specs.Data.{Data, Entries, list_of, pairs_of}
use Rattle.spec_data.specs.Data as json
use Rattle.spec_data.specs.Json.{reading}
use Rattle.spec_data.specs.Members.{member}
use Rattle.spec_data.specs.Rising.{Pairs}
use Rattle.index_tree.specs.Language.{LangRefusal}
use Rattle.index_tree.specs.Definitions.{Definition, Texts}
use Rattle.spec_query.specs.Query.{Query}
use Rattle.spec_query.specs.Query as query
use Rattle.spec_query.specs.Refusals.{QueryRefusal}
use Rattle.spec_server.specs.Requests.{Define, Ask, Do, Multi, Mask}
use Rattle.spec_server.specs.Words.{ReadRefusal, BadMember, BadDefinition, BadQuery, LineRead, then_read, argument_and_rest, json_read, name_read}
use Rattle.spec_server.specs.Reading.{line_of}
use Rattle.spec_server.specs.Several.{part_name}

-- THE DEFINITION OF AN INDEX, in JSON

abbrev pub name_member : Option Data → Result (List ℕ) ReadRefusal
name_member (Some (json.text name)) = name_read name
name_member other = Err (BadMember (codes "Name"))

-- the text of the map: `Maps` is a list of one text, or `Map` is a text
abbrev pub map_member : (maps map : Option Data) → Result (List ℕ) ReadRefusal
map_member (Some (json.array (json.item (json.text map) json.no_items))) other = Ok map
map_member (Some maps) other = Err (BadMember (codes "Maps"))
map_member None (Some (json.text map)) = Ok map
map_member None (Some other) = Err (BadMember (codes "Map"))
map_member None None = Err (BadMember (codes "Maps"))

-- the text of the reduce; without one, or with null, there is none
abbrev pub reduce_member : Option Data → Result (Option (List ℕ)) ReadRefusal
reduce_member None = Ok None
reduce_member (Some json.null) = Ok None
reduce_member (Some (json.text reduce)) = Ok (Some reduce)
reduce_member other = Err (BadMember (codes "Reduce"))

-- the name and the texts
abbrev pub texts_in : Entries → Result (List ℕ × Texts) ReadRefusal
texts_in ms =
    then_read (name_member (member (codes "Name") ms)) (λ name.
    then_read (map_member (member (codes "Maps") ms) (member (codes "Map") ms)) (λ map.
    then_read (reduce_member (member (codes "Reduce") ms)) (λ reduce. Ok (name, (map, reduce)))))

abbrev pub texts_of_body : Data → Result (List ℕ × Texts) ReadRefusal
texts_of_body (json.object ms) = texts_in ms
texts_of_body other = Err (BadMember (codes "body"))

-- SEVERAL MAPS INTO ONE REDUCE, in JSON

-- the name, the texts of the maps, and that of the reduce
pub record SeveralTexts : Type 0 where
  pub name : List ℕ
  pub maps : List (List ℕ)
  pub reduce : List ℕ

-- the names of the parts have to be valid, and are all as long
abbrev pub several_name : Option Data → Result (List ℕ) ReadRefusal
several_name (Some (json.text name)) = then_read (name_read (part_name name 1)) (λ part. Ok name)
several_name other = Err (BadMember (codes "Name"))

abbrev pub map_text : Data → Result (List ℕ) ReadRefusal
map_text (json.text map) = Ok map
map_text other = Err (BadMember (codes "Maps"))

abbrev pub map_texts : List Data → Result (List (List ℕ)) ReadRefusal
map_texts [] = Ok []
map_texts (d ∷ ds) = then_read (map_text d) (λ map. then_read (map_texts ds) (λ maps. Ok (map ∷ maps)))

-- two to eight
abbrev pub several_maps : Option Data → Result (List (List ℕ)) ReadRefusal
several_maps (Some (json.array ds)) = if nat_le 2 (length (list_of ds)) && nat_le (length (list_of ds)) 8 then map_texts (list_of ds) else Err (BadMember (codes "Maps"))
several_maps other = Err (BadMember (codes "Maps"))

abbrev pub several_reduce : Option Data → Result (List ℕ) ReadRefusal
several_reduce (Some (json.text reduce)) = Ok reduce
several_reduce other = Err (BadMember (codes "Reduce"))

abbrev pub several_in : Entries → Result SeveralTexts ReadRefusal
several_in ms =
    then_read (several_name (member (codes "Name") ms)) (λ name.
    then_read (several_maps (member (codes "Maps") ms)) (λ maps.
    then_read (several_reduce (member (codes "Reduce") ms)) (λ reduce. Ok (record { name = name; maps = maps; reduce = reduce }))))

abbrev pub several_of_body : Data → Result SeveralTexts ReadRefusal
several_of_body (json.object ms) = several_in ms
several_of_body other = Err (BadMember (codes "body"))

-- MULTI <definition>
abbrev pub several_of : List ℕ → Result SeveralTexts ReadRefusal
several_of rest = then_read (json_read (reading rest)) several_of_body

-- INDEX <definition>
abbrev pub index_of : List ℕ → Result (List ℕ × Texts) ReadRefusal
index_of rest = then_read (json_read (reading rest)) texts_of_body

-- A QUERY, in JSON

-- what is asked beside the text of the query
pub record Asking : Type 0 where
  pub parameters : Pairs
  pub start : ℤ
  pub size : Option ℤ
  pub cutoff : Option ℕ
  pub waits : Bool
  pub looks : ℕ

-- all of what the text alone finds
abbrev pub plain_asking : Asking
plain_asking = record { parameters = []; start = pos 0; size = None; cutoff = None; waits = false; looks = 64 }

abbrev pub query_member : Option Data → Result (List ℕ) ReadRefusal
query_member (Some (json.text query)) = Ok query
query_member other = Err (BadMember (codes "Query"))

abbrev pub parameters_member : Option Data → Result Pairs ReadRefusal
parameters_member None = Ok []
parameters_member (Some (json.object ms)) = Ok (pairs_of ms)
parameters_member other = Err (BadMember (codes "QueryParameters"))

abbrev pub start_member : Option Data → Result ℤ ReadRefusal
start_member None = Ok (pos 0)
start_member (Some (json.num start)) = Ok start
start_member other = Err (BadMember (codes "Start"))

abbrev pub size_member : Option Data → Result (Option ℤ) ReadRefusal
size_member None = Ok None
size_member (Some (json.num size)) = Ok (Some size)
size_member other = Err (BadMember (codes "PageSize"))

abbrev pub cutoff_member : Option Data → Result (Option ℕ) ReadRefusal
cutoff_member None = Ok None
cutoff_member (Some (json.num (pos etag))) = Ok (Some etag)
cutoff_member other = Err (BadMember (codes "CutoffEtag"))

abbrev pub wait_member : Option Data → Result Bool ReadRefusal
wait_member None = Ok false
wait_member (Some (json.flag waits)) = Ok waits
wait_member other = Err (BadMember (codes "WaitForNonStaleResults"))

-- how often to look at most: 1 to 64
abbrev pub looks_member : Option Data → Result ℕ ReadRefusal
looks_member None = Ok 64
looks_member (Some (json.num (pos looks))) = if nat_le 1 looks && nat_le looks 64 then Ok looks else Err (BadMember (codes "Looks"))
looks_member other = Err (BadMember (codes "Looks"))

-- what is asked beside the text, with these parameters
abbrev pub asking_with : Pairs → Entries → Result Asking ReadRefusal
asking_with parameters ms =
    then_read (start_member (member (codes "Start") ms)) (λ start.
    then_read (size_member (member (codes "PageSize") ms)) (λ size.
    then_read (cutoff_member (member (codes "CutoffEtag") ms)) (λ cutoff.
    then_read (wait_member (member (codes "WaitForNonStaleResults") ms)) (λ waits.
    then_read (looks_member (member (codes "Looks") ms)) (λ looks.
    Ok (record { parameters = parameters; start = start; size = size; cutoff = cutoff; waits = waits; looks = looks }))))))

abbrev pub beside_in : Entries → Result Asking ReadRefusal
beside_in ms = then_read (parameters_member (member (codes "QueryParameters") ms)) (λ parameters. asking_with parameters ms)

-- the text, and what is asked beside it
abbrev pub asking_in : Entries → Result (List ℕ × Asking) ReadRefusal
asking_in ms = then_read (query_member (member (codes "Query") ms)) (λ text. then_read (beside_in ms) (λ asking. Ok (text, asking)))

abbrev pub asking_of_body : Data → Result (List ℕ × Asking) ReadRefusal
asking_of_body (json.object ms) = asking_in ms
asking_of_body other = Err (BadMember (codes "body"))

-- ASK <query>
abbrev pub asking_of : List ℕ → Result (List ℕ × Asking) ReadRefusal
asking_of rest = then_read (json_read (reading rest)) asking_of_body

-- WHAT A LINE ASKS before the texts of a definition or of a query are read

pub data Asked : Type 0 where
  Plain : LineRead → Asked
  -- to define an index of this name by these texts
  Defining : (name : List ℕ) (texts : Texts) → Asked
  -- to answer the query of this text
  Querying : (text : List ℕ) (asking : Asking) → Asked
  -- to define the parts of an index of several maps by these texts
  DefiningSeveral : (texts : SeveralTexts) → Asked
  -- to answer the query of this text by an index of several maps
  QueryingSeveral : (text : List ℕ) (asking : Asking) → Asked

abbrev pub asked_to_define : Result (List ℕ × Texts) ReadRefusal → Asked
asked_to_define (Err refusal) = Plain (Err refusal)
asked_to_define (Ok asked) = Defining asked.0 asked.1

abbrev pub asked_to_query : Result (List ℕ × Asking) ReadRefusal → Asked
asked_to_query (Err refusal) = Plain (Err refusal)
asked_to_query (Ok asked) = Querying asked.0 asked.1

abbrev pub asked_to_define_several : Result SeveralTexts ReadRefusal → Asked
asked_to_define_several (Err refusal) = Plain (Err refusal)
asked_to_define_several (Ok texts) = DefiningSeveral texts

abbrev pub asked_to_query_several : Result (List ℕ × Asking) ReadRefusal → Asked
asked_to_query_several (Err refusal) = Plain (Err refusal)
asked_to_query_several (Ok asked) = QueryingSeveral asked.0 asked.1

-- INDEX <definition>, QUERY <text>, ASK <query>, MULTI <definition>, MASK <query>, or another line
abbrev pub asked_with : List ℕ → List ℕ → List ℕ → Asked
asked_with line word rest =
    if bytes_eq word (codes "INDEX") then asked_to_define (index_of rest) else (
    if bytes_eq word (codes "QUERY") then Querying rest plain_asking else (
    if bytes_eq word (codes "ASK") then asked_to_query (asking_of rest) else (
    if bytes_eq word (codes "MULTI") then asked_to_define_several (several_of rest) else (
    if bytes_eq word (codes "MASK") then asked_to_query_several (asking_of rest) else Plain (line_of line)))))

abbrev pub asked_by : List ℕ → Option (List ℕ × List ℕ) → Asked
asked_by line None = Plain (line_of line)
asked_by line (Some parts) = if is_utf8 line then asked_with line parts.0 parts.1 else Plain (line_of line)

abbrev pub asked_of : List ℕ → Asked
asked_of line = asked_by line (argument_and_rest line)

-- AND ONCE THEY ARE

-- what the line is read as, once its texts are read or refused
abbrev pub defined_by : (name : List ℕ) → Result Definition LangRefusal → LineRead
defined_by name (Ok d) = Ok (Some (Do (Define name d)))
defined_by name (Err refusal) = Err (BadDefinition refusal)

abbrev pub whole_ask : Asking → Query → query.Ask
whole_ask asking q = record {
  query = q;
  parameters = asking.parameters;
  start = asking.start;
  size = asking.size;
  cutoff = asking.cutoff;
  waits = asking.waits;
  looks = asking.looks;
}

-- so if the text of its query is read or refused
abbrev pub asked_by_text : Asking → Result Query QueryRefusal → LineRead
asked_by_text asking (Ok q) = Ok (Some (Do (Ask (whole_ask asking q))))
asked_by_text asking (Err refusal) = Err (BadQuery refusal)

-- the names of the parts and their maps, each of which is read with the reduce
abbrev pub part_texts : ℕ → List ℕ → List (List ℕ) → List (List ℕ × List ℕ)
part_texts n name [] = []
part_texts n name (map ∷ maps) = (part_name name n, map) ∷ part_texts (n + 1) name maps

abbrev pub parts_defined : Result (List (List ℕ × Definition)) LangRefusal → LineRead
parts_defined (Ok parts) = Ok (Some (Do (Multi parts)))
parts_defined (Err refusal) = Err (BadDefinition refusal)

abbrev pub masked_by_text : Asking → Result Query QueryRefusal → LineRead
masked_by_text asking (Ok q) = Ok (Some (Do (Mask (whole_ask asking q))))
masked_by_text asking (Err refusal) = Err (BadQuery refusal)
