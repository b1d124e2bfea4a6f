-- What is printed, piece by piece behind what stands before.
use Rattle.std.proofs.Common.{◌≡◌, ℕ, List, ◌++◌, ◌∷◌, [], Bool, append_assoc, codes, map, false}
use Rattle.std.proofs.lemmas.List.{append-nil}
use Rattle.spec_data.specs.Data.{Entries, Items, array, object, text, items_of, flag}
use Rattle.spec_data.specs.Written.{quoted, text_of, items_text, entries_text}
use Rattle.spec_server.specs.Replies.{Bulk, Defined, Found, Indexes, Listing, Pumped, Pumping, Result, listing_data, number, pumping_data, result_data, reply_data, Tidied}

pub printed-object : (old : List ℕ) (ms : Entries) → ((old ++ 123 ∷ []) ++ entries_text false ms) ++ 125 ∷ [] ≡ old ++ text_of (object ms)
printed-object old ms = simp (append_assoc)

pub printed-array : (old : List ℕ) (ds : Items) → ((old ++ 91 ∷ []) ++ items_text false ds) ++ 93 ∷ [] ≡ old ++ text_of (array ds)
printed-array old ds = simp (append_assoc)

pub printed-member : (old name value : List ℕ) → ((old ++ quoted name) ++ 58 ∷ []) ++ value ≡ old ++ (quoted name ++ 58 ∷ value)
printed-member old name value = simp (append_assoc)

pub printed-Pumped : (old : List ℕ) (pumped : List Pumping) → ((old ++ codes "{\"Pumped\":[") ++ items_text false (items_of (map pumping_data pumped))) ++ codes "]}" ≡ old ++ text_of (reply_data (Pumped pumped))
printed-Pumped old pumped = simp (append_assoc, append-nil)

pub printed-Indexes : (old : List ℕ) (results : List Listing) → ((old ++ codes "{\"Results\":[") ++ items_text false (items_of (map listing_data results))) ++ codes "]}" ≡ old ++ text_of (reply_data (Indexes results))
printed-Indexes old results = simp (append_assoc, append-nil)

pub printed-Bulk : (old : List ℕ) (results : List Result) → ((old ++ codes "{\"Results\":[") ++ items_text false (items_of (map result_data results))) ++ codes "]}" ≡ old ++ text_of (reply_data (Bulk results))
printed-Bulk old results = simp (append_assoc, append-nil)

pub printed-Defined : (old : List ℕ) (names : List (List ℕ)) → ((old ++ codes "{\"Indexes\":[") ++ items_text false (items_of (map text names))) ++ codes "]}" ≡ old ++ text_of (reply_data (Defined names))
printed-Defined old names = simp (append_assoc, append-nil)

pub printed-Found : (old : List ℕ) (ids : List (List ℕ)) (etag : ℕ) (is_stale : Bool)
    → (((((old ++ codes "{\"Ids\":[") ++ items_text false (items_of (map text ids))) ++ codes "],\"IndexEtag\":") ++ text_of (number etag)) ++ codes ",\"IsStale\":") ++ text_of (flag is_stale) ++ codes "}"
    ≡ old ++ text_of (reply_data (Found ids etag is_stale))
printed-Found old ids etag is_stale = simp (append_assoc, append-nil)

pub printed-Tidied : (old : List ℕ) (retired switched : List (List ℕ))
    → ((((old ++ codes "{\"Retired\":[") ++ items_text false (items_of (map text retired))) ++ codes "],\"Switched\":[") ++ items_text false (items_of (map text switched))) ++ codes "]}"
    ≡ old ++ text_of (reply_data (Tidied retired switched))
printed-Tidied old retired switched = simp (append_assoc, append-nil)

pub ruleset printed = (printed-object, printed-array, printed-member, printed-Pumped, printed-Indexes, printed-Bulk, printed-Defined, printed-Found)
