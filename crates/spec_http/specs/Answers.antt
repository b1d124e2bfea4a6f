-- What is answered over HTTP.
use Rattle.std.specs.Prelude.{ℕ, List, [], ◌∷◌, Bool, true, Option, Some, None, codes}
use Rattle.spec_data.specs.Data.{Data, array, items_of, object, entries_of}
use Rattle.spec_data.specs.Written.{text_of}
use Rattle.spec_server.specs.Replies.{Reply, error, members, reply_data}
use Rattle.spec_server.specs.Replies as reply
use Rattle.http_parts.specs.Responses.{response}
use Rattle.http_read.specs.declared.end.HttpEnd.{HttpEnd}
use Rattle.http_read.specs.declared.end.HttpEnd.TheVariants as end

-- THE STATUS

-- the status of the response with this reply. Found, Pumped, Switched, Tidied, CleanDone, Defined, NotOneReduce, Held, Published,
-- NothingHeld, Gone, Passed and Cleaned are replies to lines alone.
abbrev pub status_of : Reply → ℕ
status_of (reply.Put vector id) = 201
status_of (reply.Deleted deleted id) = 204
status_of (reply.Bulk results) = 201
status_of (reply.Document document) = 200
status_of (reply.Index name) = 201
status_of (reply.Defined names) = 200
status_of (reply.Removed name) = 204
status_of (reply.Found ids etag is_stale) = 200
status_of (reply.Answer answer) = 200
status_of (reply.Pumped pumped) = 200
status_of (reply.Switched etag name) = 200
status_of (reply.Tidied retired switched) = 200
status_of (reply.CleanDone cleaned upto) = 200
status_of (reply.Held from to) = 200
status_of (reply.Published from index to) = 200
status_of (reply.Stale etag is_stale newest) = 200
status_of (reply.Indexes results) = 200
status_of (reply.Stats documents indexes tombstones last) = 200
status_of reply.UnknownLine = 400
status_of reply.NotJson = 400
status_of reply.NumberNotWhole = 400
status_of reply.TooDeep = 400
status_of reply.Empty = 400
status_of (reply.TooLong len) = 400
status_of (reply.Control at) = 400
status_of (reply.BadMember name) = 400
status_of (reply.NoDocument id) = 404
status_of (reply.NoIndex name) = 404
status_of (reply.NotOneReduce number) = 400
status_of (reply.BadQuery refusal) = 400
status_of (reply.BadPlan refusal) = 400
status_of (reply.Lang refusal) = 400
status_of reply.ReservedName = 400
status_of (reply.NameTooLong len) = 400
status_of reply.TooManyIndexes = 507
status_of reply.NoReplacement = 404
status_of reply.NotesFull = 507
status_of (reply.NotFresh index_etag newest) = 409
status_of reply.NothingHeld = 400
status_of (reply.Gone number) = 400
status_of (reply.Passed now) = 400
status_of (reply.Cleaned upto) = 400
status_of (reply.ReservedId at) = 400
status_of (reply.TooLarge at len) = 413
status_of (reply.CollectionChanged at from) = 409
status_of (reply.Conflict at expected found) = 409
status_of (reply.StoreFull at rows) = 507
status_of (reply.EtagsSpent at last) = 507
status_of (reply.KeeperFault before after) = 503

-- THE BODY

-- a document is a list of one result; all else is as in the reply to a line
abbrev pub body_data : Reply → Data
body_data (reply.Document document) = members ((codes "Includes", object (entries_of [])) ∷ (codes "Results", array (items_of (document ∷ []))) ∷ [])
body_data other = reply_data other

abbrev pub body_of : Reply → List ℕ
body_of reply = text_of (body_data reply)

-- the bytes that answer with this reply
abbrev pub response_to : Bool → Reply → List ℕ
response_to close reply = response (status_of reply) close (body_of reply)

-- an error that no line of a script has
abbrev pub error_body : List ℕ → List ℕ
error_body name = text_of (error name [])

abbrev pub no_route : Bool → List ℕ
no_route close = response 404 close (error_body (codes "NoRoute"))

abbrev pub no_database : Bool → List ℕ
no_database close = response 404 close (error_body (codes "NoDatabase"))

-- THE END

-- the last response, after which the connection is closed, if there is one
abbrev pub response_to_end : HttpEnd → Option (List ℕ)
response_to_end end.BadHead = Some (response 400 true (error_body (codes "BadHead")))
response_to_end end.HeadTooLarge = Some (response 431 true (error_body (codes "HeadTooLarge")))
response_to_end end.BodyTooLarge = Some (response 413 true (error_body (codes "BodyTooLarge")))
response_to_end end.Encoded = Some (response 415 true (error_body (codes "Encoded")))
response_to_end end.BadChunk = Some (response 400 true (error_body (codes "BadChunk")))
response_to_end other = None
