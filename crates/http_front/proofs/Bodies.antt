-- The bodies of responses.
use Rattle.std.proofs.Common.{◌≡◌, ◌++◌, Bool, refl, codes, append_assoc}
use Rattle.std.proofs.lemmas.List.{append-nil}
use Rattle.spec_data.specs.Data.{Data}
use Rattle.spec_data.specs.Written.{text_of}
use Rattle.spec_server.specs.Replies as is
use Rattle.spec_server.specs.Replies.{reply_data}
use Rattle.spec_http.specs.Answers.{body_data, body_of, no_database, no_route}
use Rattle.http_parts.specs.Responses.{response}
use Rattle.raven_reply.specs.ReplyView.{reply_view}
use Rattle.raven_value.specs.declared.value.Value.{Value}
use Rattle.raven_reply.specs.declared.reply.Reply.{Reply}
use Rattle.raven_reply.specs.declared.reply.Reply.TheVariants as r

pub listed-document : (d : Data) → codes "{\"Includes\":{},\"Results\":[" ++ (text_of d ++ codes "]}") ≡ body_of (is.Document d)
listed-document d = simp (append-nil, append_assoc)

-- a reply other than a document
pub other-body : (reply : Reply) → ((document : Data) (metadata : Value) → reply ≡ r.Document document metadata → ⊥) → reply_data (reply_view reply) ≡ body_data (reply_view reply)
other-body (r.Document document metadata) h = absurd (h document metadata refl)
other-body (r.Put vector id) h = refl
other-body (r.Deleted deleted id) h = refl
other-body (r.Bulk results) h = refl
other-body (r.Index name) h = refl
other-body (r.Defined names) h = refl
other-body (r.Removed name) h = refl
other-body (r.Pumped pumped) h = refl
other-body (r.Found ids etag is_stale) h = refl
other-body (r.Answer includes etag name is_stale results total) h = refl
other-body (r.Switched etag name) h = refl
other-body (r.Tidied retired switched) h = refl
other-body (r.CleanDone cleaned upto) h = refl
other-body (r.Held from to) h = refl
other-body (r.Published from index to) h = refl
other-body (r.Stale etag is_stale newest) h = refl
other-body (r.Indexes results) h = refl
other-body (r.Stats documents indexes tombstones last) h = refl
other-body r.UnknownLine h = refl
other-body r.NotJson h = refl
other-body r.NumberNotWhole h = refl
other-body r.TooDeep h = refl
other-body r.Empty h = refl
other-body (r.TooLong len) h = refl
other-body (r.Control at) h = refl
other-body (r.BadMember name) h = refl
other-body (r.NoDocument id) h = refl
other-body (r.NoIndex name) h = refl
other-body (r.NotOneReduce number) h = refl
other-body (r.Rql at kind) h = refl
other-body (r.NoParameter name) h = refl
other-body (r.NotGrouped name) h = refl
other-body r.BadPage h = refl
other-body (r.NoField name) h = refl
other-body (r.Lang part at kind) h = refl
other-body r.ReservedName h = refl
other-body (r.NameTooLong len) h = refl
other-body r.TooManyIndexes h = refl
other-body r.NoReplacement h = refl
other-body r.NotesFull h = refl
other-body (r.NotFresh etag newest) h = refl
other-body r.NothingHeld h = refl
other-body (r.Gone number) h = refl
other-body (r.Passed now) h = refl
other-body (r.Cleaned upto) h = refl
other-body (r.ReservedId at) h = refl
other-body (r.TooLarge at len) h = refl
other-body (r.CollectionChanged at from) h = refl
other-body (r.Conflict at expected found) h = refl
other-body (r.StoreFull at rows) h = refl
other-body (r.EtagsSpent at last) h = refl
other-body (r.KeeperFault before after) h = refl

pub no-route-body : (close : Bool) → response 404 close (codes "{\"Error\":\"NoRoute\"}") ≡ no_route close
no-route-body close = refl

pub no-database-body : (close : Bool) → response 404 close (codes "{\"Error\":\"NoDatabase\"}") ≡ no_database close
no-database-body close = refl

pub ruleset bodies = (listed-document, other-body)

pub ruleset errors = (no-route-body, no-database-body)
