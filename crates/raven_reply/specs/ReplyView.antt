-- A `Reply` of the program, and what it is.
use Rattle.std.specs.Prelude.{map}
use Rattle.spec_query.specs.Binding as plan
use Rattle.spec_server.specs.Replies as is
use Rattle.index_definition.specs.RefusalView.{refusal_view}
use Rattle.rql_grammar.specs.Kinds.{query_refusal}
use Rattle.raven_value.specs.View.{data_of}
use Rattle.raven_json.specs.Shown.{shown_with}
use Rattle.raven_reply.specs.declared.reply.BulkResult.{BulkResult}
use Rattle.raven_reply.specs.declared.reply.BulkResult.TheVariants as b
use Rattle.raven_reply.specs.declared.reply.Reply.{Reply}
use Rattle.raven_reply.specs.declared.reply.Reply.TheVariants as r

abbrev pub result_view : BulkResult → is.Result
result_view (b.Put vector id) = is.Result.Put vector id
result_view (b.Deleted deleted id) = is.Result.Deleted deleted id

abbrev pub reply_view : Reply → is.Reply
reply_view (r.Put vector id) = is.Put vector id
reply_view (r.Deleted deleted id) = is.Deleted deleted id
reply_view (r.Bulk results) = is.Bulk (map result_view results)
reply_view (r.Document document metadata) = is.Document (shown_with document (data_of metadata))
reply_view (r.Index name) = is.Index name
reply_view (r.Defined names) = is.Defined names
reply_view (r.Removed name) = is.Removed name
reply_view (r.Pumped pumped) = is.Pumped pumped
reply_view (r.Found ids etag is_stale) = is.Found ids etag is_stale
reply_view (r.Answer includes etag name is_stale results total) =
    is.Answer (record { includes = includes; index_etag = etag; index_name = name; is_stale = is_stale; results = results; total = total })
reply_view (r.Switched etag name) = is.Switched etag name
reply_view (r.Tidied retired switched) = is.Tidied retired switched
reply_view (r.Held from to) = is.Held from to
reply_view (r.Published from index to) = is.Published from index to
reply_view (r.Stale etag is_stale newest) = is.Stale etag is_stale newest
reply_view (r.Indexes results) = is.Indexes results
reply_view (r.Stats documents indexes tombstones last) = is.Stats documents indexes tombstones last
reply_view r.UnknownLine = is.UnknownLine
reply_view r.NotJson = is.NotJson
reply_view r.NumberNotWhole = is.NumberNotWhole
reply_view r.TooDeep = is.TooDeep
reply_view r.Empty = is.Empty
reply_view (r.TooLong len) = is.TooLong len
reply_view (r.Control at) = is.Control at
reply_view (r.BadMember name) = is.BadMember name
reply_view (r.NoDocument id) = is.NoDocument id
reply_view (r.NoIndex name) = is.NoIndex name
reply_view (r.NotOneReduce number) = is.NotOneReduce number
reply_view (r.Rql at kind) = is.BadQuery (query_refusal at kind)
reply_view (r.NoParameter name) = is.BadPlan (plan.NoParameter name)
reply_view (r.NotGrouped name) = is.BadPlan (plan.NotGrouped name)
reply_view r.BadPage = is.BadPlan plan.BadPage
reply_view (r.NoField name) = is.BadPlan (plan.NoField name)
reply_view (r.Lang part at kind) = is.Lang (refusal_view part at kind)
reply_view r.ReservedName = is.ReservedName
reply_view (r.NameTooLong len) = is.NameTooLong len
reply_view r.TooManyIndexes = is.TooManyIndexes
reply_view r.NoReplacement = is.NoReplacement
reply_view r.NotesFull = is.NotesFull
reply_view (r.NotFresh etag newest) = is.NotFresh etag newest
reply_view r.NothingHeld = is.NothingHeld
reply_view (r.Gone number) = is.Gone number
reply_view (r.Passed now) = is.Passed now
reply_view (r.Cleaned upto) = is.Cleaned upto
reply_view (r.CleanDone cleaned upto) = is.CleanDone cleaned upto
reply_view (r.ReservedId at) = is.ReservedId at
reply_view (r.TooLarge at len) = is.TooLarge at len
reply_view (r.CollectionChanged at from) = is.CollectionChanged at from
reply_view (r.Conflict at expected found) = is.Conflict at expected found
reply_view (r.StoreFull at rows) = is.StoreFull at rows
reply_view (r.EtagsSpent at last) = is.EtagsSpent at last
reply_view (r.KeeperFault before after) = is.KeeperFault before after
