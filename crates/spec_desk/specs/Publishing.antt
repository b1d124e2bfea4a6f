-- What it does to publish a batch.
use Rattle.std.specs.Prelude.{ℕ, [], Result, Ok, Err}
use Rattle.spec_index.specs.World.{Version, World, numbered}
use Rattle.spec_server.specs.Courses.{Course, one_change, only_reply}
use Rattle.spec_server.specs.Workers.{PublishRefusal, publish_refused, published, published_reply}
use Rattle.spec_server.specs.Replies.{Reply}

abbrev pub publishes : Reply → Result World PublishRefusal → Course
publishes reply (Err refusal) = only_reply (publish_refused refusal)
publishes reply (Ok W) = one_change reply [] W

-- the version takes the place of that of the index of this number, which stores no rows; or it is refused, and nothing changes
abbrev pub publication : World → ℕ → Version → Course
publication W n v = publishes (published_reply v (numbered W.slots n)) (published W n v)
