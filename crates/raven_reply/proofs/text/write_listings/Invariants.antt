use Rattle.std.proofs.Common.{◌≡◌, ◌++◌, drop, false, map}
use Rattle.spec_data.specs.Data.{items_of}
use Rattle.spec_data.specs.Written.{items_text}
use Rattle.spec_server.specs.Replies.{listing_data}
use Rattle.raven_reply.proofs.text.write_listings.Given as goal

abbrev pub invariant-loop-listing : goal.invariant-loop-listing
invariant-loop-listing l = l.out.items ++ items_text l.later (items_of (map listing_data (drop l.listing-index l.listings))) ≡ l.fn.out.items ++ items_text false (items_of (map listing_data l.listings))
