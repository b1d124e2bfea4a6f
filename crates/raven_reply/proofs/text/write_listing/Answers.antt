use Rattle.std.proofs.Common.{◌≡◌, ◌++◌, ◌∙◌, ℕ, List, OnOk, ap, subst}
use Rattle.spec_data.specs.Written.{text_of}
use Rattle.spec_server.specs.Replies.{Listing, listing_data}
use Rattle.raven_value.specs.View.{data_of}
use Rattle.raven_reply.specs.declared.reply.Listing.TheInside.{Inside}
use Rattle.raven_reply.proofs.text.write_listing.Goals as goal

-- the listing with this spelling of its name
abbrev spelled : Inside → List ℕ → Listing
spelled a name = record { definition = data_of a.definition; entries = a.entries; errors = a.errors; etag = a.etag; is_stale = a.is_stale; name = name }

pub returns : goal.returns
returns c =
    subst (λ l. OnOk c.write_object.result (c.write_object.new.out.items ≡ c.args.out.now.items ++ text_of (listing_data l)))
    (ap (spelled c.listing.inside) c.as_str.ensures.spelling ∙ c.listing.view_is)
    c.write_object.ensures
