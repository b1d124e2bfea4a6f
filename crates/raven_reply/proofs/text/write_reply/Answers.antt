use Rattle.std.proofs.Common.{◌≡◌, ◌++◌, ◌∙◌, OnOk, sym, ap, subst}
use Rattle.spec_data.specs.Written.{text_of}
use Rattle.spec_server.specs.Replies.{CollectionChanged, answer_data, reply_data}
use Rattle.raven_reply.specs.ReplyView.{reply_view}
use Rattle.raven_reply.proofs.text.write_reply.Goals as goal

pub returns-in-Stats : goal.returns-in-Stats
returns-in-Stats c = subst (λ r. OnOk c.write_stats.result (c.write_stats.new.out.items ≡ c.args.out.now.items ++ text_of (reply_data (reply_view r))))
    (sym c.in-Stats.is) c.write_stats.ensures

pub returns-in-TooLarge : goal.returns-in-TooLarge
returns-in-TooLarge c = subst (λ r. OnOk c.write_error_at_with.result (c.write_error_at_with.new.out.items ≡ c.args.out.now.items ++ text_of (reply_data (reply_view r))))
    (sym c.in-TooLarge.is) c.write_error_at_with.ensures

pub returns-in-CollectionChanged : goal.returns-in-CollectionChanged
returns-in-CollectionChanged c = subst (λ d. OnOk c.write_error_at_with-in-CollectionChanged.result (c.write_error_at_with-in-CollectionChanged.new.out.items ≡ c.args.out.now.items ++ text_of d))
    ((λ i. reply_data (CollectionChanged c.in-CollectionChanged.at (c.as_str-in-CollectionChanged.ensures i))) ∙ ap (λ r. reply_data (reply_view r)) (sym c.in-CollectionChanged.is))
    c.write_error_at_with-in-CollectionChanged.ensures

pub returns-in-EtagsSpent : goal.returns-in-EtagsSpent
returns-in-EtagsSpent c = subst (λ r. OnOk c.write_error_at_with-in-EtagsSpent.result (c.write_error_at_with-in-EtagsSpent.new.out.items ≡ c.args.out.now.items ++ text_of (reply_data (reply_view r))))
    (sym c.in-EtagsSpent.is) c.write_error_at_with-in-EtagsSpent.ensures

pub returns-in-Document : goal.returns-in-Document
returns-in-Document c = subst (λ r. OnOk c.write_shown.result (c.write_shown.new.out.items ≡ c.args.out.now.items ++ text_of (reply_data (reply_view r))))
    (sym c.in-Document.is) c.write_shown.ensures

pub returns-in-Answer : goal.returns-in-Answer
returns-in-Answer c =
    let a = c.in-Answer in
    subst (λ d. OnOk c.write_object.result (c.write_object.new.out.items ≡ c.args.out.now.items ++ text_of d))
    ((λ i. answer_data (record { includes = a.includes; index_etag = a.index_etag; index_name = c.as_str-in-Answer.ensures i; is_stale = a.is_stale; results = a.results; total = a.total_results }))
    ∙ ap (λ r. reply_data (reply_view r)) (sym a.is))
    c.write_object.ensures
