use Rattle.std.proofs.Common.{◌∙◌}
use Rattle.doc_txn.proofs.Pairs.{cleaned, cleaned-rises}
use Rattle.doc_txn.proofs.document.clean_members.Goals as goal

pub of-requires : goal.of-requires
of-requires c =
    cleaned-rises c.args.members c.into_vec-kept.result.items c.drop_own.new.members.items c.drop_own.ensures c.into_vec-kept.ensures.members c.into_vec-kept.ensures.rising

pub returns : goal.returns
returns c = c.of.ensures ∙ cleaned c.args.members c.into_vec-kept.result.items c.drop_own.new.members.items c.drop_own.ensures c.into_vec-kept.ensures.members
