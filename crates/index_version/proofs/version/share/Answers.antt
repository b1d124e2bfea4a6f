use Rattle.index_version.proofs.version.share.Goals as goal

pub returns : goal.returns
returns c = c.in_ok-clone.ensures.cases
