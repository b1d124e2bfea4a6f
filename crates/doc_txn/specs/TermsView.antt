-- The setting of a transaction.
use Rattle.spec_store.specs.Commit.{Setting}
use Rattle.doc_txn.specs.SettingView.{setting_of}
use Rattle.doc_txn.specs.declared.refusal.Terms.{Terms}

abbrev pub setting_in : Terms → Setting
setting_in terms = setting_of terms.base.now terms.limits.now
