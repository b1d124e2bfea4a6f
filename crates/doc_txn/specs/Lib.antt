pub mod BaseId
pub mod CommandView
pub mod SettingView
pub mod TermsView
pub mod FaultView
pub mod Tests
pub mod TransactionView
