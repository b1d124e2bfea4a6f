pub mod OptionsView
pub mod Doing
pub mod Summaries
pub mod Defining
pub mod Measures
pub mod Ends
