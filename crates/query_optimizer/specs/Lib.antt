pub mod ChoiceView
