pub mod QuestionForms
pub mod QuestionAsked
pub mod QuestionViews
pub mod Help
pub mod Refusal
