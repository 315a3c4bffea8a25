pub mod Words
pub mod FieldLaws
pub mod Texts
pub mod Turns
pub mod LineTexts
