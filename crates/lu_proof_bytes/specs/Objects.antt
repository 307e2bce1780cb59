-- Many objects of several targets: whole pasts, what each line rests on, and the story of each object.
pub mod Words
pub mod Folds
pub mod Only
pub mod Guards
pub mod History
pub mod Rows
