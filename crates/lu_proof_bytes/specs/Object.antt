-- One object: its stories, what each entry rests on, and what a story says of locks, requests and bytes.
pub mod Words
pub mod Folds
pub mod History
pub mod Guards
