pub mod NotesFound
pub mod Ready
