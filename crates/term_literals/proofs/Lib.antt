pub mod TermLists
pub mod TermLaws
