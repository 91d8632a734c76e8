pub mod Tidies
