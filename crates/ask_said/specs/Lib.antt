pub mod AskSaid
