pub mod WriteDeckSaid
pub mod Fine
