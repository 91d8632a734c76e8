-- The answer of `ask`: yes, no, or a refusal; and its two numbers, which for yes are 0 and 1, for no 0 and 0 ("2026-01"). Assumes nothing.
use Rattle.std.specs.Prelude.{ℕ, Bool, true, false, Result, Ok, Err}
use Rattle.card.specs.declared.Refusal.{Refusal}
pub use Rattle.card.specs.Verdict.{Refused}
use Rattle.entry.specs.Said.{Said, says, refused}

abbrev pub Asked : Type 0
Asked = Result Bool Refusal

abbrev pub asked : Said Bool → Asked
asked (says holds) = Ok holds
asked (refused number place) = Refused number place

abbrev pub asked_number : Asked → ℕ
asked_number (Ok holds) = 0
asked_number (Err e) = e.number

abbrev pub asked_value : Asked → ℕ
asked_value (Ok true) = 1
asked_value (Ok false) = 0
asked_value (Err e) = e.place
