-- What is judged, as a result of the code: taken, or refused with a number and a place; and a verdict in document 01's numbers ("Refusal
-- numbers"), 0 and 0 where nothing is refused. Assumes nothing.
use Rattle.std.specs.Prelude.{ℕ, Result, Ok, Err}
use Rattle.card.specs.declared.Refusal.{Refusal}

abbrev pub refusal_at : ℕ → ℕ → Refusal
refusal_at number place = record { number = number; place = place }

-- a result that is refused
abbrev pub Refused : {A : Type 0} → ℕ → ℕ → Result A Refusal
Refused number place = Err (refusal_at number place)

abbrev pub Verdict : Type 0
Verdict = Result (Unit {0}) Refusal

abbrev pub Taken : Verdict
Taken = Ok tt

-- of a result, whatever it holds where nothing is refused
abbrev pub verdict_in : {A : Type 0} → Result A Refusal → Verdict
verdict_in (Ok a) = Taken
verdict_in (Err e) = Err e

abbrev pub verdict_number : Verdict → ℕ
verdict_number (Ok u) = 0
verdict_number (Err e) = e.number

abbrev pub verdict_place : Verdict → ℕ
verdict_place (Ok u) = 0
verdict_place (Err e) = e.place
