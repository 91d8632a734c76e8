-- The seats as a stage: 8 and 9, or nothing to say ("Refusal numbers"). Assumes nothing.
use Rattle.std.specs.Prelude.{ℕ, List, [], ◌∷◌, Ok, Err}
use Rattle.card.specs.Refusals.{wrong_seats, seat_above_top}
use Rattle.card.specs.Card.{Card}
use Rattle.card.specs.Valid.{values_of}
use Rattle.entry.specs.Said.{Said, says, refused}
use Rattle.entry.specs.Numbers.{Numbers, ◌to◌}
use Rattle.card.specs.Verdict.{Verdict}
use Rattle.seating.specs.Judged.{judged_seats}

abbrev pub verdict_said : Verdict → Said (Unit {0})
verdict_said (Ok u) = says tt
verdict_said (Err e) = refused e.number e.place

abbrev pub seats_said : List ℕ → Card → Said (Unit {0})
seats_said seats c = verdict_said (judged_seats c.n c.k (values_of c.shared) seats)

abbrev pub seats_numbers : Numbers
seats_numbers = (wrong_seats to seat_above_top) ∷ []
