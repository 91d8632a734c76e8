-- How seats and other lists of small numbers are judged ("Refusal numbers"): how many there are, then each; seats are taken where they are
-- a seating. Where a card has a shared number its value stands behind the seats (document 02, 2026-10). Assumes nothing.
use Rattle.std.specs.Prelude.{ℕ, zero, suc, ◌-◌, ◌≤◌, ◌<◌, ◌≡◌, List, [], ◌∷◌, ◌++◌, eqb, ltb, length, get_or, take}
use Rattle.std.proofs.Math.Option.{Option, none, some}
use Rattle.card.specs.Text.{when◌then◌else◌}
use Rattle.card.specs.Refusals.{wrong_seats, seat_above_top}
use Rattle.card.specs.Card.{Shared, Card}
use Rattle.card.specs.Valid.{values_of}
use Rattle.card.specs.Verdict.{Verdict}
use Rattle.card.specs.Verdict.{Taken, Refused}
use Rattle.meaning.specs.Position.{position}
use Rattle.meaning.specs.Seats.{Seating, ValidSeating}

-- ---- lists

-- those from place p on: the first that is more than may stand at its place is refused with a number
unfoldable pub judged_by : ℕ → (ℕ → ℕ) → ℕ → List ℕ → Verdict
judged_by number most p [] = Taken
judged_by number most p (a ∷ x) =
    let rest = judged_by number most (suc p) x in
    when ltb (most p) a then Refused number p else rest

-- the same for all places
abbrev pub judged_from : ℕ → ℕ → ℕ → List ℕ → Verdict
judged_from number k p x = judged_by number (λ i. k) p x

-- n are due, each 0 to k; another length is judged as is said
abbrev pub judged_list : ℕ → ℕ → Verdict → ℕ → List ℕ → Verdict
judged_list n k wrong number x = when eqb (length x) n then judged_from number k 0 x else wrong

-- p is the first place with a number above what may stand there
pub record FirstOver (most : ℕ → ℕ) (x : List ℕ) (p : ℕ) : Type 0 where
  pub seat : p < length x
  pub above : most p < get_or x p 0
  pub first : (i : ℕ) → i < p → get_or x i 0 ≤ most i

abbrev pub FirstAbove : ℕ → List ℕ → ℕ → Type 0
FirstAbove k x p = FirstOver (λ i. k) x p

-- ---- seats of a card with n seats and top state k, whose shared number has so many values (0: there is none)

-- so many bytes are due
abbrev pub bytes_due : ℕ → ℕ → ℕ
bytes_due n zero = n
bytes_due n (suc most) = suc n

-- what may stand at a place: a seat's state, or behind the seats the shared number
abbrev pub most_at : ℕ → ℕ → ℕ → ℕ → ℕ
most_at n k values i = when ltb i n then k else values - 1

-- as many as are due, then each
unfoldable pub judged_seats : ℕ → ℕ → ℕ → List ℕ → Verdict
unfolding judged_by
judged_seats n k values x = when eqb (length x) (bytes_due n values) then judged_by seat_above_top (most_at n k values) 0 x else Refused wrong_seats 0

-- the value that stands behind the seats, or 0
abbrev pub shared_at : ℕ → ℕ → List ℕ → ℕ
shared_at n zero x = 0
shared_at n (suc most) x = get_or x n 0

abbrev pub seating_in : ℕ → ℕ → List ℕ → Seating
seating_in n values x = position (take n x) (shared_at n values x)

-- ---- of a card

abbrev pub seats_due : Card → ℕ
seats_due c = bytes_due c.n (values_of c.shared)

abbrev pub FirstWrong : Card → List ℕ → ℕ → Type 0
FirstWrong c x p = FirstOver (most_at c.n c.k (values_of c.shared)) x p

-- the seating that the bytes are
abbrev pub seating_of : Card → List ℕ → Seating
seating_of c x = seating_in c.n (values_of c.shared) x

pub record Seated (c : Card) (x : List ℕ) : Type 0 where
  pub due : length x ≡ seats_due c
  pub valid : ValidSeating c (seating_of c x)

-- and the bytes that a seating is
abbrev pub bytes_in : Option Shared → Seating → List ℕ
bytes_in none x = x.each
bytes_in (some s) x = x.each ++ x.shared ∷ []

abbrev pub bytes_of : Card → Seating → List ℕ
bytes_of c x = bytes_in c.shared x
