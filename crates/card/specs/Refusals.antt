-- The refusal numbers by name (document 01, "Refusal numbers"; document 02); src/refusals.rt has the same numbers for the code. Assumes nothing.
use Rattle.std.specs.Prelude.{ℕ, ◌≤◌, ◌≡◌, ◌⊎◌}

abbrev pub too_long : ℕ
too_long = 1

abbrev pub outside_rules : ℕ
outside_rules = 2

abbrev pub out_of_shape : ℕ
out_of_shape = 3

abbrev pub past_limit : ℕ
past_limit = 4

abbrev pub above_top : ℕ
above_top = 5

abbrev pub not_due : ℕ
not_due = 6

abbrev pub wrong_weight : ℕ
wrong_weight = 7

abbrev pub wrong_seats : ℕ
wrong_seats = 8

abbrev pub seat_above_top : ℕ
seat_above_top = 9

abbrev pub room_too_small : ℕ
room_too_small = 10

abbrev pub malformed_deck : ℕ
malformed_deck = 11

abbrev pub no_live_card : ℕ
no_live_card = 12

abbrev pub wrong_classes : ℕ
wrong_classes = 13

abbrev pub decimal_weight : ℕ
decimal_weight = 17

abbrev pub not_converted : ℕ
not_converted = 18

abbrev pub not_added : ℕ
not_added = 19

-- the numbers of a card's own refusals: the first seven, and 17; 0, which no refusal has, is let in
abbrev pub OfCard : ℕ → Type 0
OfCard r = (r ≤ wrong_weight) ⊎ (r ≡ decimal_weight)
