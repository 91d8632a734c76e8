-- What the reader of a card's shape does on marks, in terms of the grammar. Assumes nothing.
use Prim.Native.Nat.{ℕ, zero}
use mathlib.Core.Path.{◌≡◌, refl}
use mathlib.Core.Bool.{Bool}
use mathlib.Core.Logic.{◌⊎◌}
use mathlib.Core.List.{[], ◌∷◌, ◌++◌}
use Rattle.card.specs.Refusals.{out_of_shape, past_limit}
use Rattle.card.specs.Valid.{Every}
use Rattle.marks_on_a_card.specs.Marks.{Placed, placed}
use Rattle.reading.specs.Reader.{Place, State, at, ok, stop}
use Rattle.reading.specs.Guard.{test_next}
use Rattle.reading.specs.Shape.{CardShape, card}
use Rattle.grammar.specs.Grammar.{CardSaid}
use Rattle.grammar.specs.Counted.{Within, counted_card}
use Rattle.grammar.specs.Verdicts.{counts_of, shares, UnfitAt, PastAt}
use Rattle.grammar.proofs.Follows.{Ran, Came, Anyway, card_runs}
use Rattle.grammar.proofs.Exact.{HaltedIn, mode_within, card_passes, card_stops}
use Rattle.grammar.proofs.Shapes.{shape_read as the_shape_read, read_shape as the_read_shape, stopped_past as the_stopped_past, past_stopped as the_past_stopped, stopped_unfit as the_stopped_unfit, unfit_stopped as the_unfit_stopped, stop_numbers as the_stop_numbers}

runs : (ms : Place) (c : CardShape) (d : CardSaid ms c) → Ran (counts_of ms c d) (Came Anyway c []) (card (at ms zero))
runs ms c d = card_runs d zero

passes : (ms : Place) (c : CardShape) (s : State) → card (at ms zero) ≡ ok c s → (d : CardShape) × CardSaid ms d
passes ms = card_passes ms zero

-- whether a card shares a number is told by its second mark
abbrev looks : Place → Place → Bool
looks ms = test_next (shares ms)

stops : (ms : Place) (n : ℕ) (r : Place) → card (at ms zero) ≡ stop n r → HaltedIn (looks ms) CardSaid card ms zero n r
stops ms = card_stops ms zero

-- no limit is passed at the first, and so what follows a limit that is passed does not tell it
alike : (pre : Place) (m : Placed) (x y : Place) → card (at (pre ++ (m ∷ y)) zero) ≡ stop past_limit (m ∷ y) → looks (pre ++ (m ∷ x)) ≡ looks (pre ++ (m ∷ y))
alike [] m x y e = absurd (mode_within m y e)
alike (o ∷ []) (placed m p) x y e = refl
alike (o ∷ placed k p ∷ pre) m x y e = refl

pub shape_read : {ms : Place} {c : CardShape} (d : CardSaid ms c) → Every Within (counted_card d) → (n : ℕ) × (card (at ms zero) ≡ ok c (at [] n))
shape_read d = the_shape_read looks card CardSaid counts_of runs passes stops alike d

abbrev pub ShapeWithin : Place → CardShape → Type 0
ShapeWithin ms c = (d : CardSaid ms c) × Every Within (counted_card d)

pub read_shape : (ms : Place) (c : CardShape) (s : State) → card (at ms zero) ≡ ok c s → ShapeWithin ms c
read_shape = the_read_shape looks card CardSaid counts_of runs passes stops alike

pub stopped_past : (ms r : Place) → card (at ms zero) ≡ stop past_limit r → PastAt ms r
stopped_past = the_stopped_past looks card CardSaid counts_of runs passes stops alike

pub past_stopped : (ms r : Place) → PastAt ms r → card (at ms zero) ≡ stop past_limit r
past_stopped = the_past_stopped looks card CardSaid counts_of runs passes stops alike

pub stopped_unfit : (ms r : Place) → card (at ms zero) ≡ stop out_of_shape r → UnfitAt ms r
stopped_unfit = the_stopped_unfit looks card CardSaid counts_of runs passes stops alike

pub unfit_stopped : (ms r : Place) → UnfitAt ms r → ((t : Place) → PastAt ms t → (m : Placed) (w : Place) → t ≡ m ∷ (w ++ r) → ⊥)
    → card (at ms zero) ≡ stop out_of_shape r
unfit_stopped = the_unfit_stopped looks card CardSaid counts_of runs passes stops alike

pub stop_numbers : (ms : Place) (n : ℕ) (r : Place) → card (at ms zero) ≡ stop n r → (n ≡ out_of_shape) ⊎ (n ≡ past_limit)
stop_numbers = the_stop_numbers looks card CardSaid counts_of runs passes stops alike
