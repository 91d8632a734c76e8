-- No refusal of a card has the number 0, which stands for none: the shape stops with 3 or 4 (`reading`'s law), and each judgement is broken
-- with its own number. Assumes nothing.
use Prim.Native.Nat.{ℕ, zero, ◌≤◌}
use mathlib.Core.Path.{◌≡◌, refl, subst}
use mathlib.Core.Bool.{Bool, true, false, ◌&&◌}
use mathlib.Core.List.{List, [], ◌∷◌}
use mathlib.Core.Option.{Option, none, some}
use native.Mathlib.Omega.{arith}
use lib.Dec.{eqb, leb}
use lib.ListN.{length}
use Rattle.card.specs.Limits.{card_bytes, unit}
use Rattle.card.specs.Refusals.{too_long, above_top, not_due, wrong_weight, decimal_weight}
use Rattle.card.specs.Text.{when◌then◌else◌}
use Rattle.card.specs.Card.{Card}
use Rattle.card.specs.Weight.{units_of, Rule, allowed, weight_refusal}
use Rattle.marks_on_a_card.specs.Marks.{Placed, marks_of}
use Rattle.reading.specs.Reader.{Place, at, Result, ok, stop}
use Rattle.reading.specs.Guard.{is_some}
use Rattle.reading.specs.Judgements.{Judgement, state, word, one_group, weight, sum, place_in, symmetric, total_units, unless, broken, Verdict, fine, wrong, or_else, first_broken}
use Rattle.reading.specs.Shape.{CardShape, card}
use Rattle.reading.specs.Checks.{judged_card, seats_in, card_in}
use Rattle.reading.specs.Reading.{Outcome, taken, refused, first_outside, judged, shaped, marked, read_under}
use Rattle.grammar.proofs.Exact.{CardCause, unfits, exceeds, card_stops}

-- ---- judgements

abbrev SomeNumber : Option ℕ → Type 0
SomeNumber none = Unit {0}
SomeNumber (some r) = 1 ≤ r

some_unless : (b : Bool) (r : ℕ) → 1 ≤ r → SomeNumber (unless b r)
some_unless true r h = tt
some_unless false r h = h

weight_some : (b : Bool) → 1 ≤ (when b then wrong_weight else decimal_weight)
weight_some true = omega arith
weight_some false = omega arith

some_broken : (n : ℕ) (j : Judgement) → SomeNumber (broken n j)
some_broken n (state most v p) = some_unless (leb v most) above_top (omega arith)
some_broken n (word due was p) = some_unless (eqb was due) not_due (omega arith)
some_broken n (one_group g) = some_unless (symmetric n g.literals) not_due (omega arith)
some_broken n (weight decimals w p) = some_unless (allowed decimals w && is_some (units_of w)) (weight_refusal decimals w) (weight_some (allowed decimals w))
some_broken n (sum ws p) = some_unless (eqb (total_units ws) unit) wrong_weight (omega arith)

abbrev SomeVerdict : Verdict → Type 0
SomeVerdict fine = Unit {0}
SomeVerdict (wrong r p) = 1 ≤ r

some_else : (o : Option ℕ) (p : Place) (v : Verdict) → SomeNumber o → SomeVerdict v → SomeVerdict (or_else o p v)
some_else none p v h k = k
some_else (some r) p v h k = h

some_first : (n : ℕ) (js : List Judgement) → SomeVerdict (first_broken n js)
some_first n [] = tt
some_first n (j ∷ js) = some_else (broken n j) (place_in j) (first_broken n js) (some_broken n j) (some_first n js)

-- ---- reading

abbrev SomeOutcome : Outcome → Type 0
SomeOutcome (taken c) = Unit {0}
SomeOutcome (refused r p) = 1 ≤ r

some_judged : (e : ℕ) (c : Card) (v : Verdict) → SomeVerdict v → SomeOutcome (judged e c v)
some_judged e c fine h = tt
some_judged e c (wrong r p) h = h

some_shaped : (decimals : Rule) (e : ℕ) (ms : Place) (x : Result CardShape) → card (at ms zero) ≡ x → SomeOutcome (shaped decimals e x)
some_shaped decimals e ms (ok c s) h = some_judged e (card_in c) (first_broken (seats_in c) (judged_card decimals c)) (some_first (seats_in c) (judged_card decimals c))
some_shaped decimals e ms (stop r p) h = go (card_stops ms zero r p h).cause
  where
    go : {pre : Place} → CardCause ms pre r p → 1 ≤ r
    go (unfits z _) = omega arith
    go (exceeds z _ _ _ _ _ _ _) = omega arith

some_marked : (decimals : Rule) (e : ℕ) (ms : List Placed) (o : Option ℕ) → SomeOutcome (marked decimals e ms o)
some_marked decimals e ms none = some_shaped decimals e ms (card (at ms zero)) refl
some_marked decimals e ms (some p) = omega arith

some_read : (decimals : Rule) (s : List ℕ) → SomeOutcome (read_under decimals s)
unfolding read_under
some_read decimals s = go (leb (length s) card_bytes)
  where
    go : (b : Bool) → SomeOutcome (when b then marked decimals (length s) (marks_of s) (first_outside (marks_of s)) else refused too_long 0)
    go true = some_marked decimals (length s) (marks_of s) (first_outside (marks_of s))
    go false = omega arith

pub number_some : (decimals : Rule) (s : List ℕ) {r p : ℕ} → read_under decimals s ≡ refused r p → 1 ≤ r
number_some decimals s e = subst SomeOutcome e (some_read decimals s)
