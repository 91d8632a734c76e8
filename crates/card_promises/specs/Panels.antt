-- What holds of everything that a panel shows ("Texts, byte for byte"). Assumes nothing.
use Rattle.std.specs.Prelude.{ℕ, ◌*◌, ◌≤◌, ◌<◌, ◌≡◌, true, [], ◌∷◌, ltb, length}
use Rattle.std.proofs.Math.Option.{Option, none, some}
use Rattle.card.specs.Limits.{most_seats, most_statements, unit}
use Rattle.card.specs.Card.{nondeterministic, probabilistic, Statement, Card}
use Rattle.card.specs.Valid.{Every, ValidCard}
use Rattle.meaning.specs.Sums.{gate, or_one, sum, upto}
use Rattle.meaning.specs.Position.{position}
use Rattle.meaning.specs.Seats.{Seating, ValidSeating, counted, may_take, turn, Stuck}
use Rattle.meaning.specs.Panel.{shared_shown, panel, block_of, block_total, due}
use Rattle.meaning.specs.ByCounts.{count_panel}
use Rattle.meaning.specs.Reordered.{Reordered}
use Rattle.panel_wording.specs.PanelText.{panel_of}
use Rattle.shown.specs.InOrder.{InOrder}

-- a seat in state a moves to state b, whatever the others are in
abbrev pub from_to : ℕ → ℕ → Statement
from_to a b = record { own = a; guard = none; branches = record { units = unit; end = b; sets = none } ∷ [] }

-- two seats, of which one moves from 0 to 2 and one from 1 to 0
abbrev pub turning : Card
turning = record { mode = probabilistic; shared = none; n = 2; k = 2; l = 0; statements = from_to 1 0 ∷ from_to 0 2 ∷ [] }

-- how many seats may take a statement
abbrev pub takers : Statement → Seating → ℕ
takers s x = sum (λ i. gate (may_take s x i) 1) (upto (length x.each) (λ i. i))

pub record Panels : Type 0 where
  -- it can be computed from the counts alone
  pub by_counts : (c : Card) (x : Seating) → ValidSeating c x → panel c x ≡ count_panel c (counted c.k x)
  -- so equal counts show the same
  pub equal_counts : (c : Card) (x y : Seating) → ValidSeating c x → ValidSeating c y → counted c.k x ≡ counted c.k y → panel c x ≡ panel c y
  -- and so do the same seats in another order
  pub reordered : (c : Card) {x y : Seating} → Reordered x y → ValidSeating c x → ValidSeating c y × (panel c x ≡ panel c y)
  -- whichever seat takes a statement, its lines are the same
  pub any_seat : (c : Card) (x : Seating) → ValidSeating c x → (s : Statement) (i j : ℕ) → i < length x.each → j < length x.each → may_take s x i ≡ true → may_take s x j ≡ true
      → (values : ℕ) (q : Option ℕ) → block_of c.k values q x (turn s x i) ≡ block_of c.k values q x (turn s x j)
  -- the weights add up: to the unit for each pair of a seat and a statement on a probabilistic card, to the unit in each choice on a
  -- nondeterministic one
  pub adds_up : (c : Card) → ValidCard c → (x : Seating) → ValidSeating c x → Every (λ b. block_total b ≡ due c.mode (panel c x).enabled) (panel c x).blocks
  -- enabled counts the pairs of a seat and a statement that it may take; on a nondeterministic card the statements that some seat may take; and is 1
  -- where there is none
  pub enabled_pairs : (c : Card) (x : Seating) → c.mode ≡ probabilistic → (panel c x).enabled ≡ or_one (sum (λ s. takers s x) c.statements)
  pub enabled_statements : (c : Card) (x : Seating) → c.mode ≡ nondeterministic → (panel c x).enabled ≡ or_one (sum (λ s. gate (ltb 0 (takers s x)) 1) c.statements)
  -- then (document 02, 2026-03) there is one block, in which nothing moves and which on a nondeterministic card is choice 0
  pub stuck_pairs : (c : Card) (x : Seating) → ValidSeating c x → Stuck c x → c.mode ≡ probabilistic
      → ((panel c x).enabled ≡ 1) × ((panel c x).blocks ≡ record { choice = none; stays = record { weight = unit; shared = x.shared } ∷ []; moves = [] } ∷ [])
  pub stuck_statements : (c : Card) (x : Seating) → ValidSeating c x → Stuck c x → c.mode ≡ nondeterministic
      → ((panel c x).enabled ≡ 1) × ((panel c x).blocks ≡ record { choice = some 0; stays = record { weight = unit; shared = x.shared } ∷ []; moves = [] } ∷ [])
  pub enabled_most : (c : Card) → ValidCard c → (x : Seating) → ValidSeating c x → (panel c x).enabled ≤ most_seats * most_statements
  -- the shared number is shown exactly where the card has one (document 02, 2026-10)
  pub shared : (c : Card) (x : Seating) → (panel c x).shared ≡ shared_shown c.shared x.shared
  -- moves stand by old state, then by new, then by new shared number, stays by that, choices by their place on the card; and an example
  pub in_order : (c : Card) (x : Seating) → InOrder (panel c x)
  pub order : (panel turning (position (0 ∷ 1 ∷ []) 0)).blocks
      ≡ record { choice = none; stays = []; moves = record { old = 0; new = 2; weight = unit; shared = 0 } ∷ record { old = 1; new = 0; weight = unit; shared = 0 } ∷ [] } ∷ []
  -- all that a panel shows can be read off its text
  pub read_off : (c d : Card) (x y : Seating) → panel_of c x ≡ panel_of d y → panel c x ≡ panel d y
