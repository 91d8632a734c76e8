-- The table of a panel's numbers, as the code fills it: the counts, the shared number (document 02, 2026-10), the number of enabled, the weight
-- of no change for each value that the shared number can become, and how many seats are able to take each statement. Weights of moves are not
-- kept: they are added up for one old state after the other where they are shown, in a row by new state and then by the shared number. A
-- statement lies in its row and in the card's nodes and branches. Assumes nothing.
use Rattle.std.specs.Prelude.{ℕ, zero, suc, ◌+◌, ◌*◌, ◌/◌, ◌%◌, List, map, ltb, take, drop}
use Rattle.std.proofs.Math.Option.{none}
use Rattle.std.proofs.Math.Dec.{eqb}
use Rattle.std.proofs.Math.ListN.{get_or, set}
use Rattle.card.specs.Limits.{top_state, most_states, most_shared, most_statements, most_nodes, most_branches, unit}
use Rattle.card.specs.Text.{when◌then◌else◌}
use Rattle.card.specs.Card.{Mode, nondeterministic, probabilistic, Branch, Statement}
use Rattle.card.specs.Laid.{either, zeros, guard_of, branch_of}
use Rattle.card.specs.Rows.{row_of}
use Rattle.card.specs.Lent.{Lent}
use Rattle.card.specs.declared.Head.{Head}
use Rattle.meaning.specs.Sums.{gate, sum, upto}
use Rattle.meaning.specs.Position.{Position, position}
use Rattle.meaning.specs.Seats.{Seating, counts}
use Rattle.meaning.specs.ByCounts.{units_into, stay_of, move_of}
use Rattle.panel_numbers.specs.Taking.{takers}

-- ---- where each number stands

abbrev pub shared_place : ℕ
shared_place = most_states

abbrev pub enabled_place : ℕ
enabled_place = shared_place + 1

abbrev pub stays_from : ℕ
stays_from = enabled_place + 1

abbrev pub ables_from : ℕ
ables_from = stays_from + most_shared

abbrev pub table_places : ℕ
table_places = ables_from + most_statements

abbrev pub shared_in : List ℕ → ℕ
shared_in table = get_or table shared_place 0

-- of no change, where the shared number becomes h
abbrev pub stay_in : List ℕ → ℕ → ℕ
stay_in table h = get_or table (stays_from + h) 0

abbrev pub able_in : List ℕ → ℕ → ℕ
able_in table i = get_or table (ables_from + i) 0

-- f 0, …, f (n - 1) stored from a place on
unfoldable pub over : ℕ → ℕ → (ℕ → ℕ) → List ℕ → List ℕ
over from zero f table = table
over from (suc n) f table = set (over from n f table) (from + n) (f n)

-- f 0 + … + f (n - 1)
abbrev pub total : ℕ → (ℕ → ℕ) → ℕ
total n f = sum (λ w. w) (upto n f)

-- ---- statements

-- how many of n seats, at counts v, are able to take statement i
abbrev pub able_at : ℕ → Position → List ℕ → List ℕ → ℕ → ℕ
able_at n v nodes rows i = takers n v (row_of rows i).own (guard_of nodes (i * most_nodes) (row_of rows i).nodes)

-- what a statement adds to how many can be taken: pairs, or itself
abbrev pub counts_as : Mode → ℕ → ℕ
counts_as nondeterministic able = gate (ltb 0 able) 1
counts_as probabilistic able = able

unfoldable pub taken_in : Mode → List ℕ → ℕ → ℕ
taken_in m table count = total count (λ i. counts_as m (able_in table i))

-- so many branches of statement i
abbrev pub branches_in : List ℕ → ℕ → ℕ → List Branch
branches_in branches i many = map branch_of (take many (drop (i * most_branches) branches))

-- the statement as far as it weighs: its own state and its branches
abbrev pub weighing : List ℕ → ℕ → ℕ → ℕ → Statement
weighing branches i own many = record { own = own; guard = none; branches = branches_in branches i many }

abbrev pub weighing_row : List ℕ → List ℕ → ℕ → Statement
weighing_row rows branches i = weighing branches i (row_of rows i).own (row_of rows i).branches

-- ---- rows of weights

-- a place for each new state and each value that the shared number can become
abbrev pub weight_places : ℕ
weight_places = most_states * most_shared

abbrev pub place_of : ℕ → ℕ → ℕ
place_of b h = b * most_shared + h

abbrev pub weight_in : List ℕ → ℕ → ℕ → ℕ
weight_in row b h = get_or row (place_of b h) 0

-- at each place a weight by the new state and the shared number there
abbrev pub by_place : (ℕ → ℕ → ℕ) → ℕ → ℕ
by_place w p = w (p / most_shared) (p % most_shared)

-- n numbers, with what weighs u at each place added for so many seats
unfoldable pub raised : ℕ → (ℕ → ℕ) → ℕ → List ℕ → List ℕ
raised n u able v = upto n (λ p. get_or v p 0 + able * u p)

-- branches added to a row, where the shared number is g; and those that stay in a state to weights of no change
abbrev pub added : ℕ → ℕ → List Branch → List ℕ → List ℕ
added g able l row = raised weight_places (by_place (λ b h. units_into g b h l)) able row

abbrev pub added_stays : ℕ → ℕ → ℕ → List Branch → List ℕ → List ℕ
added_stays g own able l stays = raised most_shared (λ h. units_into g own h l) able stays

-- ---- the weights of all statements, over all seats that are able to take them

module _ (table rows branches : List ℕ) (count : ℕ) where
  unfoldable pub move_by : ℕ → ℕ → ℕ → ℕ
  unfolding move_of
  move_by a b h = total count (λ i. able_in table i * move_of (shared_in table) (weighing_row rows branches i) a b h)

  unfoldable pub stay_by : ℕ → ℕ
  unfolding stay_of
  stay_by h = total count (λ i. able_in table i * stay_of (shared_in table) (weighing_row rows branches i) h)

  -- the row of old state a
  unfoldable pub row_from : ℕ → List ℕ
  unfolding move_by
  row_from a = upto weight_places (by_place (move_by a))

  -- the weights of no change
  unfoldable pub stays : List ℕ
  unfolding stay_by
  stays = upto most_shared stay_by

-- ---- the whole table, of a card that lies in lent arrays and a seating of it

abbrev pub mode_in : Head → Mode
mode_in h = either nondeterministic probabilistic h.mode

-- the table of a nondeterministic card has no weights
unfoldable pub stayed : Mode → List ℕ → List ℕ → ℕ → List ℕ → List ℕ
unfolding over stay_by
stayed nondeterministic rows branches count table = table
stayed probabilistic rows branches count table = over stays_from most_shared (stay_by table rows branches count) table

module _ (h : Head) (x : Lent) (seats : Seating) where
  unfoldable pub counted : List ℕ
  unfolding over counts zeros
  counted = over 0 most_states (λ d. get_or (counts top_state seats.each) d 0) (zeros table_places)

  unfoldable pub shared_set : List ℕ
  unfolding counted
  shared_set = set counted shared_place seats.shared

  unfoldable pub abled : List ℕ
  unfolding over counts shared_set takers
  abled = over ables_from h.count (able_at h.seats (position (take (h.top + 1) (counts top_state seats.each)) seats.shared) x.nodes x.rows) shared_set

  -- how many can be taken: pairs of a seat and a statement, or statements
  unfoldable pub taken : ℕ
  unfolding abled taken_in
  taken = taken_in (mode_in h) abled h.count

  -- none can: one step, which changes nothing, the shared number neither, and weighs the unit
  unfoldable pub stuck_table : List ℕ
  unfolding abled
  stuck_table = set (set abled enabled_place 1) (stays_from + seats.shared) unit

  -- some can
  unfoldable pub enabled_set : List ℕ
  unfolding abled taken
  enabled_set = set abled enabled_place taken

  unfoldable pub moving_table : List ℕ
  unfolding enabled_set stayed
  moving_table = stayed (mode_in h) x.rows x.branches h.count enabled_set

  unfoldable pub table_of : List ℕ
  unfolding taken stuck_table moving_table
  table_of = when eqb taken 0 then stuck_table else moving_table
