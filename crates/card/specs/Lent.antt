-- A card that lies in three lent arrays, beside its head: how it lies there, and the card that they hold ("What the box holds"). Assumes
-- nothing.
use Rattle.std.specs.Prelude.{ℕ, ◌≡◌, List, length}
use Rattle.card.specs.Limits.{row_places, node_places, branch_places}
use Rattle.card.specs.Card.{nondeterministic, probabilistic, Card}
use Rattle.card.specs.Valid.{values_of, ValidCard}
use Rattle.card.specs.Laid.{either, mode_number, start_of, shared_of, zeros, laid, statements_of}
use Rattle.card.specs.Rows.{rows_of, rows_from}
use Rattle.card.specs.declared.Head.{Head}

pub record Lent : Type 0 where
  pub rows : List ℕ
  pub nodes : List ℕ
  pub branches : List ℕ

abbrev pub lent : List ℕ → List ℕ → List ℕ → Lent
lent rows nodes branches = record { rows = rows; nodes = nodes; branches = branches }

-- ---- from the card to its head and the arrays; zeros in these where there is none

abbrev pub head_of : Card → Head
head_of c = record { mode = mode_number c.mode; shared = values_of c.shared; initial = start_of c.shared; seats = c.n; top = c.k; start = c.l; count = length c.statements }

abbrev pub lent_of : Card → Lent
lent_of c = lent (rows_of (laid c).statements) (laid c).nodes (laid c).branches

abbrev pub none_lent : Lent
none_lent = lent (zeros row_places) (zeros node_places) (zeros branch_places)

-- ---- and back, whatever numbers stand there

abbrev pub card_in : Head → Lent → Card
card_in h x = record {
  mode = either nondeterministic probabilistic h.mode;
  shared = shared_of h.shared h.initial;
  n = h.seats;
  k = h.top;
  l = h.start;
  statements = statements_of x.nodes x.branches (rows_from x.rows 0 h.count) 0;
}

-- they hold a valid card
pub record HoldsIn (h : Head) (x : Lent) : Type 0 where
  pub card : Card
  pub valid : ValidCard card
  pub head : h ≡ head_of card
  pub lies : x ≡ lent_of card
