-- What a head and three lent arrays hold is the card that lies there: the head's numbers are the card's, the first rows are its
-- statements', and nodes and branches come back as from the struct. Assumes nothing.
use Prim.Native.Nat.{ℕ, ◌≤◌, ◌<◌}
use mathlib.Core.Path.{◌≡◌, ap, ◌∙◌}
use mathlib.Core.List.{[]}
use mathlib.Core.Option.{none}
use native.Mathlib.Omega.{arith}
use lib.ListN.{length, get_or}
use Rattle.card.specs.Limits.{most_seats, top_state, most_statements, branch_places}
use Rattle.card.specs.Card.{Statement, Card}
use Rattle.card.specs.Laid.{statement_row, laid, card_of}
use Rattle.card.specs.Rows.{row_of, rows_of, FitsRow, FitRows}
use Rattle.card.specs.Lent.{Lent, head_of, lent_of, card_in, HoldsIn}
use Rattle.card.specs.declared.Head.{Head}
use Rattle.card.proofs.Held.{Held, HeldCard, every_at, valid_held}
use Rattle.card.proofs.LaidBack.{statement_row_law, held_back}
use Rattle.card.proofs.Rows.{rows_row, rows_taken}
use Rattle.card.proofs.Sized.{statements_long, branches_long}

-- no statement of any card
no_more : Statement
no_more = record { own = 0; guard = none; branches = [] }

module _ (c : Card) (v : HeldCard c) where
  pub lent_back : card_in (head_of c) (lent_of c) ≡ c
  unfolding card_of laid
  lent_back = rw (rows_taken (laid c).statements (length c.statements) (omega (arith, statements_long c, v.few))) (held_back c v)

  fits_row : (i : ℕ) → i < length c.statements → FitsRow (row_of (rows_of (laid c).statements) i)
  fits_row i h =
      let e : row_of (rows_of (laid c).statements) i ≡ statement_row (get_or c.statements i no_more) =
      rows_row (laid c).statements i (omega (arith, statements_long c, v.few)) ∙ statement_row_law c v i h no_more in
      let x : Held (get_or c.statements i no_more) = every_at Held c.statements i no_more h v.each in
      rw e (record { nodes = x.nodes; branches = x.branches })

  fit_rows : FitRows (rows_of (laid c).statements) (length c.statements)
  fit_rows = record { few = v.few; each = fits_row }

module _ {h : Head} {x : Lent} (v : HoldsIn h x) where
  held : HeldCard v.card
  held = valid_held v.card v.valid

  pub holds_card : card_in h x ≡ v.card
  holds_card = ap (λ (h : Head). card_in h x) v.head ∙ ap (card_in (head_of v.card)) v.lies ∙ lent_back v.card held

  -- the head's numbers
  pub holds_seats : h.seats ≤ most_seats
  holds_seats = let e = ap (λ (h : Head). h.seats) v.head in omega (arith, v.valid.seats_most)

  pub holds_top : h.top ≤ top_state
  holds_top = let e = ap (λ (h : Head). h.top) v.head in omega (arith, v.valid.top)

  pub holds_count : h.count ≤ most_statements
  holds_count = let e = ap (λ (h : Head). h.count) v.head in omega (arith, held.few)

  -- the arrays
  pub holds_rows : FitRows x.rows h.count
  holds_rows = rw (ap (λ (x : Lent). x.rows) v.lies, ap (λ (h : Head). h.count) v.head) (fit_rows v.card held)

  pub holds_branches : length x.branches ≡ branch_places
  holds_branches = ap (λ (x : Lent). length x.branches) v.lies ∙ branches_long v.card held
