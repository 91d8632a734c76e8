-- What the code asks for of each statement, of arrays that hold a valid card: its nodes and branches have their places, and what stands behind
-- its first test can be kept, since a valid statement's is short. Assumes nothing.
use Prim.Native.Nat.{ℕ, zero, suc, ◌+◌, ◌≤◌, ◌<◌}
use mathlib.Core.Path.{◌≡◌, sym, subst}
use mathlib.Core.List.{List, []}
use native.Mathlib.Nat.{zero-add}
use native.Mathlib.Omega.{arith}
use lib.ListN.{length}
use Rattle.card.specs.Limits.{most_shared}
use Rattle.card.specs.Card.{Statement, Card}
use Rattle.card.specs.Valid.{Every, values_of, ValidStatement}
use Rattle.card.specs.Laid.{shared_of, statement_of, statements_of}
use Rattle.card.specs.Rows.{row_of, rows_from}
use Rattle.card.specs.Lent.{lent, HoldsIn}
use Rattle.card.specs.declared.Statement.{Statement as StatementRow}
use Rattle.card.specs.declared.Head.{Head}
use Rattle.card.proofs.Held.{few_values}
use Rattle.card.proofs.HeldIn.{holds_card, holds_seats, holds_top, holds_rows, holds_branches}
use Rattle.texts.specs.Lengths.{tail_places}
use Rattle.texts.proofs.ReducedShort.{short_rest}
use Rattle.leaf_text.specs.declared.style.Form.{Form}
use Rattle.leaf_text.specs.declared.style.Form.TheVariants.{Written, Reduced}
use Rattle.leaf_text.specs.Style.{looks, by_form}
use Rattle.statement_copies.specs.Copies.{rest_text, Fits, KeepsTail}

-- what holds of each statement holds of the one at a row
module _ (nodes bs rows : List ℕ) (P : Statement → Type 0) where
  every_from : (j k i : ℕ) → i < k → Every P (statements_of nodes bs (rows_from rows j k) j) → P (statement_of nodes bs (row_of rows (j + i)) (j + i))
  unfolding statements_of
  every_from j zero i h e = absurd (omega arith)
  every_from j (suc k) zero h e = let z : j + 0 ≡ j = omega arith in rw z e.0
  every_from j (suc k) (suc i) h e = let z : j + suc i ≡ suc j + i = omega arith in rw z (every_from (suc j) k i (omega arith) e.1)

  every_row : (k i : ℕ) → i < k → Every P (statements_of nodes bs (rows_from rows 0 k) 0) → P (statement_of nodes bs (row_of rows i) i)
  every_row k i h e = rw (zero-add i) at (every_from 0 k i h e)

-- kept where there are several copies, and so not in the written card
rest_kept : (form : Form) (n own : ℕ) (s : Statement) (c m : ℕ) → c ≡ by_form 1 m form → length (rest_text (looks Reduced own n) s []) ≤ tail_places
    → KeepsTail c (looks form own n) s
rest_kept Written n own s c m e h several = absurd (several e)
rest_kept Reduced n own s c m e h several = h

module _ {head : Head} {nodes bs rows : List ℕ} (v : HoldsIn head (lent rows nodes bs)) {i : ℕ} (l : i < head.count) where
  abbrev values : ℕ
  values = values_of (shared_of head.shared head.initial)

  few : values ≤ most_shared
  few = subst (λ (c : Card). values_of c.shared ≤ most_shared) (sym (holds_card v)) (few_values v.card.shared v.valid.shared)

  valid_at : ValidStatement head.seats head.top values (statement_of nodes bs (row_of rows i) i)
  valid_at =
      every_row nodes bs rows (ValidStatement head.seats head.top values) head.count i l
      (subst (λ (c : Card). Every (ValidStatement c.n c.k (values_of c.shared)) c.statements) (sym (holds_card v)) v.valid.statements)

  module _ {x : StatementRow} (e : x ≡ row_of rows i) where
    pub fits_at : Fits bs x i
    fits_at =
        let f = (holds_rows v).each i l in
        subst (λ (y : StatementRow). Fits bs y i) (sym e)
        (record { early = omega (arith, (holds_rows v).few); nodes = f.nodes; few = f.branches; long = holds_branches v })

    pub keeps_at : (form : Form) {c : ℕ} (m : ℕ) → c ≡ by_form 1 m form → KeepsTail c (looks form x.own head.seats) (statement_of nodes bs x i)
    unfolding statement_of
    keeps_at form {c} m k =
        subst (λ (y : StatementRow). KeepsTail c (looks form y.own head.seats) (statement_of nodes bs y i)) (sym e)
        (rest_kept form head.seats (row_of rows i).own (statement_of nodes bs (row_of rows i) i) c m k
        (short_rest head.seats head.top values (holds_seats v) (holds_top v) few (statement_of nodes bs (row_of rows i) i) valid_at))
