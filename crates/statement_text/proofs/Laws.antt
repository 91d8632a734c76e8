-- Statements in the form in which the code puts them: by a statement's row, and one statement more after each turn of a loop. Assumes nothing.
use Prim.Native.Nat.{ℕ, zero, suc, ◌-◌}
use mathlib.Core.Path.{◌≡◌, refl, ap, ◌∙◌}
use mathlib.Core.List.{List}
use native.Mathlib.Nat.{sub-zero}
use Rattle.card.specs.Card.{Mode}
use Rattle.card.specs.Laid.{statement_of, statements_of}
use Rattle.card.specs.Rows.{row_of, rows_from}
use Rattle.card.specs.declared.Statement.{Statement as StatementRow}
use Rattle.phrases.specs.Phrases.{Text, counted}
use Rattle.leaf_text.specs.declared.style.Form.{Form}
use Rattle.leaf_text.specs.Style.{looks}
use Rattle.statement_copies.specs.Copies.{copy_text}
use Rattle.statement_text.specs.Statements.{copy_number, each}

module _ (form : Form) (n copies : ℕ) (nodes bs rows : List ℕ) where
  abbrev next_copies : ℕ → StatementRow → ℕ → Text
  next_copies i x c = counted (copy_text (looks form x.own n) (statement_of nodes bs x i)) 0 c

  abbrev pub next_statement : ℕ → Text
  next_statement i = next_copies i (row_of rows i) copies

  -- by the row that the code has at hand
  pub next_is : (i : ℕ) {x : StatementRow} → x ≡ row_of rows i → (r : List ℕ) → next_copies i x copies r ≡ next_statement i r
  next_is i e r = ap (λ (y : StatementRow). next_copies i y copies r) e

  module _ (mode : Mode) (many : copies ≡ copy_number form mode n) where
    statements_counted : (i c : ℕ) (r : List ℕ) → counted next_statement i c r ≡ each form mode n (statements_of nodes bs (rows_from rows i c) i) r
    unfolding counted statements_of statement_of
    statements_counted i zero r = refl
    statements_counted i (suc c) r =
        ap (next_statement i) (statements_counted (suc i) c r)
        ∙ ap (λ (d : ℕ). next_copies i (row_of rows i) d (each form mode n (statements_of nodes bs (rows_from rows (suc i) c) (suc i)) r)) many

    pub statements_all : (c : ℕ) (r : List ℕ) → counted next_statement 0 (c - 0) r ≡ each form mode n (statements_of nodes bs (rows_from rows 0 c) 0) r
    statements_all c r = rw sub-zero (statements_counted 0 c r)
