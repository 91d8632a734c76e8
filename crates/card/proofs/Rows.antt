-- A card's statements as rows of numbers: read one by one they are the statements again. Assumes nothing.
use Prim.Native.Nat.{ℕ, zero, suc, ◌+◌, ◌*◌, ◌≤◌, ◌<◌}
use mathlib.Core.Path.{◌≡◌, refl, sym, ap, ap₂, ◌∙◌}
use mathlib.Core.List.{List, [], ◌∷◌}
use native.Mathlib.Nat.{add-zero, zero-add}
use native.Mathlib.Omega.{arith}
use lib.ListN.{length, get_or, take}
use Rattle.card.specs.Limits.{row_numbers}
use Rattle.card.specs.Laid.{no_statement}
use Rattle.card.specs.Rows.{row, row_of, rows_of, rows_from}
use Rattle.card.specs.declared.Statement.{Statement as StatementRow}

pub same_row : {a b c d e f : ℕ} → a ≡ d → b ≡ e → c ≡ f → row a b c ≡ row d e f
same_row p q r = λ i. row (p i) (q i) (r i)

-- behind the first row stand the others
pub row_next : (a b c : ℕ) (rows : List ℕ) (j : ℕ) → row_of (a ∷ b ∷ c ∷ rows) (suc j) ≡ row_of rows j
row_next a b c rows j = same_row (at (suc j * row_numbers) (j * row_numbers) (omega arith)) (at (suc j * row_numbers + 1) (j * row_numbers + 1) (omega arith)) (at (suc j * row_numbers + 2) (j * row_numbers + 2) (omega arith))
  where
    at : (i k : ℕ) → i ≡ suc (suc (suc k)) → get_or (a ∷ b ∷ c ∷ rows) i 0 ≡ get_or rows k 0
    at i k e = ap (λ (v : ℕ). get_or (a ∷ b ∷ c ∷ rows) v 0) e

pub rows_row : (xs : List StatementRow) (j : ℕ) → j < length xs → row_of (rows_of xs) j ≡ get_or xs j no_statement
unfolding rows_of
rows_row [] j l = absurd (omega arith)
rows_row (x ∷ xs) zero l = refl
rows_row (x ∷ xs) (suc j) l = row_next x.own x.nodes x.branches (rows_of xs) j ∙ rows_row xs j (omega arith)

-- the rows of all of them
pub rows_list : (rows : List ℕ) (xs : List StatementRow) (i c : ℕ) → c ≤ length xs → ((j : ℕ) → j < c → row_of rows (i + j) ≡ get_or xs j no_statement)
    → rows_from rows i c ≡ take c xs
rows_list rows xs i zero h f = refl
rows_list rows [] i (suc c) h f = absurd (omega arith)
rows_list rows (x ∷ xs) i (suc c) h f =
    ap₂ (λ (a : StatementRow) (r : List StatementRow). a ∷ r)
    (ap (row_of rows) (sym (add-zero i)) ∙ f 0 (omega arith))
    (rows_list rows xs (suc i) c (omega arith) (λ j l. ap (row_of rows) (omega arith) ∙ f (suc j) (omega arith)))

-- the first of the rows that were stored
pub rows_taken : (xs : List StatementRow) (count : ℕ) → count ≤ length xs → rows_from (rows_of xs) 0 count ≡ take count xs
rows_taken xs count h = rows_list (rows_of xs) xs 0 count h (λ j l. rw (zero-add j) (rows_row xs j (omega arith)))
