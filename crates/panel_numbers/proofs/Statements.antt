-- The statements of a card that lies in arrays, one for each row. Assumes nothing.
use Prim.Native.Nat.{ℕ, zero, suc, ◌+◌}
use mathlib.Core.Path.{◌≡◌, refl, sym, ap, ap₂, ◌∙◌}
use mathlib.Core.List.{List, ◌∷◌}
use native.Mathlib.Nat.{add-zero}
use native.Mathlib.Omega.{arith}
use Rattle.card.specs.Card.{Statement}
use Rattle.card.specs.Laid.{statement_of, statements_of}
use Rattle.card.specs.Rows.{row_of, rows_from}
use Rattle.meaning.specs.Sums.{upto}
use Rattle.meaning.proofs.Sums.{upto_cong}

module _ (nodes branches rows : List ℕ) where
  abbrev pub at : ℕ → Statement
  at i = statement_of nodes branches (row_of rows i) i

  statements_from : (i c : ℕ) → statements_of nodes branches (rows_from rows i c) i ≡ upto c (λ j. at (i + j))
  unfolding statements_of
  statements_from i zero = refl
  statements_from i (suc c) =
      ap₂ (λ (s : Statement) (l : List Statement). s ∷ l)
      (ap at (sym (add-zero i)))
      (statements_from (suc i) c ∙ upto_cong c _ (λ j. at (i + suc j)) (λ j l. ap at (omega arith)))

  pub statements_upto : (c : ℕ) → statements_of nodes branches (rows_from rows 0 c) 0 ≡ upto c at
  statements_upto c = statements_from 0 c ∙ upto_cong c _ at (λ j l. ap at (omega arith))
