-- The statements of either text are those of its definition: one copy of each in the written card, and in the reduced program the copies that
-- the mode asks for. Assumes nothing.
use Prim.Native.Nat.{ℕ, zero, suc}
use mathlib.Core.Path.{◌≡◌, refl, sym, ap, ◌∙◌}
use mathlib.Core.List.{List, [], ◌∷◌, map}
use Rattle.card.specs.Card.{Mode, Statement}
use Rattle.meaning.specs.Sums.{flat}
use Rattle.meaning.specs.Reduced.{copies}
use Rattle.phrases.specs.Phrases.{counted}
use Rattle.texts.specs.Writing.{statement_text, statements as written_statements}
use Rattle.texts.specs.ReducedText.{statements as reduced_statements}
use Rattle.texts.specs.Copies.{reduced_copies}
use Rattle.texts.proofs.Copies.{reduced_copy, copy_text_law, copies_text, statements_append}
use Rattle.statement_copies.specs.Copies.{copy_text}
use Rattle.leaf_text.specs.declared.style.Form.TheVariants.{Written, Reduced}
use Rattle.leaf_text.specs.Style.{looks}
use Rattle.statement_text.specs.Statements.{each}

pub written_each : (mode : Mode) (n : ℕ) (xs : List Statement) (r : List ℕ) → each Written mode n xs r ≡ written_statements n xs r
unfolding counted statement_text
written_each mode n [] r = refl
written_each mode n (x ∷ xs) r = rw (written_each mode n xs r)

module _ (mode : Mode) (n : ℕ) where
  reduced_copies_law : (x : Statement) (m c : ℕ) (r : List ℕ) → counted (copy_text (looks Reduced x.own n) x) m c r ≡ counted (reduced_copy n x) m c r
  unfolding counted
  reduced_copies_law x m zero r = refl
  reduced_copies_law x m (suc c) r = rw (reduced_copies_law x (suc m) c r) (sym (copy_text_law n x m (counted (reduced_copy n x) (suc m) c r)))

  pub reduced_each : (xs : List Statement) (r : List ℕ) → each Reduced mode n xs r ≡ reduced_statements (flat (map (copies mode n) xs)) r
  reduced_each [] r = refl
  reduced_each (x ∷ xs) r =
      reduced_copies_law x 0 (reduced_copies mode n) (each Reduced mode n xs r)
      ∙ ap (counted (reduced_copy n x) 0 (reduced_copies mode n)) (reduced_each xs r)
      ∙ sym (statements_append (copies mode n x) (flat (map (copies mode n) xs)) r ∙ copies_text n x mode (reduced_statements (flat (map (copies mode n) xs)) r))
