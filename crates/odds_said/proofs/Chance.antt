-- The laws of a chance, stated on bytes: a card that is read is valid. Assumes nothing.
use Prim.Native.Nat.{ℕ}
use mathlib.Core.List.{List}
use Rattle.card.specs.Weight.{card_rule}
use Rattle.grammar.proofs.Theorems.{read_valid}
use Rattle.meaning.specs.Seats.{Seating, ValidSeating}
use Rattle.rows.specs.Said.{Read}
use Rattle.asking.specs.Meant.{Question}
use Rattle.evenings.specs.Rounds.{Aim}
use Rattle.chances.specs.Chance.{Chance}
use Rattle.chances.proofs.Bound.{valid_chance}

pub chance : (card : List ℕ) (c : Read card) (q : Question) (a : Aim) (m : ℕ) (x : Seating) → ValidSeating c.0 x → Chance c.0 q a m x
chance card c q a m x ok = valid_chance c.0 (read_valid card_rule card c.0 c.1) q a m x ok
