-- `leaf_text::put_literals` meets its contract: one literal more after each turn. Assumes nothing.
use Rattle.leaf_text.proofs.Laws.{next_literal}
use Rattle.phrases.proofs.Counted.{counted}
use Rattle.phrases.specs.Puts.{Puts}
use Rattle.card.specs.Laid.{either}
use Rattle.card.specs.Card.{all, any, is, isnt}
use Prim.Native.Nat.{◌≤◌, ◌-◌}
use Rattle.leaf_text.proofs.put_literals.Given as goal

abbrev pub invariant-loop-i : goal.invariant-loop-i
invariant-loop-i l = (l.i - l.first ≤ l.seats - l.first) × Puts l.initial.room l.room l.at (counted (next_literal (either all any l.sign) (either is isnt l.relation) l.state) l.first (l.i - l.first)) l.to
