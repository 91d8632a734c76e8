-- `lines::put_move` meets its contract: no line from a state to itself, nor of weight 0; a weight's line of two states is a move's. Assumes nothing.
use Rattle.lines.specs.Weights.{told_behind, weight_text}
use Rattle.lines.proofs.Weighed.{move_none, weight_move}
use Rattle.panel_wording.proofs.Laws.{move_same}
use Rattle.phrases.specs.Puts.{Puts}
use Rattle.phrases.proofs.Laws.{puts_as, puts_none}
use Rattle.card.specs.Text.{bytes}
use mathlib.Core.List.{[], ◌∷◌}
use borrow.Author.Rules.{rules}
use Rattle.lines.proofs.put_move.Goals as goal
use Rattle.lines.proofs.put_move.Goals.{After-put_weight_line}

-- the old state stands before the new one
old-first : (c : After-put_weight_line)
    → let start = c.args in
    Puts start.room.now c.put_weight_line.new.room start.at (weight_text (bytes "move") (start.old ∷ start.new ∷ []) start.weight (told_behind c.told.result)) c.put_weight_line.result
old-first c = c.put_weight_line.ensures

pub returns-then-old-new : goal.returns-then-old-new
returns-then-old-new c =
    puts_as _ (λ t. move_same c.args.shared _ _ c.args.becomes c.args.weight t c.if-old-new.true) (puts_none (search rules) c.place.ensures)

pub returns-then-weight-eq0 : goal.returns-then-weight-eq0
returns-then-weight-eq0 c =
    puts_as _ (λ t. move_none c.args.shared c.args.becomes _ t c.args.old c.args.new c.if-weight-eq0.true) (puts_none (search rules) c.place-then-weight-eq0.ensures)

pub returns : goal.returns
returns c =
    puts_as _ (λ t. weight_move c.args.shared c.args.becomes c.args.weight t c.told.ensures c.if-weight-eq0.false c.args.old c.args.new c.if-old-new.false)
    (old-first (goal.at.returns c).After-put_weight_line)
