-- `moves_text::put_from` meets its contract: a row holds the weights from one state. Assumes nothing.
use Rattle.phrases.proofs.Laws.{puts_as}
use Rattle.panel_numbers.specs.Table.{weight_places}
use Rattle.card.proofs.Filling.{zeros_repeat}
use Rattle.moves_text.proofs.Blocks.{from_long, from_text}
use mathlib.Core.Path.{sym}
use Rattle.moves_text.proofs.put_from.Goals as goal

pub weigh_from-requires : goal.weigh_from-requires
weigh_from-requires c = (c.requires.weighing, sym (zeros_repeat weight_places))

pub slice_bounds-put_moves-end : goal.slice_bounds-put_moves-end
slice_bounds-put_moves-end c = sym (from_long _ _ _ _ _ c.weigh_from.ensures)

pub put_moves-requires : goal.put_moves-requires
put_moves-requires c =
    record { top = c.requires.weighing.fitting.top; values = c.requires.values; long = from_long _ _ _ _ _ c.weigh_from.ensures }

pub returns : goal.returns
returns c =
    puts_as _ (from_text _ _ _ _ _ c.weigh_from.ensures c.args.head.top c.args.head.shared c.requires.weighing.fitting.top c.requires.values) c.put_moves.ensures
