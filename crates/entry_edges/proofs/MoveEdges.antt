-- Each by computing. Assumes nothing.
use mathlib.Core.Path.{refl}
use Rattle.card.specs.Weight.{units_of}
use Rattle.reading.specs.Reading.{read_under}
use Rattle.seating.specs.Judged.{judged_seats, judged_by}
use Rattle.moving.specs.FirstMove.{first_move}
use Rattle.move_said.specs.MoveSaid.{move_said}
use Rattle.entry_edges.specs.MoveEdges.{MoveEdges}

pub move_edges : MoveEdges
unfolding move_said read_under units_of judged_seats judged_by first_move
move_edges = record {
  at_001 = (refl, refl);
  at_100 = (refl, refl);
  at_011 = (refl, refl);
  at_012 = (refl, refl);
  second_first_holds = (refl, refl);
  staying = refl;
  seat_count = (refl, refl, refl, refl);
  seat_above = (refl, refl);
  card_first = (refl, refl, refl);
}
