-- Each by computing. Assumes nothing.
use mathlib.Core.Path.{refl}
use Rattle.card.specs.Weight.{units_of}
use Rattle.reading.specs.Reading.{read_under}
use Rattle.room.specs.Digits.{decimal}
use Rattle.seating.specs.Judged.{judged_seats, judged_by}
use Rattle.classes.specs.Classes.{class_counts, classes_text, watch_of}
use Rattle.classes.specs.ClassesSaid.{judged_classes}
use Rattle.watch_said.specs.WatchSaid.{watch_said}
use Rattle.entry_edges.specs.SpectatorEdges.{SpectatorEdges}

pub spectator_edges : SpectatorEdges
unfolding watch_said read_under units_of judged_seats judged_by judged_classes watch_of class_counts classes_text decimal
spectator_edges = record {
  at_001 = (refl, refl);
  alike = (refl, refl);
  eight_states = refl;
  one_class = (refl, refl);
  longest = (refl, refl);
  wrong_length = (refl, refl, refl, refl);
  class_8 = (refl, refl, refl);
  order = (refl, refl, refl, refl);
  room = (refl, refl, refl, refl, refl);
}
