-- The marked edges: each by computing its definition. Assumes nothing.
use mathlib.Core.Path.{refl}
use Rattle.card.specs.Weight.{units_of}
use Rattle.reading.specs.Reading.{read_under}
use Rattle.room.specs.Digits.{decimal}
use Rattle.meaning.specs.Panel.{panel}
use Rattle.panel_wording.specs.PanelText.{panel_of}
use Rattle.meaning.specs.CardA.{card_a}
use Rattle.edges.specs.Edges.{Edges, MarkEdges, RunEdges, UnitEdges, DecimalEdges}

pub edges : Edges
unfolding panel_of panel card_a decimal units_of read_under
edges = record {
  at_001 = refl;
  at_100 = refl;
  at_012 = (refl, refl);
  at_011 = refl;
  at_000 = refl;
  nondeterministic_001 = (refl, refl);
  seventh = refl;
  eleventh = (refl, refl);
  two_seats = (refl, refl);
  further_digits_holds = (refl, refl);
  any_order = (refl, refl);
}

pub mark_edges : MarkEdges
mark_edges = record { range = refl; decimals = refl; words = refl; comments = refl; classes = refl; zero_in_front = refl; seven_digits = (refl, refl); lone_point = refl }

pub run_edges : RunEdges
unfolding decimal units_of read_under
run_edges = record {
  ends_early = (refl, refl);
  modules_16 = refl;
  modules_17 = refl;
  top_states = (refl, refl);
  depth_8 = refl;
  depth_9 = refl;
  bar = refl;
  uneven = (refl, refl, refl);
  above = (refl, refl);
  sum = refl;
  outside_first = refl;
  other_word = refl;
}

pub unit_edges : UnitEdges
unfolding units_of read_under
unit_edges = record {
  whole_unit = refl;
  divides = (refl, refl, refl, refl, refl);
  above_one = refl;
  old_unit = refl;
  six_digits = (refl, refl);
  seven_digits = (refl, refl);
  further_digits_holds = (refl, refl);
  words = (refl, refl);
}

pub decimal_edges : DecimalEdges
unfolding units_of read_under
decimal_edges = record {
  retired = (refl, refl, refl, refl);
  by_place = (refl, refl, refl, refl, refl);
  shape_first = refl;
  as_before = (refl, refl, refl, refl, refl);
  in_a_comment = refl;
}
