-- Each by computing. Assumes nothing.
use mathlib.Core.Path.{refl}
use Rattle.card.specs.Weight.{units_of}
use Rattle.card.specs.Laid.{padded, zeros}
use Rattle.reading.specs.Reading.{read_under}
use Rattle.room.specs.Digits.{decimal}
use Rattle.meaning.specs.Choices.{choices_of}
use Rattle.meaning.specs.Seats.{counts}
use Rattle.meaning.specs.Reduced.{copy, reduce, can_take, reduced_turn, reduced_turns_by, reduced_choices}
use Rattle.meaning.specs.CardA.{card_a}
use Rattle.seating.specs.Judged.{judged_seats, judged_by}
use Rattle.asking.specs.Question.{mixed_next}
use Rattle.asking.specs.Asking.{question_of}
use Rattle.evenings.specs.Rounds.{round}
use Rattle.evenings.specs.Scales.{bottom, exactly, millionths}
use Rattle.evenings.specs.Evenings.{count_table}
use Rattle.evenings.specs.Leader.{leader_card}
use Rattle.vectors.specs.Vectors.{vectors}
use Rattle.vectors.specs.Positions.{positions}
use Rattle.chances.specs.Chances.{round_row, row_before}
use Rattle.odds_said.specs.OddsSaid.{odds_said}
use Rattle.odds_edges.specs.OddsEdges.{OddsEdges}

pub odds_edges : OddsEdges
unfolding odds_said decimal question_of mixed_next read_under units_of judged_seats judged_by vectors positions round_row row_before padded zeros counts round millionths exactly bottom count_table reduced_choices reduced_turns_by choices_of reduce can_take reduced_turn copy card_a leader_card
odds_edges = record {
  card_a_holds = (refl, refl, refl, refl);
  card_a_exact = (refl, refl, refl);
  chosen = (refl, refl, refl, refl);
  chosen_exact = (refl, refl);
  leader = (refl, refl, refl, refl, refl, refl, refl);
  leader_exact = (refl, refl, refl, refl);
  each_step = (refl, refl);
  together = (refl, refl);
  aims = (refl, refl, refl, refl, refl, refl, refl);
  held_once = (refl, refl);
  rows = (refl, refl, refl, refl);
  vectors_few = refl;
  vectors_many = refl;
  steps = (refl, refl, refl);
  lengths = (refl, refl, refl, refl, refl);
  order = (refl, refl, refl, refl, refl, refl, refl);
}
