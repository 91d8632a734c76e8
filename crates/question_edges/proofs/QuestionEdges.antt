-- Each by computing. Assumes nothing.
use mathlib.Core.Path.{refl}
use Rattle.card.specs.Weight.{units_of}
use Rattle.reading.specs.Reading.{read_under}
use Rattle.seating.specs.Judged.{judged_seats, judged_by}
use Rattle.asking.specs.Question.{mixed_next}
use Rattle.asking.specs.Asking.{question_of}
use Rattle.ask_said.specs.AskSaid.{ask_said}
use Rattle.question_edges.specs.QuestionEdges.{QuestionEdges}

pub question_edges : QuestionEdges
unfolding ask_said question_of mixed_next read_under units_of judged_seats judged_by
question_edges = record {
  leader_elected = (refl, refl, refl);
  as_printed = (refl, refl);
  any_seat = (refl, refl, refl, refl, refl);
  binding = (refl, refl, refl, refl);
  exactly_one = (refl, refl, refl, refl);
  other_states = (refl, refl, refl, refl);
  one_relation = (refl, refl);
  any_order = (refl, refl);
  one_seat_holds = (refl, refl, refl, refl);
  not_as_said = (refl, refl, refl, refl, refl, refl);
  above_top_holds = (refl, refl);
  others_named = (refl, refl, refl, refl);
  only_one_fits = (refl, refl, refl, refl);
  nothing_asked = (refl, refl, refl);
  depth = (refl, refl, refl, refl, refl);
  nodes = (refl, refl, refl);
  bytes_most = (refl, refl);
  six_digits = (refl, refl);
  outside = (refl, refl, refl);
  order = (refl, refl, refl, refl, refl, refl, refl, refl, refl);
}
