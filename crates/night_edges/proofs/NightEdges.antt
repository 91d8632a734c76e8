-- Each by computing. Assumes nothing.
use mathlib.Core.Path.{refl}
use Rattle.card.specs.Weight.{units_of}
use Rattle.card.specs.Laid.{padded, zeros}
use Rattle.reading.specs.Reading.{read_under}
use Rattle.room.specs.Digits.{decimal}
use Rattle.meaning.specs.Choices.{choices_of}
use Rattle.meaning.specs.Seats.{counts}
use Rattle.meaning.specs.Reduced.{copy, reduce, can_take, reduced_turn, reduced_turns_by, reduced_choices}
use Rattle.meaning.specs.Panel.{panel}
use Rattle.seating.specs.Judged.{judged_seats, judged_by}
use Rattle.asking.specs.Question.{mixed_next}
use Rattle.asking.specs.Asking.{question_of}
use Rattle.evenings.specs.Rounds.{round}
use Rattle.evenings.specs.Scales.{bottom, exactly, millionths}
use Rattle.evenings.specs.Evenings.{count_table}
use Rattle.vectors.specs.Vectors.{vectors}
use Rattle.vectors.specs.Positions.{positions}
use Rattle.classes.specs.Classes.{watch_of}
use Rattle.classes.specs.ClassesSaid.{judged_classes}
use Rattle.moving.specs.FirstMove.{first_move}
use Rattle.chances.specs.Chances.{round_row, row_before}
use Rattle.phrases.specs.Phrases.{weight_text}
use Rattle.texts.specs.Shared.{formula_text}
use Rattle.panel_wording.specs.PanelText.{panel_of}
use Rattle.texts.specs.Writing.{statement_text, write_of}
use Rattle.texts.specs.ReducedText.{reduced_text, program_text}
use Rattle.texts_said.specs.WriteSaid.{write_said}
use Rattle.texts_said.specs.ReduceSaid.{reduce_said}
use Rattle.panel_said.specs.PanelSaid.{panel_said}
use Rattle.ask_said.specs.AskSaid.{ask_said}
use Rattle.move_said.specs.MoveSaid.{move_said}
use Rattle.watch_said.specs.WatchSaid.{watch_said}
use Rattle.odds_said.specs.OddsSaid.{odds_said}
use Rattle.night_edges.specs.NightEdges.{ReadingEdges, TextEdges, PanelEdges, OtherEdges}

pub reading_edges : ReadingEdges
unfolding units_of read_under decimal judged_seats judged_by question_of mixed_next ask_said panel panel_of panel_said
reading_edges = record {
  card = (refl, refl);
  range = (refl, refl, refl, refl, refl);
  declaration = (refl, refl, refl, refl);
  test_value = (refl, refl);
  depth = (refl, refl);
  no_depth = (refl, refl, refl, refl);
  nodes = refl;
  alone = (refl, refl);
  update = (refl, refl, refl);
  undeclared_g = (refl, refl);
}

pub text_edges : TextEdges
unfolding units_of read_under decimal weight_text formula_text statement_text write_of reduced_text program_text reduce copy write_said reduce_said
text_edges = record { written = refl; blanks = refl; reduced = refl; kept = (refl, refl) }

pub panel_edges : PanelEdges
unfolding units_of read_under decimal judged_seats judged_by panel panel_of panel_said
panel_edges = record {
  acting = (refl, refl);
  stuck = (refl, refl);
  stays = refl;
  each = refl;
  merged = refl;
  chosen = (refl, refl);
  one_value = (refl, refl);
  other = (refl, refl);
  reordered = refl;
  order = refl;
  seats = (refl, refl);
  above = (refl, refl);
  without = (refl, refl);
}

pub other_edges : OtherEdges
unfolding units_of read_under decimal judged_seats judged_by question_of ask_said move_said watch_said odds_said mixed_next watch_of judged_classes first_move vectors positions round_row row_before padded zeros counts round millionths exactly bottom count_table reduced_choices reduced_turns_by choices_of reduce can_take reduced_turn copy
other_edges = record {
  asked = (refl, refl, refl, refl, refl, refl);
  moves = (refl, refl, refl);
  seats = (refl, refl, refl, refl, refl);
  watched = (refl, refl);
  odds = (refl, refl, refl);
  pairs = (refl, refl);
}
