-- Each by computing. Assumes nothing.
use mathlib.Core.Path.{refl}
use Rattle.card_promises.specs.Figures.{Figures}

pub figures : Figures
figures = record {
  card_bytes_holds = refl;
  seats = refl;
  top_state_holds = refl;
  statements = refl;
  branches = refl;
  nodes = refl;
  depth = refl;
  number_digits_holds = refl;
  further_digits_holds = refl;
  word_digits_holds = refl;
  unit_is = refl;
  weight_digits_holds = refl;
  too_long_holds = refl;
  outside_rules_holds = refl;
  out_of_shape_holds = refl;
  past_limit_holds = refl;
  above_top_holds = refl;
  not_due_holds = refl;
  wrong_weight_holds = refl;
  wrong_seats_holds = refl;
  seat_above_top_holds = refl;
  room_too_small_holds = refl;
  input_bytes_holds = refl;
  line_end_holds = refl;
  digit_0 = refl;
  no_state_holds = refl;
  question_too_long = refl;
  question_outside_rules = refl;
  question_out_of_shape = refl;
  question_past_limit = refl;
  question_above_top = refl;
  question_not_due = refl;
  deck_bytes_holds = refl;
  deck_cards = refl;
  count_bytes_holds = refl;
  entry_bytes_holds = refl;
  offset_at_holds = refl;
  size_at_holds = refl;
  flag_at_holds = refl;
  zero_byte_at_holds = refl;
  expansion_from_holds = refl;
  malformed_deck_holds = refl;
  no_live_card_holds = refl;
  most_nights_holds = refl;
  most_vectors_holds = refl;
  certain = refl;
  too_many_vectors_holds = refl;
  too_many_nights_holds = refl;
  wrong_row_holds = refl;
  top_shared_holds = refl;
  decimal_weight_holds = refl;
  not_converted_holds = refl;
  not_added_holds = refl;
  written_room_holds = refl;
  reduced_room_holds = refl;
  panel_room_holds = refl;
  top_class_holds = refl;
  public_classes_holds = refl;
  wrong_classes_holds = refl;
  classes_room_holds = refl;
  list_room_holds = refl;
}
