-- The documents' figures, each beside the name by which every definition and every contract speaks of it. Assumes nothing.
use Rattle.std.specs.Prelude.{◌≡◌}
use Rattle.card.specs.Limits.{card_bytes, most_seats, top_state, top_shared, most_statements, most_branches, most_nodes, most_depth, number_digits, further_digits, word_digits, unit, weight_digits}
use Rattle.card.specs.Limits.{deck_bytes, most_cards, count_bytes, entry_bytes, offset_at, size_at, flag_at, zero_byte_at, expansion_from}
use Rattle.card.specs.Refusals.{too_long, outside_rules, out_of_shape, past_limit, above_top, not_due, wrong_weight, wrong_seats, seat_above_top, room_too_small}
use Rattle.card.specs.Limits.{top_class, public_classes}
use Rattle.card.specs.Refusals.{malformed_deck, no_live_card, decimal_weight, not_converted, not_added}
use Rattle.card.specs.Refusals.{wrong_classes}
use Rattle.room.specs.Digits.{digit}
use Rattle.texts.specs.Lengths.{written_room, reduced_room}
use Rattle.panel_wording.specs.PanelRoom.{panel_room}
use Rattle.panel_wording.specs.Lines.{input_bytes, line_end, no_state}
use Rattle.asking.specs.Asking.{in_question}
use Rattle.classes.specs.ClassesRoom.{classes_room}
use Rattle.mending.specs.Mending.{list_room}
use Rattle.evenings.specs.Limits.{most_nights, most_vectors, million, too_many_vectors, too_many_nights, wrong_row}

pub record Figures : Type 0 where
  -- "What the box holds"; digits as document 02, 2026-06, has them
  pub card_bytes_holds : card_bytes ≡ 16384
  pub seats : most_seats ≡ 16
  pub top_state_holds : top_state ≡ 7
  pub statements : most_statements ≡ 32
  pub branches : most_branches ≡ 8
  pub nodes : most_nodes ≡ 32
  pub depth : most_depth ≡ 8
  pub number_digits_holds : number_digits ≡ 6
  -- "Marks on a card": digits behind a point, and in a seat or module word
  pub further_digits_holds : further_digits ≡ 6
  pub word_digits_holds : word_digits ≡ 5
  -- "Shape of a card", with the unit of 2026-06: a weight of 1, and the digits that a decimal weight may have behind its point under the old rule
  pub unit_is : unit ≡ 277200
  pub weight_digits_holds : weight_digits ≡ 2
  -- "Refusal numbers"
  pub too_long_holds : too_long ≡ 1
  pub outside_rules_holds : outside_rules ≡ 2
  pub out_of_shape_holds : out_of_shape ≡ 3
  pub past_limit_holds : past_limit ≡ 4
  pub above_top_holds : above_top ≡ 5
  pub not_due_holds : not_due ≡ 6
  pub wrong_weight_holds : wrong_weight ≡ 7
  pub wrong_seats_holds : wrong_seats ≡ 8
  pub seat_above_top_holds : seat_above_top ≡ 9
  pub room_too_small_holds : room_too_small ≡ 10
  -- "Texts, byte for byte", the program: bytes that it reads, LF, the byte of digit 0, the state of what is no digit
  pub input_bytes_holds : input_bytes ≡ 65536
  pub line_end_holds : line_end ≡ 10
  pub digit_0 : digit 0 ≡ 48
  pub no_state_holds : no_state ≡ 255
  -- document 02, 2026-01: a question's refusals
  pub question_too_long : in_question too_long ≡ 21
  pub question_outside_rules : in_question outside_rules ≡ 22
  pub question_out_of_shape : in_question out_of_shape ≡ 23
  pub question_past_limit : in_question past_limit ≡ 24
  pub question_above_top : in_question above_top ≡ 25
  pub question_not_due : in_question not_due ≡ 26
  -- document 02, 2026-02: a deck's bytes and cards, its count and an entry, where the fields behind an entry's number stand, where an expansion's
  -- places begin, and its refusals
  pub deck_bytes_holds : deck_bytes ≡ 65535
  pub deck_cards : most_cards ≡ 64
  pub count_bytes_holds : count_bytes ≡ 1
  pub entry_bytes_holds : entry_bytes ≡ 8
  pub offset_at_holds : offset_at ≡ 2
  pub size_at_holds : size_at ≡ 4
  pub flag_at_holds : flag_at ≡ 6
  pub zero_byte_at_holds : zero_byte_at ≡ 7
  pub expansion_from_holds : expansion_from ≡ 65536
  pub malformed_deck_holds : malformed_deck ≡ 11
  pub no_live_card_holds : no_live_card ≡ 12
  -- document 02, 2026-05: the top class, how many classes there are, and the refusal of a list
  pub top_class_holds : top_class ≡ 7
  pub public_classes_holds : public_classes ≡ 8
  pub wrong_classes_holds : wrong_classes ≡ 13
  -- document 02, 2026-08: steps ahead, count vectors and numbers in a row, a chance of 1, and its refusals
  pub most_nights_holds : most_nights ≡ 32
  pub most_vectors_holds : most_vectors ≡ 512
  pub certain : million ≡ 1000000
  pub too_many_vectors_holds : too_many_vectors ≡ 14
  pub too_many_nights_holds : too_many_nights ≡ 15
  pub wrong_row_holds : wrong_row ≡ 16
  -- document 02, 2026-10: the most that the shared number may be
  pub top_shared_holds : top_shared ≡ 7
  -- document 02, 2026-11: a decimal weight, and a card that cannot be converted
  pub decimal_weight_holds : decimal_weight ≡ 17
  pub not_converted_holds : not_converted ≡ 18
  -- document 02, 2026-12: a card that cannot be added
  pub not_added_holds : not_added ≡ 19
  -- rooms that every text fits into; they are the project's own figures
  pub written_room_holds : written_room ≡ 85481
  pub reduced_room_holds : reduced_room ≡ 392972
  pub panel_room_holds : panel_room ≡ 5774
  pub classes_room_holds : classes_room ≡ 25
  pub list_room_holds : list_room ≡ 640
