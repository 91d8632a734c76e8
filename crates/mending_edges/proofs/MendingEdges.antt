-- Each by computing. Assumes nothing.
use mathlib.Core.Path.{refl}
use Rattle.card.specs.Weight.{units_of}
use Rattle.reading.specs.Reading.{read_under}
use Rattle.room.specs.Digits.{decimal}
use Rattle.mending.specs.Mending.{mend_said}
use Rattle.mending_edges.specs.MendingEdges.{MendingEdges}

pub mending_edges : MendingEdges
unfolding mend_said read_under units_of decimal
mending_edges = record {
  same = refl;
  gaps_closed = refl;
  wrong_flag = refl;
  wrong_zero_byte = refl;
  same_number = refl;
  number_falls = refl;
  in_contents = refl;
  past_deck = refl;
  overlap = refl;
  not_a_card = refl;
  empty_card = refl;
  first_broken = refl;
  number_stays = refl;
  end_stays = refl;
  flag_moves_nothing = refl;
  number_moves_nothing = refl;
  card_moves_nothing = refl;
  number_0 = refl;
  old_contents = refl;
  empty_first = refl;
  empty_last = refl;
  empty_early = refl;
  empty_past = refl;
  empty_inside = refl;
  empty_moves_end = refl;
  no_head = (refl, refl, refl, refl);
  most_bytes = (refl, refl);
  nothing_kept = (refl, refl);
  head_first = (refl, refl);
  kept_first = (refl, refl);
  both_fit = (refl, refl);
  exact_rooms = (refl, refl);
  deck_first = (refl, refl);
  list_short = (refl, refl);
}
