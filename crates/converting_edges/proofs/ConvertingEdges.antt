-- Each by computing. Assumes nothing.
use mathlib.Core.Path.{refl}
use Rattle.card.specs.Weight.{units_of}
use Rattle.reading.specs.Reading.{read_under}
use Rattle.room.specs.Digits.{decimal}
use Rattle.phrases.specs.Phrases.{gcd, divisor}
use Rattle.texts.specs.Writing.{write_of}
use Rattle.mending.specs.Mending.{mend_said}
use Rattle.converting.specs.Converting.{convert_said}
use Rattle.converting_edges.specs.ConvertingEdges.{ConvertingEdges}

pub converting_edges : ConvertingEdges
unfolding convert_said mend_said read_under units_of write_of decimal gcd divisor
converting_edges = record {
  decimals = refl;
  one_decimal = refl;
  longer = refl;
  whole = refl;
  blanks_go = refl;
  comment_goes = refl;
  shared_number = refl;
  nothing = refl;
  two_live = refl;
  unchanged = refl;
  blanks_stay = refl;
  comment = refl;
  unreduced = refl;
  no_units = refl;
  withdrawn = refl;
  empty = refl;
  gaps_closed = refl;
  again = refl;
  mended = refl;
  converted_first = refl;
  withdrawn_mended = refl;
  no_card = refl;
  no_byte = refl;
  wrong_decimal = refl;
  number_0 = refl;
  two_bytes = refl;
  first_such = refl;
  most_bytes = (refl, refl);
  first_past = refl;
  malformed = (refl, refl, refl);
  card_first = (refl, refl);
  room_to_spare = (refl, refl);
  exact_room = (refl, refl);
  room_short = (refl, refl);
}
