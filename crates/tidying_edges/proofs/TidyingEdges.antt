-- Each by computing. Assumes nothing.
use mathlib.Core.Path.{refl}
use Rattle.card.specs.Weight.{units_of}
use Rattle.reading.specs.Reading.{read_under}
use Rattle.tidying.specs.Tidying.{tidy_said, add_said}
use Rattle.tidying_edges.specs.TidyingEdges.{TidyingEdges}

pub tidying_edges : TidyingEdges
unfolding tidy_said add_said read_under units_of
tidying_edges = record {
  same = (refl, refl);
  gaps_closed = (refl, refl);
  unused_end = (refl, refl);
  around = (refl, refl);
  between = (refl, refl);
  overlaps_itself = (refl, refl);
  empty_bodies = (refl, refl);
  again = (refl, refl);
  none_live = (refl, refl);
  field_first = (refl, refl);
  overlap = (refl, refl);
  no_head = ((refl, refl), (refl, refl));
  most_bytes = (refl, refl);
  before_all = (refl, refl);
  in_between = (refl, refl);
  behind_all = (refl, refl);
  room_to_spare = (refl, refl);
  byte_short = (refl, refl);
  from_withdrawn = (refl, refl);
  withdrawn_number = (refl, refl);
  live_already = (refl, refl);
  sixty_fourth = (refl, refl);
  too_many = (refl, refl);
  live_before_many = (refl, refl);
  none_live_first = (refl, refl);
  card_first = (refl, refl);
  decimal = (refl, refl);
  past_most = refl;
  too_long_holds = refl;
}
