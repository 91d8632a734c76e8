-- The edges of a box: each by computing its definition. Assumes nothing.
use mathlib.Core.Path.{refl}
use Rattle.edges.specs.DeckEdges.{DeckEdges}

pub deck_edges : DeckEdges
deck_edges = record {
  one_entry_holds = (refl, refl, refl);
  written = refl;
  with_gaps = (refl, refl);
  without_gaps = refl;
  empty_bodies = (refl, refl, refl);
  falls_through = (refl, refl);
  from_expansion = (refl, refl);
  expansion_first = (refl, refl);
  in_neither = refl;
  first_place = (refl, refl);
  past_deck = (refl, refl);
  last_fields = (refl, refl, refl);
  same_number = refl;
  overlap = refl;
  wrong_count = (refl, refl, refl, refl);
  two_decks = (refl, refl, refl);
}
