-- The written card, by citing; the texts written out, by computing. Assumes nothing.
use mathlib.Core.Path.{◌≡◌, refl, sym, ap, ◌∙◌}
use Rattle.card.specs.Weight.{card_rule}
use Rattle.reading.specs.Reading.{taken}
use Rattle.room.specs.Digits.{decimal}
use Rattle.meaning.specs.CardA.{card_a}
use Rattle.phrases.specs.Phrases.{gcd, divisor}
use Rattle.room.proofs.Decimal.{decimal_exactly}
use Rattle.phrases.proofs.Lowest.{lowest_terms, lowest_kept}
use Rattle.texts.specs.Writing.{write_of}
use Rattle.rereading.proofs.RoundTrip.{round_trip, written_once, read_again}
use Rattle.card.specs.Card.{Mode, nondeterministic, probabilistic, Card}
use Rattle.edges.specs.Edges.{text_a}
use Rattle.promises.specs.Writings.{Writings}

same_taken : (c d : Card) → taken c ≡ taken d → c ≡ d
same_taken c d e = cc

card_a_written : (mode : Mode) → write_of (card_a mode) ≡ text_a mode
unfolding write_of card_a decimal gcd divisor
card_a_written nondeterministic = refl
card_a_written probabilistic = refl

pub writings : Writings
unfolding write_of decimal gcd divisor
writings = record {
  card_a_holds = card_a_written;
  brackets = refl;
  whole_bars = refl;
  again = read_again card_rule card_rule;
  round_trip = round_trip card_rule;
  canonical = λ c d v w. ((λ e. ap write_of e), written_once c d v w);
  settled = λ s c d e h f. ap write_of (sym (same_taken c d (sym (read_again card_rule card_rule s c e h) ∙ f)));
  numerals = decimal_exactly;
  lowest_terms = lowest_terms;
  worth = lowest_kept;
}
