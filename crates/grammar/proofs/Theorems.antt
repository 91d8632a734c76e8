-- What is proved of reading, each under one name: when a card is taken (accepted); when each refusal is given, and where (refusal-1 to
-- refusal-7); that what is taken is valid (read_valid); and that marks, judgements and what the limits count stand in the order of the text,
-- so that the first of a list is the one at the earliest place. Assumes nothing.
use Prim.Native.Nat.{ℕ}
use mathlib.Core.List.{List, [], map}
use lib.ListN.{length}
use Rattle.card.specs.Weight.{Rule}
use Rattle.marks_on_a_card.specs.Marks.{marks_of, place_of}
use Rattle.reading.specs.Reader.{Place}
use Rattle.reading.specs.Judgements.{place_in}
use Rattle.reading.specs.Shape.{CardShape}
use Rattle.reading.specs.Checks.{judged_card}
use Rattle.grammar.specs.Grammar.{CardSaid}
use Rattle.grammar.specs.Counted.{Counted, counted_card}
use Rattle.grammar.proofs.Along.{strictly, weakly, Along, Ascending, ascending, card_along}
use Rattle.grammar.proofs.Ordered.{card_counting}
pub use Rattle.grammar.proofs.Reasons.{accepted, refusal_1, refusal_2, refusal_3, refusal_4, refusal_5, refusal_6, refusal_7, refusal_17}
pub use Rattle.grammar.proofs.Valid.{read_valid}
pub use Rattle.reading.proofs.Rising.{marks_rise}

-- the places of a card's judgements rise
pub judgements_rise : (decimals : Rule) (s : List ℕ) (c : CardShape) → CardSaid (marks_of s) c
    → Ascending strictly 0 (length s) (map (λ j. place_of (length s) (place_in j)) (judged_card decimals c))
judgements_rise decimals s c d = ascending strictly place_in (marks_of s) [] 0 (length s) (judged_card decimals c) (card_along decimals d) (marks_rise s)

-- what the limits count stands at marks from the front to the end
pub counted_in_order : (ms : Place) (c : CardShape) (d : CardSaid ms c) → Along weakly (λ (x : Counted). x.place) ms (counted_card d) []
counted_in_order ms c d = card_counting d
