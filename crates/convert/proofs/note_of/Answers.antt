-- `convert::note_of` meets its contract: a withdrawn card has none, and a live one's is the card's. Assumes nothing.
use native.Mathlib.Omega.{arith}
use Rattle.convert.proofs.Entry.{unread, in_deck, noted}
use Rattle.convert.proofs.note_of.Goals as goal

pub returns-then-deck-from-eq0 : goal.returns-then-deck-from-eq0
returns-then-deck-from-eq0 c =
    unread c.args.deck.now c.args.from c.requires.right_row c.if-deck-from-eq0.true

pub slice_bounds-note_of_card-end : goal.slice_bounds-note_of_card-end
slice_bounds-note_of_card-end c =
    in_deck c.args.deck.now c.args.from c.requires.right_row c.word_at-offset.ensures.0 c.word_at-size.ensures.0

pub returns : goal.returns
returns c =
    noted c.args.deck.now c.args.from c.requires.right_row c.word_at-offset.ensures.0 c.word_at-size.ensures.0 (λ z. omega arith) c.note_of_card.ensures
