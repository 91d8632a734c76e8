-- `placing::place_card` meets its contract: number, count and room are judged; then the tidied deck takes the card. Assumes nothing.
use Rattle.placing.proofs.Placing.{need_is, few_bytes, number_taken, too_many, too_small, place_found, insertable, placed}
use Rattle.tidy.proofs.Entering.{changed_refused, changed_done}
use Prim.Native.Nat.{◌+◌, ◌<◌}
use lib.ListN.{length}
use Rattle.card.specs.Limits.{most_cards}
use Rattle.deck.specs.Contents.{behind}
use native.Mathlib.Omega.{arith}
use borrow.Author.Rules.{rules}
use Rattle.placing.proofs.place_card.Goals.{Else-live-ge-MOST_CARDS, Then-deck-need}
use Rattle.placing.proofs.place_card.Goals as goal

-- another card has its place among those that a deck may hold
abbrev OneMore : Type 0
OneMore = (c : Else-live-ge-MOST_CARDS) → c.args.live.cards < most_cards

one-more : OneMore
one-more c = c.if-live-ge-MOST_CARDS.false

-- the room is refused only where it is shorter than the new deck
abbrev Short : Type 0
Short = (c : Then-deck-need) → length c.args.deck.now < behind (c.args.live.cards + 1) + c.args.live.bytes + length c.args.card.now

short : Short
short c = c.if-deck-need.true

-- and then with the length that it should have
says-length : OneMore → Short → goal.returns-then-deck-need
says-length one-more short c =
    changed_refused (too_small c.args.deck.now c.args.number c.args.card.now c.requires (c.in_default.ensures)
    (one-more (goal.at.returns-then-deck-need c).Else-live-ge-MOST_CARDS) (short (goal.at.returns-then-deck-need c).Then-deck-need))

pub live_place-requires : goal.live_place-requires
live_place-requires c = c.requires.sound.head

pub returns-in-Some : goal.returns-in-Some
returns-in-Some c =
    changed_refused (number_taken c.args.deck.now c.args.number c.args.card.now c.requires (c.in-Some.ensures))

pub returns-then-live-ge-MOST_CARDS : goal.returns-then-live-ge-MOST_CARDS
returns-then-live-ge-MOST_CARDS c =
    changed_refused (too_many c.args.deck.now c.args.number c.args.card.now c.requires (c.in_default.ensures) c.if-live-ge-MOST_CARDS.true)

pub overflow_add-need-3 : goal.overflow_add-need-3
overflow_add-need-3 c =
    omega (arith, c.if-live-ge-MOST_CARDS.false, few_bytes c.args.deck.now c.args.number c.args.card.now c.requires)

pub overflow_add-need-4 : goal.overflow_add-need-4
overflow_add-need-4 c =
    let b = few_bytes c.args.deck.now c.args.number c.args.card.now c.requires in
    search rules

pub returns-then-deck-need : goal.returns-then-deck-need
returns-then-deck-need = says-length one-more short

pub close_up-requires : goal.close_up-requires
close_up-requires c =
    c.requires

pub insert_card-requires : goal.insert_card-requires
insert_card-requires c =
    insertable c.args.deck.now c.args.number c.args.card.now c.requires c.close_up.ensures (search rules) (one-more (goal.at.insert_card-requires c).Else-live-ge-MOST_CARDS) c.if-deck-need.false

pub returns : goal.returns
returns c =
    let deck = c.args.deck.now in
    let number = c.args.number in
    let card = c.args.card.now in
    let free = c.in_default.ensures in
    changed_done
    (place_found deck number card c.requires free (one-more (goal.at.returns c).Else-live-ge-MOST_CARDS) c.if-deck-need.false)
    (placed deck number card c.requires c.close_up.ensures c.if-deck-need.false c.insert_card.ensures)
    (need_is deck number card c.requires)
