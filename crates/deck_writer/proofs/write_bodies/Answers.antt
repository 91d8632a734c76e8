-- `deck_writer::write_bodies` meets its contract: bodies, total and room, in this order. Assumes nothing.
use Prim.Native.Nat.{ℕ, ◌+◌, ◌≤◌, ◌<◌}
use mathlib.Core.Path.{◌≡◌}
use native.Mathlib.Omega.{arith}
use lib.ListN.{length}
use Rattle.card.specs.Limits.{deck_bytes}
use Rattle.deck_writer.specs.Parts.{DeckPut}
use Rattle.room.proofs.Entries.{entered_refused}
use Rattle.deck_writer.proofs.Entering.{few_entries, long_is, other_length, too_long, is_fine, small_room, stored}
use borrow.Author.Rules.{rules}
use Rattle.deck_writer.proofs.write_bodies.Goals.{After-put_deck, Else-long-bodies, Then-room-need}
use Rattle.deck_writer.proofs.write_bodies.Goals as goal

-- it goes on only where the bodies are as long as the lengths say together
whole : (c : Else-long-bodies) → c.args.long ≡ length c.args.bodies.now
whole c = c.if-long-bodies.false

-- what is held against the most bytes of a deck, and then against the room
abbrev held : {long : ℕ} → long ≤ deck_bytes → ℕ
held {long} _ = long

-- a room is refused only where it is shorter
short-room : (c : Then-room-need) → length c.args.room.now < held c.if-need-gt-DECK_BYTES.false
short-room c = c.if-room-need.true

-- the first body stands right behind the contents
no-gap : (c : After-put_deck) →
    DeckPut c.args.room.now c.put_deck.new.room c.args.contents.now c.args.bodies.now (1 + length c.args.contents.now) c.put_deck.result
no-gap c = c.put_deck.ensures

pub returns-then-long-bodies : goal.returns-then-long-bodies
returns-then-long-bodies c =
    rw c.malformed.ensures (entered_refused (other_length c.args.contents.now c.args.bodies.now c.requires (λ e. omega (arith, e, c.if-long-bodies.true))))

-- there are few entries, so the sum fits whatever is put before them
pub overflow_add-need : goal.overflow_add-need
overflow_add-need c =
    search (rules, few_entries c.args.contents.now c.args.bodies.now c.requires)

pub returns-then-need-gt-DECK_BYTES : goal.returns-then-need-gt-DECK_BYTES
returns-then-need-gt-DECK_BYTES c =
    rw c.malformed-then-need-gt-DECK_BYTES.ensures (entered_refused (too_long c.args.contents.now c.args.bodies.now c.requires (whole (goal.at.returns-then-need-gt-DECK_BYTES c).Else-long-bodies) c.if-need-gt-DECK_BYTES.true))

pub returns-then-room-need : goal.returns-then-room-need
returns-then-room-need c =
    small_room (is_fine c.args.contents.now c.args.bodies.now c.requires (whole (goal.at.returns-then-room-need c).Else-long-bodies) c.if-need-gt-DECK_BYTES.false) (short-room (goal.at.returns-then-room-need c).Then-room-need)

pub put_deck-requires : goal.put_deck-requires
put_deck-requires c =
    record { contents_len_bound = few_entries c.args.contents.now c.args.bodies.now c.requires; contents_bound = omega (arith, long_is c.args.contents.now c.args.bodies.now c.requires, whole (goal.at.put_deck-requires c).Else-long-bodies, c.if-need-gt-DECK_BYTES.false) }

pub returns : goal.returns
returns c =
    stored (is_fine c.args.contents.now c.args.bodies.now c.requires (whole (goal.at.returns c).Else-long-bodies) c.if-need-gt-DECK_BYTES.false) c.if-room-need.false (no-gap (goal.at.returns c).After-put_deck)
