-- `mended_rooms::store_mended` meets its contract: nothing kept, the deck and its room, the list and its room, in this order; then both are put. Assumes nothing.
use Prim.Native.Nat.{ℕ, ◌+◌, ◌≤◌, ◌<◌}
use mathlib.Core.Path.{◌≡◌}
use native.Mathlib.Omega.{arith}
use mathlib.Core.List.{List}
use lib.ListN.{length}
use Rattle.deck.specs.Contents.{behind}
use Rattle.mended_rooms.proofs.Entering.{nothing_kept, need_small, small_room, small_list, both_put}
use Rattle.mended_rooms.proofs.store_mended.Goals.{Else-cards-eq0, Then-list-lines, Then-room-need}
use Rattle.mended_rooms.proofs.store_mended.Goals as goal

-- it goes on only where a card is kept
some-kept : (c : Else-cards-eq0) → c.args.cards ≡ 0 → ⊥
some-kept c = c.if-cards-eq0.false

-- the deck's room is too short, or the list's
abbrev TooShort : (cards bytes lines : ℕ) (room list : List ℕ) → Type 0
TooShort cards bytes lines room list = behind cards + bytes ≤ length room → lines ≤ length list → ⊥

-- a room is refused only then
only-short : ((c : Then-room-need) → TooShort c.args.cards c.args.bytes c.put_list-lines.result c.args.room.now c.args.list.now)
    × ((c : Then-list-lines) → TooShort c.args.cards c.args.bytes c.put_list-lines.result c.args.room.now c.args.list.now)
only-short = (λ c deck list. omega (arith, c.if-room-need.true), λ c deck list. omega (arith, c.if-list-lines.true))

-- and the deck's before the list's
deck-first : (c : Then-room-need) → length c.args.room.now < behind c.args.cards + c.args.bytes
deck-first c = c.if-room-need.true

pub returns-then-cards-eq0 : goal.returns-then-cards-eq0
returns-then-cards-eq0 c =
    rw c.malformed.ensures (nothing_kept c.requires.fates c.if-cards-eq0.true)

pub overflow_mul-need : goal.overflow_mul-need
overflow_mul-need c =
    omega (arith, need_small c.requires.fates c.requires.bytes_value)

pub overflow_add-need : goal.overflow_add-need
overflow_add-need c =
    omega (arith, need_small c.requires.fates c.requires.bytes_value)

pub overflow_add-need-2 : goal.overflow_add-need-2
overflow_add-need-2 c =
    omega (arith, need_small c.requires.fates c.requires.bytes_value)

pub returns-then-room-need : goal.returns-then-room-need
returns-then-room-need c =
    small_room c.requires.fates c.requires.bytes_value c.args.room.now c.args.list.now (some-kept (goal.at.returns-then-room-need c).Else-cards-eq0) (deck-first (goal.at.returns-then-room-need c).Then-room-need)

pub returns-then-list-lines : goal.returns-then-list-lines
returns-then-list-lines c =
    let list-long : c.put_list-lines.result ≤ length c.args.list.now → ⊥ = only-short.1 (goal.at.returns-then-list-lines c).Then-list-lines (omega arith) in
    small_list c.requires.fates c.requires.bytes_value c.args.room.now c.args.list.now (some-kept (goal.at.returns-then-list-lines c).Else-cards-eq0) (omega arith) c.put_list-lines.ensures (omega (arith, list-long))

pub put_mended-deck_length-requires : goal.put_mended-deck_length-requires
put_mended-deck_length-requires c =
    c.requires.fates

pub returns : goal.returns
returns c =
    both_put c.requires.fates c.requires.bytes_value c.args.room.now c.args.list.now (some-kept (goal.at.returns c).Else-cards-eq0) c.if-room-need.false c.put_list-lines.ensures c.if-list-lines.false c.put_mended-deck_length.ensures c.put_list-list_length.ensures
