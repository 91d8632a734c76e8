-- `convert::notes_into` meets its contract: entry by entry, where notes found so far stand before those that follow (`Going`). Assumes nothing.
use native.Mathlib.Omega.{arith}
use Prim.Native.Nat.{◌+◌, ◌<◌}
use Rattle.card.specs.Limits.{deck_bytes}
use Rattle.deck.specs.Contents.{count_of}
use Rattle.converted_rows.specs.Notes.{numbers_of}
use Rattle.converted_rows.proofs.Numbers.{within, stored}
use Rattle.convert.proofs.Walk.{begins, ended, in_contents, right_row, end_small, stopped, goes_on}
use Rattle.convert.proofs.notes_into.Goals.{Then-end-gt-DECK_BYTES}
use Rattle.convert.proofs.notes_into.Goals as goal

-- it stops only where a body ends past the longest deck
abbrev Past : Type 0
Past = (c : Then-end-gt-DECK_BYTES) → deck_bytes < c.loop-i.end + c.new_size-end.result

past : Past
past c = c.if-end-gt-DECK_BYTES.true

-- where it stops for that, it names the card by its number
names-card : Past → goal.returns-then-end-gt-DECK_BYTES
names-card past c =
    let less : c.loop-i.i < count_of c.args.deck.now = omega (arith, c.loop-i-test.true, c.requires.count_value) in
    stopped c.args.deck.now c.requires.sound c.loop-i.invariant less c.note_of-note.ensures c.new_size-end.ensures
    (past (goal.at.returns-then-end-gt-DECK_BYTES c).Then-end-gt-DECK_BYTES) c.word_at-number.ensures.0

pub loop-i-init : goal.loop-i-init
loop-i-init c = begins c.args.deck.now c.requires.sound (numbers_of c.args.notes.now) c.requires.count_value

pub note_of-note-requires : goal.note_of-note-requires
note_of-note-requires c =
    let less : c.loop-i.i < count_of c.args.deck.now = omega (arith, c.loop-i-test.true, c.requires.count_value) in
    record { entry_bytes_in_bounds = in_contents c.args.deck.now c.requires.sound c.loop-i.invariant less; right_row = right_row c.args.deck.now c.requires.sound c.loop-i.invariant less }

pub new_size-end-requires : goal.new_size-end-requires
new_size-end-requires c =
    let less : c.loop-i.i < count_of c.args.deck.now = omega (arith, c.loop-i-test.true, c.requires.count_value) in
    in_contents c.args.deck.now c.requires.sound c.loop-i.invariant less

pub overflow_add-end-in-loop-i : goal.overflow_add-end-in-loop-i
overflow_add-end-in-loop-i c =
    let less : c.loop-i.i < count_of c.args.deck.now = omega (arith, c.loop-i-test.true, c.requires.count_value) in
    let small = end_small c.args.deck.now c.requires.sound c.loop-i.invariant less c.note_of-note.ensures c.new_size-end.ensures in
    omega (arith, small)

pub word_at-number-requires : goal.word_at-number-requires
word_at-number-requires c =
    let less : c.loop-i.i < count_of c.args.deck.now = omega (arith, c.loop-i-test.true, c.requires.count_value) in
    let there = in_contents c.args.deck.now c.requires.sound c.loop-i.invariant less in
    omega (arith, there)

pub returns-then-end-gt-DECK_BYTES : goal.returns-then-end-gt-DECK_BYTES
returns-then-end-gt-DECK_BYTES = names-card past

pub loop-i-preserved : goal.loop-i-preserved
loop-i-preserved c =
    let less : c.loop-i.i < count_of c.args.deck.now = omega (arith, c.loop-i-test.true, c.requires.count_value) in
    let room = within c.args.notes.now (omega (arith, less, c.requires.sound.head.few, c.requires.notes_len)) in
    rw (stored c.loop-i.notes c.loop-i.i c.note_of-note.result)
    (goes_on c.args.deck.now c.requires.sound c.loop-i.invariant less c.note_of-note.ensures c.new_size-end.ensures c.if-end-gt-DECK_BYTES.false room)

pub returns : goal.returns
returns c =
    ended c.args.deck.now c.requires.sound c.loop-i.invariant (omega arith) (omega arith)
