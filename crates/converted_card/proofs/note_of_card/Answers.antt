-- `converted_card::note_of_card` meets its contract: by the new rule, else by the old one and the length of the written form. Assumes nothing.
use Prim.Native.Nat.{◌<◌}
use mathlib.Core.Path.{sym, ◌∙◌}
use Rattle.card.specs.Limits.{card_bytes}
use Rattle.card.proofs.HeldIn.{holds_branches}
use Rattle.converted_card.proofs.Reading.{err_refusal, taken_in, left_none, note_stays, note_none, note_long, note_written}
use Rattle.outline.proofs.ReadInto.{arrays_none}
use Rattle.converted_card.proofs.note_of_card.Goals.{Then-long-gt-CARD_BYTES}
use Rattle.converted_card.proofs.note_of_card.Goals as goal

-- only a written form past a card's limit has no note
abbrev OnlyLong : Type 0
OnlyLong = (c : Then-long-gt-CARD_BYTES) → card_bytes < c.written_length-long.result

only-long : OnlyLong
only-long c = c.if-long-gt-CARD_BYTES.true

none-past : OnlyLong → goal.returns-then-long-gt-CARD_BYTES
none-past only-long c =
    note_long _ c.read_under.ensures (sym c.is_ok.ensures.value ∙ c.if-is_ok.false) c.read_under-2.ensures c.in-Ok.is c.written_length-long.ensures
    (only-long (goal.at.returns-then-long-gt-CARD_BYTES c).Then-long-gt-CARD_BYTES)

pub read_under-requires : goal.read_under-requires
read_under-requires c = arrays_none

pub returns-then-is_ok : goal.returns-then-is_ok
returns-then-is_ok c = note_stays _ c.read_under.ensures (sym c.is_ok.ensures.value ∙ c.if-is_ok.true)

pub read_under-requires-2 : goal.read_under-requires-2
read_under-requires-2 c = left_none c.read_under.ensures (err_refusal _ (sym c.is_ok.ensures.value ∙ c.if-is_ok.false)).1

pub returns-in_default : goal.returns-in_default
returns-in_default c =
    note_none _ c.read_under.ensures (sym c.is_ok.ensures.value ∙ c.if-is_ok.false) c.read_under-2.ensures c.in_default.is

pub slice_bounds-written_length-end : goal.slice_bounds-written_length-end
slice_bounds-written_length-end c =
    sym (holds_branches (taken_in c.read_under-2.ensures c.in-Ok.is).holds)

pub written_length-long-requires : goal.written_length-long-requires
written_length-long-requires c =
    (taken_in c.read_under-2.ensures c.in-Ok.is).holds

pub returns-then-long-gt-CARD_BYTES : goal.returns-then-long-gt-CARD_BYTES
returns-then-long-gt-CARD_BYTES = none-past only-long

pub returns-else-long-gt-CARD_BYTES : goal.returns-else-long-gt-CARD_BYTES
returns-else-long-gt-CARD_BYTES c =
    note_written _ c.read_under.ensures (sym c.is_ok.ensures.value ∙ c.if-is_ok.false) c.read_under-2.ensures c.in-Ok.is c.written_length-long.ensures c.if-long-gt-CARD_BYTES.false
