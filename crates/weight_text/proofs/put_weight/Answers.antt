-- `weight_text::put_weight` meets its contract: nothing, the whole, or a fraction by its two numbers. Assumes nothing.
use Rattle.phrases.proofs.Lowest.{text_none, text_whole, text_ratio}
use Rattle.phrases.proofs.Laws.{put_first, puts_as, puts_then}
use Rattle.weight_text.proofs.put_weight.Goals as goal

pub returns-then-units-eq0 : goal.returns-then-units-eq0
returns-then-units-eq0 c = puts_as _ (text_none _ c.if-units-eq0.true) (put_first c.put_byte.ensures)

pub returns-then-units-ge-UNIT : goal.returns-then-units-ge-UNIT
returns-then-units-ge-UNIT c = puts_as _ (text_whole _ c.if-units-eq0.false c.if-units-ge-UNIT.true) (put_first c.put_byte-then-units-ge-UNIT.ensures)

pub returns : goal.returns
returns c =
    puts_as _ (text_ratio _ _ c.if-units-eq0.false c.if-units-ge-UNIT.false c.divisor-by.ensures.0) (puts_then (put_first c.put_number-a.ensures) (puts_then (put_first c.put_byte-b.ensures) (put_first c.put_long_number.ensures)))
