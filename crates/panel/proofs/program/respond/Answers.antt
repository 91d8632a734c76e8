-- `panel::program::respond` meets its contract: the input is cut after so many bytes. Assumes nothing.
use mathlib.Core.Path.{sym}
use lib.Seq.{length-take-le}
use native.Mathlib.Nat.{le_of_lt}
use Rattle.panel.proofs.Parts.{program_short, program_long}
use Rattle.panel.proofs.program.respond.Goals as goal

pub slice_bounds-answer_to-end : goal.slice_bounds-answer_to-end
slice_bounds-answer_to-end c = sym (length-take-le _ c.args.input.now (le_of_lt c.if-input-gt-INPUT_BYTES.true))

pub returns-then-input-gt-INPUT_BYTES : goal.returns-then-input-gt-INPUT_BYTES
returns-then-input-gt-INPUT_BYTES c = rw (program_long _) at c.answer_to.ensures

pub returns : goal.returns
returns c = rw (program_short _ c.if-input-gt-INPUT_BYTES.false) at c.answer_to-2.ensures
