-- `reduced_text::put_program` meets its contract: the parts of the program, one after the other. Assumes nothing.
use Rattle.reduced_text.proofs.Laws.{program_text_law}
use Rattle.phrases.proofs.Laws.{put_first, puts_then}
use Rattle.card.proofs.HeldIn.{holds_seats, holds_top}
use native.Mathlib.Omega.{arith}
use Rattle.card.specs.Lent.{lent, card_in}
use Rattle.reduced_text.proofs.put_program.Goals as goal

pub put_head-a-requires : goal.put_head-a-requires
put_head-a-requires c = (holds_top c.requires, omega (arith, holds_seats c.requires))

pub returns : goal.returns
returns c =
    program_text_law (card_in c.args.head (lent c.args.rows.now c.args.nodes.now c.args.branches.now))
    (puts_then c.put_head-a.ensures (puts_then c.put_statements-b.ensures (put_first c.put_bytes.ensures)))
