-- `card_text::put_card` meets its contract: the parts of the card, one after the other. Assumes nothing.
use Rattle.card_text.proofs.Laws.{write_text}
use Rattle.phrases.proofs.Laws.{put_first, puts_then}
use Rattle.card.proofs.HeldIn.{holds_seats}
use native.Mathlib.Omega.{arith}
use Rattle.card.specs.Lent.{lent, card_in}
use Rattle.card_text.proofs.put_card.Goals as goal

pub put_modules-requires : goal.put_modules-requires
put_modules-requires c = omega (arith, holds_seats c.requires)

pub returns : goal.returns
returns c =
    write_text (card_in c.args.head (lent c.args.rows.now c.args.nodes.now c.args.branches.now))
    (puts_then c.put_head-a.ensures (puts_then c.put_statements-b.ensures (puts_then (put_first c.put_bytes-c.ensures) c.put_modules.ensures)))
