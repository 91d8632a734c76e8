-- `shared_text::put_declaration` meets its contract: nothing where no number is declared, else one put after the other. Assumes nothing.
use Rattle.shared_text.proofs.Laws.{declaration_none, declaration_some}
use Rattle.phrases.proofs.Laws.{put_first, puts_then, puts_as, puts_none}
use native.Mathlib.Omega.{arith}
use borrow.Author.Rules.{rules}
use Rattle.shared_text.proofs.put_declaration.Goals as goal

pub returns-then-values-eq0 : goal.returns-then-values-eq0
returns-then-values-eq0 c =
    puts_as _ (declaration_none c.args.values c.args.initial (omega (arith, c.if-values-eq0.true))) (puts_none (search rules) c.place.ensures)

pub returns : goal.returns
returns c =
    puts_as _ (declaration_some c.args.values c.args.initial (λ e. omega (arith, e, c.if-values-eq0.false)))
    (puts_then c.put_numbered-a.ensures (puts_then c.put_numbered-b.ensures (put_first c.put_byte.ensures)))
