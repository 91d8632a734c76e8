-- `panel_text::put_shared` meets its contract: a line only where the shared number has values. Assumes nothing.
use Rattle.panel_text.proofs.Laws.{shared_none, shared_some}
use Rattle.phrases.proofs.Laws.{puts_as, puts_none}
use borrow.Author.Rules.{rules}
use Rattle.panel_text.proofs.put_shared.Goals as goal

pub returns-then-shared-eq0 : goal.returns-then-shared-eq0
returns-then-shared-eq0 c =
    puts_as _ (λ t. shared_none _ c.args.present t c.if-shared-eq0.true) (puts_none (search rules) c.place.ensures)

pub returns : goal.returns
returns c =
    puts_as _ (λ t. shared_some c.args.shared _ t c.if-shared-eq0.false) c.put_line.ensures
