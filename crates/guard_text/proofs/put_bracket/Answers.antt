-- `guard_text::put_bracket` meets its contract: by the two levels. Assumes nothing.
use Rattle.phrases.proofs.Laws.{puts_as, puts_none}
use borrow.Author.Tests.{lt-leb}
use borrow.Author.Rules.{rules}
use Rattle.guard_text.proofs.put_bracket.Goals as goal

pub returns : goal.returns
returns c = puts_as _ (λ t. rw (lt-leb _ _ c.if-least-level.false)) (puts_none (search rules) c.place.ensures)
