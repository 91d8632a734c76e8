-- `shared_text::put_shared` meets its contract: the words by the relation, then the value. Assumes nothing.
use Rattle.shared_text.proofs.Laws.{shared_text_law}
use Rattle.phrases.proofs.Laws.{put_first, puts_then, puts_as}
use Rattle.shared_text.proofs.put_shared.Goals as goal

pub returns : goal.returns
returns c =
    puts_as _ (shared_text_law c.args.relation c.args.value) (puts_then c.put_either-a.ensures (puts_then (put_first c.put_number-b.ensures) (put_first c.put_byte.ensures)))
