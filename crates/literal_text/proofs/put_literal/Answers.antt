-- `literal_text::put_literal` meets its contract: one put after the other, the relation by its number. Assumes nothing.
use Rattle.texts.specs.Writing.{relation_text}
use Rattle.card.specs.Card.{is, isnt}
use Rattle.phrases.proofs.Laws.{put_first, puts_then, puts_as, either_text}
use Rattle.literal_text.proofs.put_literal.Goals as goal

pub returns : goal.returns
returns c =
    puts_then c.put_numbered-a.ensures
    (puts_then (puts_as _ (either_text is isnt relation_text c.args.relation) c.put_either-b.ensures) (put_first c.put_number.ensures))
