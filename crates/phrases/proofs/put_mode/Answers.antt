-- `phrases::put_mode` meets its contract: the two words are the texts of the choice. Assumes nothing.
use Rattle.phrases.specs.Phrases.{mode_word}
use Rattle.card.specs.Card.{nondeterministic, probabilistic}
use Rattle.phrases.proofs.Laws.{puts_as, either_text}
use Rattle.phrases.proofs.put_mode.Goals as goal

pub returns : goal.returns
returns c =
    puts_as _ (either_text nondeterministic probabilistic mode_word c.args.mode) c.put_either.ensures
