-- `lines::put_weight_line` meets its contract: three puts, one after the other. Assumes nothing.
use Rattle.lines.specs.Weights.{told_behind, weight_text}
use Rattle.phrases.proofs.Laws.{put_first, puts_as, puts_then}
use Rattle.lines.proofs.put_weight_line.Goals as goal

pub returns-in-None : goal.returns-in-None
returns-in-None c =
    puts_as (weight_text c.args.word.now c.args.states.now c.args.weight (told_behind c.args.becomes)) (λ t. rw c.in-None.is)
    (puts_then (put_first c.put_bytes-a.ensures) (puts_then c.put_numbers-b.ensures c.put_rest.ensures))

pub returns-in-Some : goal.returns-in-Some
returns-in-Some c =
    puts_as (weight_text c.args.word.now c.args.states.now c.args.weight (told_behind c.args.becomes)) (λ t. rw c.in-Some.is)
    (puts_then (put_first c.put_bytes-a.ensures) (puts_then c.put_numbers-b.ensures c.put_rest-in-Some.ensures))
