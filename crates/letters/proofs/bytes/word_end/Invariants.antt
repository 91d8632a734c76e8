-- The loop's invariant: the word that goes on at `at` ends where the one from the start on does.
use Rattle.marks_on_a_card.specs.Bytes.{run_end, in_word}
use mathlib.Core.Path.{◌≡◌}
use Rattle.letters.proofs.bytes.word_end.Given as goal

abbrev pub invariant-loop-at : goal.invariant-loop-at
invariant-loop-at l = run_end in_word l.card l.from ≡ run_end in_word l.card l.at
