-- The reduced programs by computing, the range by citing. Assumes nothing.
use mathlib.Core.Path.{refl}
use borrow.Author.Tests.{eq-eqb, ne_eqb}
use Rattle.room.specs.Digits.{decimal}
use Rattle.phrases.specs.Phrases.{gcd, divisor}
use Rattle.texts.specs.ReducedText.{program_text}
use Rattle.meaning.specs.CardA.{card_a}
use Rattle.meaning.specs.Reduced.{Outcome, reduce, copy}
use Rattle.meaning.proofs.Sums.{map_map}
use Rattle.meaning.proofs.Within.{stays_within}
use Rattle.texts.proofs.Reductions.{reduced_once}
use Rattle.card_promises.proofs.SharedWithin.{shared_within}
use Rattle.card_promises.specs.Reductions.{Table, Translation, Reductions}

table : Table
table = record {
  all_is = λ n j d. (refl, rw (eq-eqb d d refl), λ h. rw (ne_eqb j d h));
  some_is = λ n j d. (refl, rw (eq-eqb d d refl), λ h. rw (ne_eqb j d h));
  all_isnt = λ n j d. (refl, rw (eq-eqb d d refl), λ h. rw (ne_eqb j d h));
  some_isnt = λ n j d. (refl, rw (eq-eqb d d refl), λ h. rw (ne_eqb j d h));
}

translation : Translation
unfolding reduce copy
translation = record {
  mode = λ c. refl;
  most = λ c. refl;
  shared = λ c. refl;
  test = λ n j q v. refl;
  sets = λ n s m. map_map (λ (o : Outcome). o.sets) _ s.branches;
  copies = λ c e. rw e;
  one_copy = λ c e. rw e;
  guard = λ n s m. refl;
  stays = λ n j. rw (eq-eqb j j refl);
  moves = λ n j t h. rw (ne_eqb j t h);
}

pub reductions : Reductions
unfolding program_text reduce copy card_a decimal gcd divisor
reductions = record { table = table; translation = translation; one_seat_text = refl; joined_text = refl; either_text = refl; card_a_text = refl; one_seat_holds = refl; card_a_holds = refl; card_a_free = refl; read_off = reduced_once; stays_within = stays_within; shared_within = shared_within }
