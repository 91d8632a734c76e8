-- Each by computing; that a number is not close, by the bound that it breaks. Assumes nothing.
use mathlib.Core.Path.{refl}
use native.Mathlib.Omega.{arith}
use Rattle.card.specs.Weight.{units_of}
use Rattle.card.specs.Card.{nondeterministic, probabilistic}
use Rattle.reading.specs.Reading.{read_under}
use Rattle.meaning.specs.Choices.{choices_of}
use Rattle.meaning.specs.Seats.{counts, may_take, turn, turns_by, choices, turns}
use Rattle.meaning.specs.Reduced.{copy, reduce, can_take, reduced_turn, reduced_turns_by, reduced_choices, reduced_turns}
use Rattle.meaning.specs.CardA.{card_a}
use Rattle.evenings.specs.Rounds.{round}
use Rattle.evenings.specs.Scales.{bottom, exactly}
use Rattle.evenings.specs.Evenings.{seat_table, count_table}
use Rattle.evenings.specs.Leader.{leader_card}
use Rattle.evenings.specs.Night.{night_card}
use Rattle.evening_edges.specs.EveningEdges.{meeting_text, meeting_card, leaving_text, leaving_card, helped_text, helped_card, fork_text, fork_card, dusk_text, dusk_card, calling_text, calling_card, night_text, Reads, EveningEdges}

-- ---- the texts

reads_meeting : Reads meeting_text meeting_card
unfolding read_under units_of
reads_meeting nondeterministic = refl
reads_meeting probabilistic = refl

reads_leaving : Reads leaving_text leaving_card
unfolding read_under units_of
reads_leaving nondeterministic = refl
reads_leaving probabilistic = refl

reads_helped : Reads helped_text helped_card
unfolding read_under units_of
reads_helped nondeterministic = refl
reads_helped probabilistic = refl

reads_fork : Reads fork_text fork_card
unfolding read_under units_of
reads_fork nondeterministic = refl
reads_fork probabilistic = refl

reads_dusk : Reads dusk_text dusk_card
unfolding read_under units_of
reads_dusk nondeterministic = refl
reads_dusk probabilistic = refl

reads_calling : Reads calling_text calling_card
unfolding read_under units_of
reads_calling nondeterministic = refl
reads_calling probabilistic = refl

reads_night : Reads night_text night_card
unfolding read_under units_of night_card
reads_night nondeterministic = refl
reads_night probabilistic = refl

-- ---- the edges

pub evening_edges : EveningEdges
unfolding round exactly bottom seat_table turns choices choices_of turns_by turn may_take counts count_table reduced_turns reduced_choices reduced_turns_by reduce can_take reduced_turn copy card_a leader_card night_card
evening_edges = record {
  cards = (reads_meeting, reads_leaving, reads_helped, reads_fork, reads_dusk, reads_calling, reads_night);
  told_apart = refl;
  one_each = (refl, refl);
  drawn = ((refl, refl), (refl, refl), (refl, refl), (refl, refl));
  chosen = ((refl, refl), (refl, refl));
  elected = ((refl, refl), (refl, refl), (refl, refl));
  helped = ((refl, refl), (refl, refl), (refl, refl), (refl, refl));
  stuck = ((refl, refl), (refl, refl), (refl, refl));
  stuck_later = ((refl, refl), (refl, refl), (refl, refl), (refl, refl), (refl, refl));
  forked = ((refl, refl), (refl, refl), (refl, refl));
  shared = ((refl, refl), (refl, refl), (refl, refl), (refl, refl));
  shared_stuck = ((refl, refl), (refl, refl), (refl, refl));
  shared_asked = ((refl, refl), (refl, refl), (refl, refl), (refl, refl));
  close = (
    record { below = omega arith; near = omega arith },
    λ h. absurd (omega (arith, h.near)),
    λ h. absurd (omega (arith, h.below)),
    λ h. absurd (omega (arith, h.near)),
  );
}
