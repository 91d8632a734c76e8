-- The demands, by citing. Assumes nothing.
use Rattle.meaning.proofs.Vectors.{position_right}
use mathlib.Core.Path.{ap}
use mathlib.Core.List.{List}
use lib.ListN.{length}
use Rattle.meaning.specs.Position.{Position}
use Rattle.meaning.specs.Steps.{Step}
use Rattle.meaning.specs.Seats.{Seating}
use Rattle.meaning.specs.Reduced.{reduce}
use Rattle.meaning.proofs.Demand.{demand, offers, stuck_alike, stuck_steps, starts}
use Rattle.meaning.proofs.Stuck.{nothing_taken, stuck, moving, stuck_step, none_taken_at, stuck_at, moving_at, stuck_step_at}
use Rattle.meaning.proofs.Apart.{own_seat, pairs}
use Rattle.meaning.proofs.Total.{seats_full, seats_total, counts_full, counts_total}
use Rattle.card.specs.Weight.{card_rule}
use Rattle.grammar.proofs.Theorems.{read_valid}
use Rattle.seating.specs.Judged.{bytes_of}
use Rattle.seating.proofs.Judging.{valid_exactly}
use Rattle.seating.proofs.Bytes.{bytes_back, bytes_seated, seated_bytes}
use Rattle.rereading.proofs.RoundTrip.{read_again}
use Rattle.texts_said.specs.WriteSaid.{write_said}
use Rattle.texts_said.specs.ReduceSaid.{reduce_said}
use Rattle.panel_said.specs.PanelSaid.{panel_said}
use Rattle.panel_wording.specs.PanelText.{panel_of}
use Rattle.panel_said.proofs.Reordering.{equal_said, said_alike, alike}
use Rattle.card_promises.proofs.Marks.{markings}
use Rattle.card_promises.proofs.Readings.{readings}
use Rattle.entry_promises.specs.Demands.{Demand2, Demand3OfBytes, Demand3, Total, Meanings}

pub demand3 : Demand3
demand3 = record {
  agrees = demand;
  stuck_alike = stuck_alike;
  stuck_step = stuck_step;
  stuck_step_at = λ c. stuck_step_at (reduce c);
  positions = position_right;
}

pub meanings : Meanings
meanings = record {
  own_seat = own_seat;
  pairs = pairs;
  offers = offers;
  nothing = nothing_taken;
  stuck = stuck;
  moving = moving;
  nothing_at = λ c. none_taken_at (reduce c);
  stuck_at = λ c. stuck_at (reduce c);
  moving_at = λ c. moving_at (reduce c);
  start = starts;
}

pub total : Total
total = record { by_seats_holds = seats_total; by_counts = counts_total; turns_weigh = seats_full; counts_weigh = counts_full }

pub demand2 : Demand2
unfolding write_said reduce_said panel_said panel_of
demand2 = record {
  marks = markings;
  readings = readings;
  written = λ b c h. rw h;
  reduced = λ b c h. rw h;
  seats = λ c x ok. (bytes_seated c x ok, bytes_back c x ok);
  bytes_of_holds = λ c x ok. (ok.valid, seated_bytes c x ok);
  shown = λ b c x h ok. rw (h, (valid_exactly c (bytes_of c x)).1 (bytes_seated c x ok), bytes_back c x ok);
  again = read_again card_rule card_rule;
}

pub demand3_of_bytes : Demand3OfBytes
demand3_of_bytes = record {
  agrees = λ b c x h ok. demand c x ok;
  some_step = λ b c x h ok. (seats_total c (read_valid card_rule b c h) x, counts_total c (read_valid card_rule b c h) _);
  one_step = λ b c x h ok s. (
    ap (λ (l : List (Step Seating)). length l) (stuck_steps c x ok s).0,
    ap (λ (l : List (Step Position)). length l) (stuck_steps c x ok s).1,
  );
  equal_counts = λ b c x y h ok ok' e. equal_said b h x y ok ok' e;
  reordered = λ b r. said_alike b r;
  answers_alike = λ b r p q. alike b r p q;
}
