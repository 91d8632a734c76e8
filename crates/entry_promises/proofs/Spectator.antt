-- The class counts by citing; the answers from the one theorem of stages; what can be told from two rooms, since the line tells the class counts
-- whatever stands behind it. Assumes nothing.
use Prim.Native.Nat.{ℕ, ◌≤◌}
use mathlib.Core.Path.{◌≡◌, sym, ap, ◌∙◌, subst}
use mathlib.Core.Logic.{◌⊎◌, inl}
use mathlib.Core.List.{List}
use native.Mathlib.Omega.{arith}
use lib.ListN.{length, drop}
use Rattle.rows.proofs.Theorems.{of_card?}
use Rattle.card.specs.Refusals.{wrong_weight, wrong_seats, seat_above_top, room_too_small, wrong_classes, OfCard, decimal_weight}
use Rattle.card.specs.Card.{Card}
use Rattle.card.specs.Valid.{ValidCard}
use Rattle.card.specs.Weight.{card_rule}
use Rattle.reading.specs.Reading.{taken, read_of}
use Rattle.grammar.proofs.Theorems.{read_valid}
use Rattle.meaning.specs.Seats.{Seating, ValidSeating}
use Rattle.entry.specs.Said.{says as text, ◌>>◌, return}
use Rattle.entry.specs.Contract.{onto}
use Rattle.entry.proofs.Exactly.{◌↔∙◌}
use Rattle.entry.proofs.Entries.{enters_unique}
use Rattle.room.specs.Answer.{Answer}
use Rattle.room.specs.Answer.{Refused}
use Rattle.room.specs.Answer.{Text, told, answered, Entered}
use Rattle.room.proofs.Entries.{told_faithful}
use Rattle.seating.specs.Judged.{seating_of, bytes_of}
use Rattle.seating.proofs.Judging.{valid_exactly}
use Rattle.seating.proofs.Bytes.{bytes_back, bytes_seated}
use Rattle.classes.specs.Classes.{ValidClasses, class_counts, class_counts_at, classes_text, watch_of}
use Rattle.classes.specs.ClassesSaid.{classes_said}
use Rattle.classes.specs.ClassesRoom.{classes_room}
use Rattle.classes.proofs.Counts.{by_counts, adds_up, how_many}
use Rattle.classes.proofs.Line.{tells, fits}
use Rattle.watch_said.specs.WatchSaid.{watch_said}
use Rattle.watch_said.specs.Watches.{Watches}
use Rattle.watch_said.proofs.Theorems.{said, watches}
use Rattle.answers.specs.Numbered.{numbers}
use Rattle.entry_promises.specs.Entries.{RoomEnough}
use Rattle.entry_promises.specs.Spectator.{ClassCounts, Seen, WatchTells, Spectator}
use Rattle.card_promises.proofs.Numbers.{number_some}
use Rattle.entry_promises.proofs.ForC.{tells_done, tells_refused, is_refused, number_of, entered}

class_counts_law : ClassCounts
class_counts_law = record {
  by_counts = λ c x ok list long. by_counts c.k list x.each long ok.states;
  eight = how_many;
  adds_up = λ c x ok list good. adds_up c.k list x.each good ok.states ∙ ok.seats;
}

-- ---- the entry

watch : (card seats list was is : List ℕ) (a : Answer) → Entered was is (watch_said card seats list) a → Watches told card seats list was is a
watch card seats list was is a e = watches card seats list told_faithful e

shown : (card list : List ℕ) (c : Card) (x : Seating) → read_of card ≡ taken c → ValidSeating c x → ValidClasses c.k list
    → watch_said card (bytes_of c x) list ≡ text (watch_of list x)
shown card list c x k ok good =
    (said card (bytes_of c x) list).found.each ((c, k), (bytes_seated c x ok, good)) ∙ ap (λ (y : Seating). text (watch_of list y)) (bytes_back c x ok)

-- a card has at most 16 seats
line_fits : (c : Card) → ValidCard c → (x : Seating) → ValidSeating c x → (list : List ℕ) → ValidClasses c.k list → length (watch_of list x) ≤ classes_room
unfolding watch_of
line_fits c valid x ok list good = fits c.k list x.each good ok.states (omega (arith, ok.seats, valid.seats_most))

room : (card seats list : List ℕ) → RoomEnough classes_room (watch_said card seats list)
room card seats list was is a e l p r =
    let (w, g, _) = ((watch card seats list was is a e).small_room p).0 r in
    omega (arith, g, line_fits w.0.0 (read_valid card_rule card w.0.0 w.0.1) (seating_of w.0.0 seats) w.1.0.valid list w.1.1)

-- ---- what can be told

module _ (card list : List ℕ) (c : Card) (k : read_of card ≡ taken c) where
  behind_seats : (x : Seating) → ValidSeating c x → watch_said card (bytes_of c x) list ≡ (classes_said list c >> return (watch_of list x))
  unfolding watch_said
  behind_seats x ok = rw (k, (valid_exactly c (bytes_of c x)).1 (bytes_seated c x ok), bytes_back c x ok)

  same_line : (x y : Seating) → class_counts list x.each ≡ class_counts list y.each → watch_of list x ≡ watch_of list y
  unfolding watch_of
  same_line x y e = ap classes_text e

  -- the list's refusal does not depend on the seats
  same_said : (x y : Seating) → ValidSeating c x → ValidSeating c y → class_counts list x.each ≡ class_counts list y.each → watch_said card (bytes_of c x) list ≡ watch_said card (bytes_of c y) list
  same_said x y ok ok' e = behind_seats x ok ∙ ap (λ (t : List ℕ). classes_said list c >> return t) (same_line x y e) ∙ sym (behind_seats y ok')

seen : Seen
unfolding watch_of
seen = record {
  equal_classes = λ card list was c k x y ok ok' e p q. same card list was c k x y ok ok' e p q;
  exactly = λ card list was c k x y ok ok' good enough p q. (
    λ b. tells (class_counts list x.each) (class_counts list y.each) (drop (length (watch_of list x)) was) (drop (length (watch_of list y)) was)
        (sym (there card list was c k x ok good enough p) ∙ b ∙ there card list was c k y ok' good enough q),
    λ e. (same card list was c k x y ok ok' e p q).1,
  );
  equal_counts = λ c x y ok ok' list good e.
      by_counts c.k list x.each good.states ok.states ∙ ap (class_counts_at list) e ∙ sym (by_counts c.k list y.each good.states ok'.states);
}
  where
    same : (card list was : List ℕ) (c : Card) → read_of card ≡ taken c → (x y : Seating) → ValidSeating c x → ValidSeating c y → class_counts list x.each ≡ class_counts list y.each
        → {is_x is_y : List ℕ} {a b : Answer} → Entered was is_x (watch_said card (bytes_of c x) list) a → Entered was is_y (watch_said card (bytes_of c y) list) b → (a ≡ b) × (is_x ≡ is_y)
    same card list was c k x y ok ok' e {is_x} {is_y} {a} {b} p q =
        enters_unique (subst (λ (s : Text). Entered was is_x s a) (same_said card list c k x y ok ok' e) p) q

    there : (card list was : List ℕ) (c : Card) → read_of card ≡ taken c → (x : Seating) → ValidSeating c x → ValidClasses c.k list → classes_room ≤ length was
        → {is : List ℕ} {a : Answer} → Entered was is (watch_said card (bytes_of c x) list) a → is ≡ onto (watch_of list x) was
    there card list was c k x ok good enough {is} {a} p =
        let short = line_fits c (read_valid card_rule card c k) x ok list good in
        let back = ap (λ (y : Seating). watch_of list y) (bytes_back c x ok) in
        (watch card (bytes_of c x) list was is a p).stands ((c, k), (bytes_seated c x ok, good)) (subst (λ (t : List ℕ). length t ≤ length was) (sym back) (omega (arith, short))) ∙ ap (λ (t : List ℕ). onto t was) back

-- ---- the answer in numbers

watch_tells : {card seats list was is : List ℕ} (a : Answer) → Watches told card seats list was is a → WatchTells card seats list was is (numbers a)
watch_tells {card} a h =
    record {
      done = λ long. tells_done a some long ↔∙ h.done long;
      stands = h.stands;
      wrong_card = λ r p l m. tells_refused a some r p l ↔∙ h.wrong_card r p m;
      wrong_count = λ p. tells_refused a some wrong_seats p (omega arith) ↔∙ h.wrong_count p;
      wrong_seat = λ p. tells_refused a some seat_above_top p (omega arith) ↔∙ h.wrong_seat p;
      wrong_list = λ p. tells_refused a some wrong_classes p (omega arith) ↔∙ h.wrong_list p;
      small_room = λ p. tells_refused a some room_too_small p (omega arith) ↔∙ h.small_room p;
      no_other = number_of a some {P = λ r. (r ≤ room_too_small) ⊎ (r ≡ wrong_classes) ⊎ (r ≡ decimal_weight)} (inl (omega arith)) h.no_other;
      untouched = λ z. let (r, p, e) = is_refused a some z in h.untouched r p e;
    }
  where
    some : (r p : ℕ) → a ≡ Refused r p → 1 ≤ r
    some r p e = go (of_card? r)
      where
        go : Dec (OfCard r) → 1 ≤ r
        go (yes l) = number_some card_rule card ((h.wrong_card r p l).0 e)
        go (no l) = let m : r ≤ wrong_weight → ⊥ = λ h. l (inl h) in omega arith

pub spectator : Spectator
unfolding watch_of
spectator = record {
  class_counts_holds = class_counts_law;
  seen = seen;
  shown = shown;
  watch = watch;
  for_c = λ card seats list was is a e.
      subst (WatchTells card seats list was is) (sym e.answers) (watch_tells (answered (watch_said card seats list) was) (watch card seats list was is _ (entered (watch_said card seats list) e)));
  room = room;
  most = line_fits;
}
