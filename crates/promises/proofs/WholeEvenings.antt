-- By citing the laws of a chance, which hold of every valid card: what holds of the counts' chance is carried to the seats' own along their equality. A step leads to a valid
-- seating, since each is the turn of a seat by a branch whose end and shared number are the card's, or changes nothing. Assumes nothing.
use Prim.Native.Nat.{ℕ, zero, suc, ◌*◌, ◌≤◌}
use mathlib.Core.Path.{◌≡◌, refl, sym, ap, ◌∙◌, subst}
use mathlib.Core.List.{List, [], ◌∷◌}
use lib.ListN.{length, set, length-set}
use Rattle.card.specs.Weight.{card_rule}
use Rattle.card.specs.Card.{Branch, Statement, Card}
use Rattle.card.specs.Valid.{Every, values_of, ValidBranch, ValidStatement, ValidCard}
use Rattle.grammar.proofs.Theorems.{read_valid}
use Rattle.meaning.specs.Position.{Position, position, set_to}
use Rattle.meaning.specs.Steps.{Step}
use Rattle.meaning.specs.Reordered.{Reordered}
use Rattle.meaning.specs.Seats.{Seating, ValidSeating, counted, turn, turns_by, choices_from, choices, turns}
use Rattle.meaning.specs.Reduced.{reduced_turns}
use Rattle.meaning.proofs.Sums.{every_imp, every_map}
use Rattle.meaning.proofs.Choices.{choices_turns, or_stay_every}
use Rattle.meaning.proofs.Turns.{Taker, takers}
use Rattle.meaning.proofs.Reorder.{reordered_valid, reordered_counts}
use Rattle.entry.specs.Contract.{Two, Enters, in_rows}
use Rattle.rows.specs.Said.{Read}
use Rattle.room.specs.Answer.{Answer}
use Rattle.room.specs.Answer.{Done}
use Rattle.room.specs.Answer.{told}
use Rattle.room.proofs.Entries.{told_faithful}
use Rattle.seating.specs.Judged.{seating_of}
use Rattle.asking.specs.Meant.{Question}
use Rattle.ask_said.specs.AskSaid.{Understood}
use Rattle.evenings.specs.Rounds.{Aim}
use Rattle.evenings.specs.Scales.{bottom, Close}
use Rattle.evenings.specs.Fair.{Leads}
use Rattle.evenings.specs.Evenings.{seat_table, count_table, most_turns, exact, whole}
use Rattle.evenings.proofs.Evenings.{set_value}
use Rattle.chances.specs.Chances.{by_seats, by_counts, chance_at}
use Rattle.odds_said.specs.OddsSaid.{odds_said, Fits}
use Rattle.odds_said.proofs.Chance.{chance}
use Rattle.odds_said.proofs.Theorems.{odds}
use Rattle.evening_edges.proofs.EveningEdges.{evening_edges}
use Rattle.answers.specs.declared.OpenPanelAnswer.{OpenPanelAnswer}
use Rattle.tablet.specs.Rows.{RowsTold}
use Rattle.entry_promises.specs.ForC.{Answers}
use Rattle.promises.specs.WholeEvenings.{Tables, WholeEvening, CloseToSeats, WholeEvenings}
use Rattle.promises.proofs.Nights.{nights}

tables : (c : Card) (q : Question) → Tables c q
unfolding seat_table count_table turns reduced_turns
tables c q = record {
  seats_choices = λ x. refl;
  seats_turns = λ x. refl;
  seats_asked = λ x. refl;
  counts_choices = λ v. refl;
  counts_turns = λ v. refl;
  counts_asked = λ v. refl;
}

-- ---- on the way

set_within : (k : ℕ) (x : List ℕ) (i t : ℕ) → Every (λ a. a ≤ k) x → t ≤ k → Every (λ a. a ≤ k) (set x i t)
set_within k [] i t w h = tt
set_within k (a ∷ x) zero t w h = (h, w.1)
set_within k (a ∷ x) (suc i) t w h = (w.0, set_within k x i t w.1 h)

module _ (c : Card) (valid : ValidCard c) (x : Seating) (ok : ValidSeating c x) where
  abbrev Next : Step Seating → Type 0
  Next s = ValidSeating c s.next

  branch_leads : (i : ℕ) (b : Branch) → ValidBranch c.k (values_of c.shared) b → ValidSeating c (position (set x.each i b.end) (set_to x.shared b.sets))
  branch_leads i b u = record {
    seats = simp length-set ok.seats;
    states = set_within c.k x.each i b.end ok.states u.end;
    shared = set_value (values_of c.shared) x.shared b.sets ok.shared u.sets;
  }

  turn_leads : (s : Statement) → ValidStatement c.n c.k (values_of c.shared) s → (i : ℕ) → Every Next (turn s x i)
  unfolding turn
  turn_leads s v i = every_map Next _ s.branches (every_imp (ValidBranch c.k (values_of c.shared)) s.branches v.branches (branch_leads i))

  seats_lead : Leads (ValidSeating c) (turns c x)
  unfolding turns choices
  seats_lead = or_stay_every x (Every Next) (choices_from 1 c.statements x) (ok, tt)
      (choices_turns (λ s. turns_by s x) (Every Next) 1 c.statements
      (every_imp _ c.statements valid.statements (λ s v. every_imp (Taker s x) (turns_by s x) (takers s x) (λ t m. let (i, l, may, e) = m in rw e (turn_leads s v i)))))

-- ---- an evening

module _ (card : List ℕ) (c : Read card) (q : Question) (a : Aim) where
  -- by counts, and by seats
  abbrev counting : ℕ → Position → ℕ
  counting m v = exact c.0 a (by_counts c.0 q) m v

  abbrev telling : ℕ → Seating → ℕ
  telling m x = exact c.0 a (by_seats c.0 q) m x

  same : (m : ℕ) (x : Seating) → ValidSeating c.0 x → telling m x ≡ counting m (counted c.0.k x)
  same m x ok = (chance card c q a m x ok).by_seats_holds

  evening : (m : ℕ) (x : Seating) → ValidSeating c.0 x → WholeEvening c.0 q a m x
  evening m x ok =
      let h = chance card c q a m x ok in
      record {
        same = h.by_seats_holds;
        close = subst (Close m (whole c.0 m) (chance_at c.0 q a m (counted c.0.k x))) (sym h.by_seats_holds) h.close;
        stuck = λ s. same (suc m) x ok ∙ h.stuck s ∙ ap (λ (e : ℕ). e * bottom (most_turns c.0)) (sym (same m x ok));
      }

  reordered : (m : ℕ) {x y : Seating} → Reordered x y → ValidSeating c.0 x → telling m x ≡ telling m y
  reordered m {x} {y} r ok = same m x ok ∙ ap (counting m) (reordered_counts c.0.k r) ∙ sym (same m y (reordered_valid c.0 r ok))

-- ---- what is answered

module _ (card question seats : List ℕ) (m : ℕ) (a : Aim) (was is : Two (List ℕ)) where
  -- the entry's value is that of the counts
  seats_close : (value : ℕ)
      → (c : Read card) × ((q : Understood question c.0) × (Fits c.0 seats m was × (value ≡ chance_at c.0 q.0 a m (counted c.0.k (seating_of c.0 seats)))))
      → CloseToSeats card question seats m a value
  seats_close value (c, (q, (f, v))) =
      let x = seating_of c.0 seats in
      let near = subst (λ (n : ℕ). Close m (whole c.0 m) n (exact c.0 a (by_seats c.0 q.0) m x)) (sym v) (evening card c q.0 a m x f.seating.valid).close in
      (c, (q, (f.seating, near)))

  answered : (r : Answer) → Enters in_rows told was is (odds_said card question seats m a (length was.first) (length was.second)) r
      → (value : ℕ) → r ≡ Done value → CloseToSeats card question seats m a value
  answered r e value d = seats_close value (((odds card question seats m a was is told_faithful e).answered value).0 d)

  answered_for_c : (r : OpenPanelAnswer) → RowsTold was is (odds_said card question seats m a (length was.first) (length was.second)) r
      → (value : ℕ) → Answers r 0 value → CloseToSeats card question seats m a value
  answered_for_c r e value d = seats_close value (((nights.for_c card question seats m a was is r e).answered value).0 d)

pub whole_evenings : WholeEvenings
whole_evenings = record {
  tables = tables;
  leads = λ card c x ok. seats_lead c.0 (read_valid card_rule card c.0 c.1) x ok;
  evening = λ card c q a m l x ok. evening card c q a m x ok;
  answered = answered;
  answered_for_c = answered_for_c;
  reordered = λ card c q a m r ok. reordered card c q a m r ok;
  edges = evening_edges;
}
