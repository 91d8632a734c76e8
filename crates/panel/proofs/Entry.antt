-- What the panel entry says, stage by stage: the card's refusal, the seats', or the panel that its table holds. Assumes nothing.
use Prim.Native.Nat.{ℕ}
use mathlib.Core.Path.{◌≡◌, refl, sym, ap, subst, ◌∙◌}
use mathlib.Core.List.{List}
use lib.ListN.{replicate}
use Rattle.card.specs.Valid.{values_of, ValidCard}
use Rattle.card.specs.Lent.{Lent, card_in, HoldsIn}
use Rattle.std.specs.Prelude.{Ok, Err}
use Rattle.card.specs.Verdict.{Verdict, Taken}
use Rattle.card.specs.declared.Refusal.{Refusal}
use Rattle.card.specs.declared.Head.{Head}
use Rattle.card.proofs.Filling.{zeros_repeat}
use Rattle.card.proofs.HeldIn.{holds_card}
use Rattle.entry.specs.Said.{says as text, refused}
use Rattle.meaning.specs.Seats.{Seating, ValidSeating}
use Rattle.meaning.specs.Panel.{panel}
use Rattle.seating.specs.Judged.{judged_seats, seating_in, seating_of}
use Rattle.seating.proofs.Judging.{valid_exactly}
use Rattle.seating.proofs.Heads.{values_in_law, judged_in}
use Rattle.outline.specs.ReadingOf.{ReadsInto}
use Rattle.outline.proofs.ReadInto.{taken_holds, refused_said, taken_said}
use Rattle.panel_numbers.specs.Table.{table_places, table_of}
use Rattle.panel_numbers.specs.Fitting.{Weighing, Filling}
use Rattle.weighing.proofs.Filled.{ready_shown}
use Rattle.panel_wording.specs.PanelText.{panel_text, panel_of}
use Rattle.panel_wording.specs.PanelIn.{panel_in}
use Rattle.panel_wording.specs.PanelRoom.{Printable}
use Rattle.panel_said.specs.PanelSaid.{shown_said, panel_said}
use Rattle.panel.proofs.Shown.{values_few, is_panel}
use Rattle.panel_said.proofs.Short.{panel_fits}

-- ---- the table of a card that is taken

module _ {h : Head} {x : Lent} {seats : Seating} (v : HoldsIn h x) (ok : ValidSeating (card_in h x) seats) {table : List ℕ} (e : table ≡ table_of h x seats) where
  shown : panel (card_in h x) seats ≡ panel_in h table x.rows x.branches
  shown = is_panel v ok ∙ ap (λ (t : List ℕ). panel_in h t x.rows x.branches) (sym e)

  pub shown_text : panel_of (card_in h x) seats ≡ panel_text (panel_in h table x.rows x.branches)
  unfolding panel_of
  shown_text = ap panel_text shown

  pub printable : Printable h table x.rows x.branches
  printable = record {
    showing = record { weighing = subst (λ (t : List ℕ). Weighing h x.rows x.branches t) (sym e) (ready_shown v ok); values = values_few v ok };
    short = let valid : ValidCard (card_in h x) = rw (holds_card v) v.valid in rw (← shown_text) (panel_fits (card_in h x) valid seats ok);
  }

-- ---- the card's judgement and the seats'

module _ (s seats : List ℕ) where
  -- the card is refused
  pub card_refused : {e : Refusal} {x : Lent} → ReadsInto s (Err e) x → panel_said s seats ≡ refused e.number e.place
  unfolding panel_said
  card_refused h = refused_said s h (shown_said seats) refl

  -- it is taken
  module _ {head : Head} {x : Lent} (h : ReadsInto s (Ok head) x) where
    judged : {j : Verdict} → j ≡ judged_seats head.seats head.top head.shared seats → j ≡ judged_seats head.seats head.top (values_of (card_in head x).shared) seats
    judged e = judged_in head x seats e

    -- the seats are refused
    pub seats_refused : {d : Refusal} → Err d ≡ judged_seats head.seats head.top head.shared seats → panel_said s seats ≡ refused d.number d.place
    unfolding panel_said
    seats_refused e = sym (taken_said s h (shown_said seats) refl) ∙ rw (← judged e)

    -- the seating that the bytes are, by the head
    abbrev the_seats : Seating
    the_seats = seating_in head.seats head.shared seats

    same_seats : seating_of (card_in head x) seats ≡ the_seats
    same_seats = ap (λ (m : ℕ). seating_in head.seats m seats) (values_in_law head x seats)

    module _ (fine : Taken ≡ judged_seats head.seats head.top head.shared seats) where
      holds : HoldsIn head x
      holds = taken_holds s h refl

      seating : ValidSeating (card_in head x) the_seats
      seating = subst (ValidSeating (card_in head x)) same_seats ((valid_exactly (card_in head x) seats).0 (sym (judged fine))).valid

      pub filling : Filling (replicate table_places 0) head x the_seats
      filling = record { empty = sym (zeros_repeat table_places); holds = holds; seating = seating }

      module _ {table : List ℕ} (filled : table ≡ table_of head x the_seats) where
        pub entry_prints : Printable head table x.rows x.branches
        entry_prints = printable holds seating filled

        pub entry_said : text (panel_text (panel_in head table x.rows x.branches)) ≡ panel_said s seats
        unfolding panel_said
        entry_said =
            let a : text (panel_of (card_in head x) (seating_of (card_in head x) seats)) ≡ shown_said seats (card_in head x) = rw (← judged fine) in
            ap (λ (t : List ℕ). text t) (sym (shown_text holds seating filled)) ∙ ap (λ (y : Seating). text (panel_of (card_in head x) y)) (sym same_seats) ∙ a ∙ taken_said s h (shown_said seats) refl
