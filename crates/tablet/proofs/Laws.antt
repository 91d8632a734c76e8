-- An entry's promise, with its answer in numbers, for a room, a deck and rows; the reader's verdict in numbers; and where a card stands. Assumes nothing.
use Prim.Native.Nat.{ℕ}
use mathlib.Core.Path.{◌≡◌, refl, ap, subst, ◌∙◌}
use mathlib.Core.List.{List}
use Rattle.std.specs.Prelude.{Result}
use Rattle.card.specs.declared.Refusal.{Refusal}
use Rattle.card.specs.Verdict.{verdict_in}
use Rattle.card.specs.Lent.{Lent}
use Rattle.reading.specs.Reading.{read_of}
use Rattle.outline.specs.ReadingOf.{Outline, ReadsInto}
use Rattle.room.specs.Answer.{Answer, Text, Entered, told as answer_of}
use Rattle.answers.specs.declared.OpenPanelAnswer.{OpenPanelAnswer}
use Rattle.entry.specs.Said.{Said, says, refused}
use Rattle.entry.specs.Contract.{Ends, Two, Enters, in_place, in_rows}
use Rattle.evenings.specs.Rounds.{Aim}
use Rattle.deck.specs.Lookup.{Part}
use Rattle.deck_entries.specs.Verdicts.{verdict_of}
use Rattle.boxes.specs.Boxes.{placed}
use Rattle.boxes.specs.declared.Place.{Place}
use Rattle.answers.specs.Numbered.{numbers, verdict_numbers}
use Rattle.answers.specs.Stands.{three_of, Stands}
use Rattle.told.specs.Told.{judged, Told}
use Rattle.tablet.specs.Parts.{PartTold}
use Rattle.tablet.specs.Rows.{RowsTold}
use Rattle.tablet.specs.LentDeck.{DeckTold}

pub told : {was is : List ℕ} {said : Text} {a : Answer} {r : OpenPanelAnswer} → Entered was is said a → r ≡ numbers a → Told was is said r
told e n = record { answers = n ∙ ap numbers e.answers; leaves = e.leaves }

pub judge_told : {card : List ℕ} {o : Outline} {x : Lent} {r : OpenPanelAnswer} → ReadsInto card o x → r ≡ verdict_numbers (verdict_in o) → r ≡ judged (read_of card)
judge_told h n = n ∙ ap (λ (y : Outline). verdict_numbers (verdict_in y)) h.outline

-- ---- where a card stands

verdict_placed : (said : Said Part) → verdict_in (placed said) ≡ verdict_of said
verdict_placed (says p) = refl
verdict_placed (refused r p) = refl

pub part_told : {said : Said Part} {p : Result Place Refusal} {was is : List ℕ} {r : OpenPanelAnswer} → p ≡ placed said → Stands p was is r → PartTold said was is r
part_told {said} {p} {was} {is} {r} e s = record {
  answers = s.answers ∙ ap (λ (q : Result Place Refusal). verdict_numbers (verdict_in q)) e ∙ ap verdict_numbers (verdict_placed said);
  leaves = s.leaves ∙ ap (λ (q : Result Place Refusal). three_of q was) e;
}

-- ---- a deck changed in place

pub deck_told : {was is : List ℕ} {said : Text} {a : Answer} {r : OpenPanelAnswer} → Enters in_place answer_of was is said a → r ≡ numbers a → DeckTold was is said r
deck_told e n = record { answers = n ∙ ap numbers e.answers; leaves = e.leaves }

-- ---- two rows

-- the aim comes from a number
pub odds_told : (said : Aim → Said (Ends ℕ (Two (List ℕ)))) {a b : Aim} {was is : Two (List ℕ)} {answer : Answer} {r : OpenPanelAnswer}
    → a ≡ b → Enters in_rows answer_of was is (said a) answer → r ≡ numbers answer → RowsTold was is (said b) r
odds_told said {a} {b} {was} {is} {answer} {r} e h n = subst (λ (x : Aim). RowsTold was is (said x) r) e (record { answers = n ∙ ap numbers h.answers; leaves = h.leaves })
