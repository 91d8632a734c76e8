-- The card as an entry's first stage: refusals 1 to 7 and 17 are exactly the reader's, and any other refusal is that of the stages behind it, of the
-- card that is taken. Assumes nothing.
use Prim.Native.Nat.{ℕ, ◌≤◌}
use mathlib.Core.Path.{◌≡◌, refl, sym, ap}
use mathlib.Core.Bool.{true, false}
use mathlib.Core.Logic.{◌↔◌, inl, inr}
use mathlib.Core.List.{List}
use native.Mathlib.Decide.{dec_le, ℕ_discrete}
use native.Mathlib.Omega.{arith}
use Rattle.card.specs.Refusals.{wrong_weight, decimal_weight, OfCard}
use Rattle.card.specs.Card.{Card}
use Rattle.card.specs.Weight.{card_rule}
use Rattle.reading.specs.Reading.{Outcome, taken, refused as turned, read_of}
use Rattle.reading.proofs.Numbers.{read_number}
use Rattle.entry.specs.Said.{Said, says, refused, ◌>>=◌}
use Rattle.entry.specs.Numbers.{Numbers, among, apart, Among}
use Rattle.entry.specs.Stage.{Stage}
use Rattle.entry.proofs.Stages.{says≢refused, same_number, same_place, same_said, in_span, apart_out, its}
use Rattle.entry.proofs.Exactly.{◌↔∙◌}
use Rattle.rows.specs.Said.{outcome_said, card_said, card_numbers, Read}

pub outcome_refused : (o : Outcome) (r p : ℕ) → (outcome_said o ≡ refused r p) ↔ (o ≡ turned r p)
outcome_refused (taken c) r p = (λ e. says≢refused e, λ e. let z : ◌≡◌ {A = ℕ} 0 1 = cc in absurd (omega arith))
outcome_refused (turned s q) r p = (λ e. rw (same_number e, same_place e), λ e. ap outcome_said e)

outcome_taken : (o : Outcome) (c : Card) → outcome_said o ≡ says c → o ≡ taken c
outcome_taken (taken d) c e = rw (same_said e)
outcome_taken (turned s q) c e = says≢refused (sym e)

-- is a number one of the card's own?
pub of_card? : (r : ℕ) → Dec (OfCard r)
of_card? r = go (dec_le r wrong_weight) (ℕ_discrete r decimal_weight)
  where
    go : Dec (r ≤ wrong_weight) → Dec (r ≡ decimal_weight) → Dec (OfCard r)
    go (yes h) k = yes (inl h)
    go (no h) (yes k) = yes (inr k)
    go (no h) (no k) = no (λ (z : OfCard r). neither z)
      where
        neither : OfCard r → ⊥
        neither (inl l) = h l
        neither (inr e) = k e

in_card : (r : ℕ) → OfCard r → among card_numbers r ≡ true
in_card r (inl h) = rw (in_span 0 wrong_weight r (omega arith) h)
in_card r (inr e) = rw e

-- then it is none of a later stage's
pub of_card : (ms : Numbers) (r : ℕ) → OfCard r → apart card_numbers ms ≡ true → among ms r ≡ false
of_card ms r h a = apart_out card_numbers ms r a (in_card r h)

module _ (card : List ℕ) where
  pub card_stage : Stage (card_said card) card_numbers (Read card) (λ w. w.0)
  card_stage = record {
    numbers = record { number = λ r p e. in_card r (read_number card_rule card ((outcome_refused (read_of card) r p).0 e)) };
    found = record { each = λ w. ap outcome_said w.1; only = λ c e. ((c, outcome_taken (read_of card) c e), refl) };
  }

  -- the card's own refusals
  pub card_first : {B : Type 0} (g : Card → Said B) {ms : Numbers} → ((c : Card) → Among ms (g c)) → (r p : ℕ) → OfCard r → apart card_numbers ms ≡ true
      → (card_said card >>= g ≡ refused r p) ↔ (read_of card ≡ turned r p)
  card_first g {ms} m r p h a = its card_stage g m r p (of_card ms r h a) ↔∙ outcome_refused (read_of card) r p
