-- The list as a stage: it passes exactly for a class for each state, each 0 to 7, and else gives 13. Assumes nothing.
use Prim.Native.Nat.{ℕ, suc}
use mathlib.Core.Path.{◌≡◌, refl, sym, ap, ◌∙◌}
use mathlib.Core.Logic.{◌↔◌, inl, inr, ⊎_elim}
use mathlib.Core.List.{List}
use native.Mathlib.Omega.{arith}
use lib.ListN.{length}
use Rattle.card.specs.Limits.{top_class}
use Rattle.card.specs.Refusals.{wrong_classes}
use Rattle.card.specs.Card.{Card}
use Rattle.card.specs.Verdict.{Taken, Refused}
use Rattle.entry.specs.Said.{refused}
use Rattle.entry.specs.Stage.{Stage}
use Rattle.entry.proofs.Exactly.{◌↔∙◌}
use Rattle.seating.specs.SeatsSaid.{verdict_said}
use Rattle.seating.specs.Judged.{FirstAbove}
use Rattle.seating.proofs.Judging.{Within, within_at, first_only, fine≢refused, same_refusal, judged_ways}
use Rattle.seating.proofs.SeatsStage.{verdict_refused, verdict_fine}
use Rattle.classes.specs.Classes.{ValidClasses}
use Rattle.classes.specs.ClassesSaid.{judged_classes, classes_said, classes_numbers, WrongClasses}

module _ (k : ℕ) (list : List ℕ) where
  -- the three ways in which a list can be judged
  judged_by : {A : Type 0}
      → ((length list ≡ suc k → ⊥) → judged_classes k list ≡ Refused wrong_classes (length list) → A)
      → (length list ≡ suc k → (p : ℕ) → FirstAbove top_class list p → judged_classes k list ≡ Refused wrong_classes p → A)
      → (length list ≡ suc k → Within top_class list → judged_classes k list ≡ Taken → A)
      → A
  unfolding judged_classes
  judged_by other over fine = judged_ways (suc k) top_class (Refused wrong_classes (length list)) wrong_classes list other over fine

  pub fine_exactly : (judged_classes k list ≡ Taken) ↔ ValidClasses k list
  fine_exactly = judged_by
      (λ h e. (λ z. fine≢refused (sym z ∙ e), λ g. absurd (h g.states)))
      (λ h p f e. (λ z. fine≢refused (sym z ∙ e), λ g. absurd (omega (arith, f.above, within_at top_class list g.classes p f.seat))))
      (λ h w e. (λ z. record { states = h; classes = w }, λ g. e))

  wrong_exactly : (p : ℕ) → (judged_classes k list ≡ Refused wrong_classes p) ↔ WrongClasses k list p
  wrong_exactly p = judged_by
      (λ h e. (
        λ z. inl (h, sym (same_refusal (sym e ∙ z)).1),
        ⊎_elim (λ g. e ∙ ap (Refused wrong_classes) (sym g.1)) (λ g. absurd (h g.0)),
      ))
      (λ h q f e. (
        λ z. inr (h, rw (same_refusal (sym e ∙ z)).1 at f),
        ⊎_elim (λ g. absurd (g.0 h)) (λ g. e ∙ ap (Refused wrong_classes) (first_only (λ i. top_class) list q p f g.1)),
      ))
      (λ h w e. (
        λ z. fine≢refused (sym e ∙ z),
        ⊎_elim (λ g. absurd (g.0 h)) (λ g. absurd (omega (arith, g.1.above, within_at top_class list w p g.1.seat))),
      ))

  only_13 : (r p : ℕ) → judged_classes k list ≡ Refused r p → r ≡ wrong_classes
  only_13 r p z = judged_by (λ h e. (same_refusal (sym z ∙ e)).0) (λ h q f e. (same_refusal (sym z ∙ e)).0) (λ h w e. fine≢refused (sym e ∙ z))

module _ (list : List ℕ) (c : Card) where
  pub classes_stage : Stage (classes_said list c) classes_numbers (ValidClasses c.k list) (λ _. tt)
  classes_stage = record {
    numbers = record { number = λ r p e. rw (only_13 c.k list r p ((verdict_refused (judged_classes c.k list) r p).0 e)) };
    found = record {
      each = λ ok. ap verdict_said ((fine_exactly c.k list).1 ok);
      only = λ u e. ((fine_exactly c.k list).0 (verdict_fine (judged_classes c.k list) u e), refl);
    };
  }

  pub wrong_classes_law : (p : ℕ) → (classes_said list c ≡ refused wrong_classes p) ↔ WrongClasses c.k list p
  wrong_classes_law p = verdict_refused (judged_classes c.k list) wrong_classes p ↔∙ wrong_exactly c.k list p
