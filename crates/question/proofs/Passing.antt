-- A question's reader passes only marks that fit, so no mark outside the rules; by the lemmas of the search (its Passed). Assumes nothing.
use Prim.Native.Nat.{ℕ}
use mathlib.Core.Path.{◌≡◌}
use mathlib.Core.Bool.{Bool, false}
use mathlib.Core.List.{◌∷◌}
use lib.ListN.{length}
use Rattle.card.specs.Limits.{most_nodes, most_depth}
use Rattle.card.specs.Card.{all, any}
use Rattle.marks_on_a_card.specs.Marks.{Mark, placed}
use Rattle.reading.specs.Reader.{Place, at, ◌>>=◌, return, next_is, sign}
use Rattle.reading.specs.Guard.{seat_next, if_seat, unary_by}
use Rattle.reading.specs.Group.{joint, literal, joined, others, group, shared_test}
use Rattle.reading.specs.Shape.{the_end}
use Rattle.reading.specs.Reading.{is_outside}
use Rattle.search.proofs.Passed.{Safe, and_then, sign_p, choice, literal_p, joined_p, group_p, shared_test_p, expression_p, unary_p, ended_held}
use Rattle.asking.specs.Question.{a_group, a_test, item_next, term, exactly, item, asked, question}

module _ (P : Place → Type 0) (pass : (m : Mark) (q : ℕ) (ms : Place) → is_outside m ≡ false → P (placed m q ∷ ms) → P ms) where
  term_p : Safe P pass term
  term_p s h =
      and_then P pass (sign "(" s) _ (sign_p P pass "(" s h) λ u s₁ h₁.
      and_then P pass (literal s₁) _ (literal_p P pass s₁ h₁) λ l s₂ h₂.
      and_then P pass (others (joint all) (length s₂.marks) s₂) _ (joined_p P pass literal (literal_p P pass) (joint all) (length s₂.marks) s₂ h₂) λ ls s₃ h₃. h₃

  exactly_p : (p : Place) → Safe P pass (exactly p)
  exactly_p p s h =
      and_then P pass (term s) _ (term_p s h) λ t s₁ h₁.
      and_then P pass (joined term (joint any) (length s₁.marks) s₁) _ (joined_p P pass term term_p (joint any) (length s₁.marks) s₁ h₁) λ ts s₂ h₂. h₂

  seats_p : (p : Place) → Safe P pass (if_seat (group p >>= λ x. return (a_group x)) (exactly p))
  seats_p p s h =
      choice P pass (seat_next s.marks) (group p >>= λ x. return (a_group x)) (exactly p)
      (λ s₁ h₁. and_then P pass (group p s₁) _ (group_p P pass p s₁ h₁) λ x s₂ h₂. h₂) (exactly_p p) s h

  item_p : (p : Place) → Safe P pass (item p)
  item_p p s h =
      choice P pass (next_is "g" s.marks) (shared_test >>= λ x. return (a_test x)) (if_seat (group p >>= λ x. return (a_group x)) (exactly p))
      (λ s₁ h₁. and_then P pass (shared_test s₁) _ (shared_test_p P pass s₁ h₁) λ x s₂ h₂. h₂) (seats_p p) s h

  asked_p : (shared : Bool) → Safe P pass (asked shared)
  asked_p shared = expression_p P pass (unary_by (item_next shared) item most_depth) (unary_p P pass (item_next shared) item item_p most_depth)

  pub question_p : (shared : Bool) → Safe P pass (question shared)
  question_p shared s h =
      and_then P pass (asked shared (at s.marks most_nodes)) _ (asked_p shared (at s.marks most_nodes) h) λ g s₁ h₁.
      and_then P pass (the_end s₁) _ (ended_held P pass s₁.marks s₁.nodes h₁) λ u s₂ h₂. h₂
