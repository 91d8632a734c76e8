-- Worked questions on a card of two seats with top state 1; and why it is not enough to look at what a bracket itself starts. Assumes nothing.
use Prim.Native.Nat.{zero}
use mathlib.Core.Path.{◌≡◌, refl, sym, ap, ◌∙◌}
use mathlib.Core.Bool.{Bool, true}
use mathlib.Core.List.{◌∷◌, ◌++◌, append_cancel_right, head-eq_of_cons-eq, tail-eq_of_cons-eq}
use Rattle.card.specs.Refusals.{past_limit}
use Rattle.card.specs.Text.{bytes}
use Rattle.card.specs.Card.{all, is, isnt, atom, neg, and}
use Rattle.marks_on_a_card.specs.Marks.{Placed, placed}
use Rattle.reading.specs.Reader.{Place, at, stop, next_is}
use Rattle.grammar.specs.Verdicts.{PastIn}
use Rattle.asking.specs.Question.{mixed_next, item_next, question, QuestionSaid, counted_question, QuestionPast}
use Rattle.asking.specs.Meant.{of_all, one_in, shared_at}
use Rattle.entry.specs.Said.{says, refused}
use Rattle.asking.specs.Asking.{question_of}
use Rattle.asking.proofs.Looking.{sight_starts}
use Rattle.asking.proofs.Asked.{question_past}

-- an exactly-one, and what starts none

one : question_of 2 1 0 (bytes "((s1=0 & s2!=0) | (s2=0 & s1!=0))") ≡ says (atom (one_in 0))
unfolding question_of mixed_next
one = refl

alone_ : question_of 2 1 0 (bytes "((s1=0 & s2=0))") ≡ says (atom (of_all all is 0))
unfolding question_of mixed_next
alone_ = refl

only_one_fits : question_of 2 1 0 (bytes "((s1=0 & s2!=0) & (s1=0 & s2=0))") ≡ refused 23 16
unfolding question_of mixed_next
only_one_fits = refl

uneven_inside : question_of 2 1 0 (bytes "((s1=0 & s2!=0 & s3=0) | (s1=0 & s2=0))") ≡ refused 26 0
unfolding question_of mixed_next
uneven_inside = refl

cut : question_of 2 1 0 (bytes "((s1=0 & s2!=0") ≡ refused 23 14
unfolding question_of mixed_next
cut = refl

-- the look ahead reaches the closing bracket: without it the ninth bracket is an expression's

eight_and_one : question_of 2 1 0 (bytes "((((((((((s1=0 & s2!=0) | (s2=0 & s1!=0))))))))))") ≡ says (atom (one_in 0))
unfolding question_of mixed_next
eight_and_one = refl

eight_and_cut : question_of 2 1 0 (bytes "((((((((((s1=0 & s2!=0") ≡ refused 24 8
unfolding question_of mixed_next
eight_and_cut = refl

-- ---- on a card that shares a number, which may be 1

tests : question_of 2 1 2 (bytes "(g=1) & !(g!=0)") ≡ says (and (atom (shared_at is 1)) (neg (atom (shared_at isnt 0))))
unfolding question_of mixed_next
tests = refl

test_above : question_of 2 1 2 (bytes "(g=2)") ≡ refused 25 3
unfolding question_of mixed_next
test_above = refl

eight_and_test : question_of 2 1 2 (bytes "!!!!!!!!(g=1)") ≡ says (neg (neg (neg (neg (neg (neg (neg (neg (atom (shared_at is 1))))))))))
unfolding question_of mixed_next
eight_and_test = refl

-- without one `g` fits nowhere
test_unshared : question_of 2 1 0 (bytes "(g=1)") ≡ refused 23 1
unfolding question_of mixed_next
test_unshared = refl

-- what stands behind a mark tells nothing of it
same_mark : (m : Placed) (x y : Place) → next_is "(" (m ∷ x) ≡ true → next_is "(" (m ∷ y) ≡ true
same_mark (placed t p) x y e = e

-- if only what the bracket itself starts had to agree, a question that is past a limit at a bracket would be so after other marks too
pub too_weak : (shared : Bool) (pre : Place) (m : Placed) (x y : Place) → question shared (at (pre ++ (m ∷ y)) zero) ≡ stop past_limit (m ∷ y) → item_next shared x ≡ item_next shared y
    → PastIn (QuestionSaid shared) counted_question (item_next shared) (pre ++ (m ∷ x)) (m ∷ x)
too_weak shared pre m x y e h = go ((question_past shared (pre ++ (m ∷ y)) (m ∷ y)).0 e)
  where
    go : QuestionPast shared (pre ++ (m ∷ y)) (m ∷ y) → PastIn (QuestionSaid shared) counted_question (item_next shared) (pre ++ (m ∷ x)) (m ∷ x)
    go p =
        let i : m ≡ p.mark = head-eq_of_cons-eq p.place in
        let j : y ≡ p.after = tail-eq_of_cons-eq p.place in
        let q : pre ≡ p.before = append_cancel_right pre p.before (m ∷ y) (p.split ∙ ap (λ z. p.before ++ z) (sym p.place)) in
        record {
          before = p.before;
          mark = p.mark;
          after = x;
          split = ap (λ z. z ++ (m ∷ x)) q ∙ ap (λ z. p.before ++ (z ∷ x)) i;
          place = ap (λ z. z ∷ x) i;
          other = p.other;
          starts = λ k. h ∙ ap (item_next shared) j ∙ sight_starts shared p.after p.other (p.starts (same_mark p.mark x p.after k));
          shape = p.shape;
          said = p.said;
          past = p.past;
        }
