-- What is promised of the marks: exactly those by the rules; and of each mark of a card where it stands, and that the next one stands behind it.
use Prim.Native.Nat.{ℕ, ◌+◌, ◌≤◌}
use mathlib.Core.Path.{◌≡◌, sym, ap, ◌∙◌, subst}
use mathlib.Core.Logic.{◌↔◌}
use mathlib.Core.List.{List, [], ◌∷◌, ◌++◌}
use native.Mathlib.Nat.{zero-add, add-zero}
use native.Mathlib.Omega.{arith}
use lib.ListN.{length, drop, length-append, length-drop}
use lib.Seq.{drop-append_seam, drop-drop}
use Rattle.marks_on_a_card.specs.Marks.{Mark, Placed, placed, marks_of}
use Rattle.spelling.specs.Spells.{Spells}
use Rattle.spelling.specs.Marked.{Stands, taken, Marked, next, StandsAt}
use Rattle.spelling.proofs.Lists.{same_front}
use Rattle.spelling.proofs.Forms.{form, form_some}
use Rattle.spelling.proofs.Once.{spells_once}
use Rattle.spelling.proofs.Exact.{marked, marked_only}

pub exact : (s : List ℕ) (ms : List Placed) → (marks_of s ≡ ms) ↔ Marked 0 s ms
exact s ms = (λ e. subst (Marked 0 s) e (marked s), marked_only s ms)

pub once : (w : List ℕ) (m n : Mark) → Spells w m → Spells w n → m ≡ n
once = spells_once

-- ---- the marks from one of them on

record Part (a : ℕ) (s : List ℕ) (ms : List Placed) : Type 0 where
  from : ℕ
  marks_are : Marked (a + from) (drop from s) ms

-- the place behind the first of some marks
record Behind (a : ℕ) (s : List ℕ) (rest : List Placed) : Type 0 where
  by : ℕ
  left : List ℕ
  left_is : left ≡ drop by s
  marks_are : Marked (a + by) left rest

behind : (a : ℕ) (s : List ℕ) (x : Placed) (rest : List Placed) → Marked a s (x ∷ rest) → Behind a s rest
behind a s x rest (next {g = g} {w = w} {r = r} {m = m} e b st k) =
    let t = taken m w in
    let n : a + length g + t ≡ a + (length g + t) = omega arith in
    record {
      by = length g + t;
      left = drop t (w ++ r);
      left_is = ap (drop t) (sym (drop-append_seam g (w ++ r)) ∙ ap (drop (length g)) (sym e)) ∙ drop-drop t (length g) s;
      marks_are = rw n at k;
    }

part : (a : ℕ) (s : List ℕ) (before ms : List Placed) → Marked a s (before ++ ms) → Part a s ms
part a s [] ms k = record { from = 0; marks_are = rw (add-zero a) k }
part a s (x ∷ before) ms k =
    let h = behind a s x (before ++ ms) k in
    let p = part (a + h.by) h.left before ms h.marks_are in
    let n : a + h.by + p.from ≡ a + (h.by + p.from) = omega arith in
    record {
      from = h.by + p.from;
      marks_are = subst (λ (u : List ℕ). Marked (a + (h.by + p.from)) u ms) (ap (drop p.from) h.left_is ∙ drop-drop p.from h.by s) (rw n at p.marks_are);
    }

-- the first of some marks, and the second behind it
module _ (s : List ℕ) where
  stands_first : (a : ℕ) (m : Mark) (p : ℕ) (after : List Placed) → Marked a (drop a s) (placed m p ∷ after) → StandsAt s p m
  stands_first a m p after (next {g = g} {w = w} {r = r} e b st k) =
      let there : drop (a + length g) s ≡ w ++ r = sym (drop-drop (length g) a s) ∙ ap (drop (length g)) e ∙ drop-append_seam g (w ++ r) in
      record {
        spelt = w;
        rest = r;
        on_card = omega (arith, length-drop (a + length g) s, ap length there ∙ length-append w r, form_some w (form w m st.spells));
        from_there = there;
        stands = st;
      }

  second_place : (a : ℕ) (s : List ℕ) (n : Mark) (q : ℕ) (after : List Placed) → Marked a s (placed n q ∷ after) → a ≤ q
  second_place a s n q after (next e b st k) = omega arith

  same_spelt : (x : List ℕ) (w r : List ℕ) (v u : List ℕ) (m : Mark) → x ≡ w ++ r → x ≡ v ++ u → Stands w r m → Stands v u m → w ≡ v
  same_spelt x w r v u m e f st nd =
      let short : length v ≤ length w = st.longest v u m (sym e ∙ f) nd.spells in
      let long : length w ≤ length v = nd.longest w r m (sym f ∙ e) st.spells in
      same_front w r v u (sym e ∙ f) (omega arith)

  second_behind : (a : ℕ) (m n : Mark) (p q : ℕ) (after : List Placed) → Marked a (drop a s) (placed m p ∷ placed n q ∷ after) → (x : StandsAt s p m) → p + taken m x.spelt ≤ q
  second_behind a m n p q after (next {g = g} {w = w} {r = r} e b st k) x =
      let there : drop (a + length g) s ≡ w ++ r = sym (drop-drop (length g) a s) ∙ ap (drop (length g)) e ∙ drop-append_seam g (w ++ r) in
      let w-is : w ≡ x.spelt = same_spelt (drop (a + length g) s) w r x.spelt x.rest m there x.from_there st x.stands in
      omega (arith, ap (taken m) w-is, second_place (a + length g + taken m w) (drop (taken m w) (w ++ r)) n q after k)

from_zero : (s : List ℕ) (ms : List Placed) (p : Part 0 s ms) → Marked p.from (drop p.from s) ms
from_zero s ms p = rw (zero-add p.from) at p.marks_are

pub stands_at : (s : List ℕ) (before after : List Placed) (m : Mark) (p : ℕ) → marks_of s ≡ before ++ (placed m p ∷ after) → StandsAt s p m
stands_at s before after m p e =
    let k = part 0 s before (placed m p ∷ after) (subst (Marked 0 s) e (marked s)) in
    stands_first s k.from m p after (from_zero s (placed m p ∷ after) k)

pub rises : (s : List ℕ) (before after : List Placed) (m n : Mark) (p q : ℕ) → marks_of s ≡ before ++ (placed m p ∷ placed n q ∷ after)
    → (x : StandsAt s p m) → p + taken m x.spelt ≤ q
rises s before after m n p q e x =
    let k = part 0 s before (placed m p ∷ placed n q ∷ after) (subst (Marked 0 s) e (marked s)) in
    second_behind s k.from m n p q after (from_zero s (placed m p ∷ placed n q ∷ after) k) x
