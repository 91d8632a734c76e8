-- The marks from the place of a mark on begin with that mark, so what a stop leaves unread is read again from its place: the first mark
-- outside the rules of the whole card is the first behind a stop. Assumes nothing.
use Prim.Native.Nat.{ℕ, zero, suc, ◌+◌, ◌-◌, ◌≤◌, ◌<◌}
use mathlib.Core.Path.{◌≡◌, refl, sym, ap, ◌∙◌}
use mathlib.Core.Bool.{Bool, true, false}
use mathlib.Core.List.{List, [], ◌∷◌}
use mathlib.Core.Option.{none, some}
use native.Mathlib.Nat.{zero-add}
use native.Mathlib.Omega.{arith}
use borrow.Author.Tests.{leb-true, leb-false}
use lib.Dec.{leb}
use lib.ListN.{length, drop, length-drop, drop_of_length-le}
use lib.Seq.{drop-drop, drop-length}
use Rattle.marks_on_a_card.specs.Marks.{Mark, text, seat, process, number, decimal, outside, placed, Start, blank, mark, start_at, emit, marks, place_of}
use Rattle.marks_on_a_card.specs.Kinds.{k_end, k_outside, kind_of}
use Rattle.marks.specs.Step.{step_at, marks_at}
use Rattle.marks_on_a_card.proofs.KindLaws.{kind_outside, kind_some}
use Rattle.marks.specs.declared.Step.{Step}
use Rattle.reading.specs.Reader.{Place}
use Rattle.reading.specs.Reading.{is_outside, first_outside}
use Rattle.parts.proofs.Steps.{Next, end, one, next_at}

module _ (s : List ℕ) where
  -- of the bytes x at the end of s, of which k are skipped
  again : (k : ℕ) (x : List ℕ) → length x ≤ length s → drop (length s - length x) s ≡ x
      → marks (length s) 0 (drop (place_of (length s) (marks (length s) k x)) s) ≡ marks (length s) k x
  again zero [] h e = rw (drop-length s)
  again (suc k) [] h e = rw (drop-length s)
  again (suc k) (b ∷ x) h e = again k x (omega arith) (shorter b x h e)
    where
      shorter : (b : ℕ) (x : List ℕ) → length (b ∷ x) ≤ length s → drop (length s - length (b ∷ x)) s ≡ b ∷ x → drop (length s - length x) s ≡ x
      shorter b x h e = let n : length s - length x ≡ (length s - length (b ∷ x)) + 1 = omega arith in rw n (sym (drop-drop 1 (length s - length (b ∷ x)) s) ∙ ap (drop 1) e)
  again zero (b ∷ x) h e = go (start_at b x) refl (λ more. again more x)
    where
      shorter : drop (length s - length x) s ≡ x
      shorter = let n : length s - length x ≡ (length s - length (b ∷ x)) + 1 = omega arith in rw n (sym (drop-drop 1 (length s - length (b ∷ x)) s) ∙ ap (drop 1) e)

      go : (t : Start) → start_at b x ≡ t
          → ((more : ℕ) → length x ≤ length s → drop (length s - length x) s ≡ x → marks (length s) 0 (drop (place_of (length s) (marks (length s) more x)) s) ≡ marks (length s) more x)
          → marks (length s) 0 (drop (place_of (length s) (emit (length s - length (b ∷ x)) t (λ more. marks (length s) more x))) s) ≡ emit (length s - length (b ∷ x)) t (λ more. marks (length s) more x)
      go (blank more) q f = f more (omega arith) shorter
      go (mark m more) q f = rw (e, q)

  pub same_place : (i : ℕ) → marks_at 0 s (place_of (length s) (marks_at 0 s i)) ≡ marks_at 0 s i
  same_place i = rw (zero-add (length s)) (again zero (drop i s) (omega (arith, length-drop i s)) (go (leb i (length s)) refl))
    where
      go : (b : Bool) → leb i (length s) ≡ b → drop (length s - length (drop i s)) s ≡ drop i s
      go true e =
          let n : length s - (length s - i) ≡ i = omega (arith, leb-true i (length s) e) in
          rw length-drop (ap (λ (k : ℕ). drop k s) n)
      go false e =
          let l : length s ≤ i = omega (arith, leb-false i (length s) e) in
          let n : length s - (length s - i) ≡ length s = omega arith in
          rw (length-drop, n, drop_of_length-le s l) (drop-length s)

  -- a place of the card, up to which no mark is outside the rules
  abbrev pub Reached : Place → Type 0
  Reached p = (i : ℕ) × (marks_at 0 s i ≡ p) × (first_outside p ≡ first_outside (marks_at 0 s 0))

  pub reached_first : Reached (marks_at 0 s 0)
  reached_first = (0, refl, refl)

  pub reached_next : (m : Mark) (q : ℕ) (ms : Place) → is_outside m ≡ false → Reached (placed m q ∷ ms) → Reached ms
  reached_next m q ms e (i, f, g) = go (step_at s i) (next_at s i (step_at s i) refl)
    where
      go : (x : Step) → Next s i x → Reached ms
      go _ (end h) = let z : ◌≡◌ {A = ℕ} 0 1 = cc (h, f) in absurd (omega arith)
      go _ (one n p next l h) = let z : marks_at 0 s next ≡ ms = cc (h, f) in (next, z, rw e at g)

  pub outside_behind : (p : Place) → Reached p → first_outside (marks_at 0 s 0) ≡ first_outside (marks_at 0 s (place_of (length s) p))
  outside_behind p (i, f, g) = sym g ∙ ap first_outside (sym (rw f at (same_place i)))

-- ---- the search for a mark outside the rules

none_outside : (s : List ℕ) (i : ℕ) → marks_at 0 s i ≡ [] → first_outside (marks_at 0 s i) ≡ none
none_outside s i e = ap first_outside e

pub search_over : (s : List ℕ) (i : ℕ) → length s ≤ i → first_outside (marks_at 0 s i) ≡ none
search_over s i h = rw (drop_of_length-le s h)

module _ (s : List ℕ) (i : ℕ) where
  pub search_end : (x : Step) → Next s i x → x.mark.kind ≡ k_end → first_outside (marks_at 0 s i) ≡ none
  search_end _ (end e) z = none_outside s i e
  search_end _ (one m p next l e) z = absurd (kind_some m z)

  pub search_found : (x : Step) → Next s i x → x.mark.kind ≡ k_outside → first_outside (marks_at 0 s i) ≡ some x.mark.place
  search_found _ (end e) z = absurd (omega arith)
  search_found _ (one m p next l e) z = rw (e, kind_outside m z)

  inside : (m : Mark) → (kind_of m ≡ k_outside → ⊥) → is_outside m ≡ false
  inside (text t) h = refl
  inside (seat j) h = refl
  inside (process j) h = refl
  inside (number v) h = refl
  inside (decimal v n f) h = refl
  inside outside h = absurd (h refl)

  -- a mark inside the rules: the search goes on behind it, and fewer marks are left
  pub search_more : (x : Step) → Next s i x → (x.mark.kind ≡ k_end → ⊥) → (x.mark.kind ≡ k_outside → ⊥)
      → (first_outside (marks_at 0 s i) ≡ first_outside (marks_at 0 s x.next.at)) × (length (marks_at 0 s x.next.at) < length (marks_at 0 s i))
  search_more _ (end e) z o = absurd (z refl)
  search_more _ (one m p next l e) z o = (rw (e, inside m o), rw e (omega arith))
