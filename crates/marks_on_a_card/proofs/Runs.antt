-- Runs of bytes from a place on, and whether the bytes from a place on begin with others: one byte more, or the end.
use Prim.Native.Nat.{ℕ, ◌+◌, ◌≤◌, ◌<◌}
use mathlib.Core.Path.{◌≡◌, refl, sym, ap}
use mathlib.Core.Bool.{Bool, true, false, ◌&&◌}
use mathlib.Core.List.{List, [], ◌∷◌}
use mathlib.Core.Option.{none, some}
use native.Mathlib.Decide.{dec_lt}
use native.Mathlib.Omega.{arith}
use lib.Dec.{eqb}
use lib.ListN.{length, get_or, drop, length-drop, drop_of_length-le}
use borrow.Author.Tests.{eq-eqb, ne_eqb, eqb-true, eqb-false}
use Rattle.card.specs.Text.{same}
use Rattle.marks_on_a_card.specs.Bytes.{run, begins, every, after, run_end, begun}
use Rattle.marks_on_a_card.proofs.Lists.{none_left, cases, not_both, and_left, and_right, drop_at}

module _ (p : ℕ → Bool) (s : List ℕ) (i : ℕ) where
  pub run_on : i < length s → p (get_or s i 0) ≡ true → run p (drop i s) ≡ get_or s i 0 ∷ run p (drop (i + 1) s)
  run_on h e = rw (drop_at s i h, e)

  pub end_on : i < length s → p (get_or s i 0) ≡ true → run_end p s i ≡ run_end p s (i + 1)
  end_on h e = rw (run_on h e) (omega arith)

  pub begins_at : i < length s → begins p (drop i s) ≡ p (get_or s i 0)
  begins_at h = rw (drop_at s i h)

  pub begins_none : length s ≤ i → begins p (drop i s) ≡ false
  begins_none h = rw (drop_of_length-le s h)

pub begun_short : (t s : List ℕ) → length s < length t → begun t s ≡ false
begun_short [] s h = absurd (omega arith)
begun_short (a ∷ t) [] h = refl
begun_short (a ∷ t) (b ∷ s) h = cases (eqb a b) (λ e. rw e (begun_short t s (omega arith))) (λ e. rw e)

-- ---- a run of bytes

pub run_empty : (p : ℕ → Bool) (s : List ℕ) → begins p s ≡ false → run p s ≡ []
run_empty p [] e = refl
run_empty p (b ∷ s) e = rw e

pub run_length : (p : ℕ → Bool) (s : List ℕ) → length (run p s) ≤ length s
run_length p [] = omega arith
run_length p (b ∷ s) = cases (p b) (λ e. rw e (omega (arith, run_length p s))) (λ e. rw e (omega arith))

pub run_passes : (p : ℕ → Bool) (s : List ℕ) → every p (run p s) ≡ true
run_passes p [] = refl
run_passes p (b ∷ s) = cases (p b) (λ e. rw e (rw (e, run_passes p s))) (λ e. rw e)

-- it ends where the test fails
pub run_stops : (p : ℕ → Bool) (s : List ℕ) → begins p (drop (length (run p s)) s) ≡ false
run_stops p [] = refl
run_stops p (b ∷ s) = cases (p b) (λ e. rw e (run_stops p s)) (λ e. rw e e)

-- the bytes from its end on
pub run_first : (p : ℕ → Bool) (s : List ℕ) → 0 < length (run p s) → get_or (run p s) 0 0 ≡ get_or s 0 0
run_first p [] h = refl
run_first p (b ∷ s) h = cases (p b) (λ e. rw e) (λ e. absurd (omega (arith, rw e at h)))

-- a run of a wider test, all of which passes the narrower, is the run of the narrower
module _ (p q : ℕ → Bool) (wider : (b : ℕ) → p b ≡ true → q b ≡ true) where
  pub run_narrow : (s : List ℕ) → every p (run q s) ≡ true → run p s ≡ run q s
  run_narrow [] e = refl
  run_narrow (b ∷ s) e = cases (q b)
      (λ f.
      let g : (p b && every p (run q s)) ≡ true = rw f at e in
      rw (f, and_left (p b) (every p (run q s)) g) (ap (λ (t : List ℕ). b ∷ t) (run_narrow s (and_right (p b) (every p (run q s)) g))))
      (λ f. cases (p b) (λ g. not_both (q b) (wider b g) f) (λ g. rw (f, g)))

  -- and so it is where the wider test fails behind the narrower run
  pub run_same : (s : List ℕ) → begins q (drop (length (run p s)) s) ≡ false → run q s ≡ run p s
  run_same [] e = refl
  run_same (b ∷ s) e = cases (p b)
      (λ f.
      let g : begins q (drop (length (run p s)) s) ≡ false = rw f at e in
      rw (f, wider b f) (ap (λ (t : List ℕ). b ∷ t) (run_same s g)))
      (λ f. let g : q b ≡ false = rw f at e in rw (f, g))

-- ---- runs and beginnings

pub eqb_sym : (a b : ℕ) → eqb a b ≡ eqb b a
eqb_sym a b = cases (eqb a b) (λ e. rw (e, eq-eqb b a (sym (eqb-true a b e)))) (λ e. rw (e, ne_eqb b a (λ q. eqb-false a b e (sym q))))

module _ (p : ℕ → Bool) where
  -- a run that begins with t is t and the run behind it
  pub after_run : (t s : List ℕ) → every p t ≡ true → begun t s ≡ true → after t (run p s) ≡ some (run p (drop (length t) s))
  after_run [] s e h = refl
  after_run (a ∷ t) [] e h = not_both false h refl
  after_run (a ∷ t) (b ∷ s) e h = cases (eqb a b)
      (λ f.
      let g : begun t s ≡ true = rw f at h in
      let q : a ≡ b = eqb-true a b f in
      let w : p b ≡ true = rw (← q) (and_left (p a) (every p t) e) in
      rw (w, f) (after_run t s (and_right (p a) (every p t) e) g))
      (λ f. not_both false (rw f at h) refl)

  pub after_not : (t s : List ℕ) → begun t s ≡ false → after t (run p s) ≡ none
  after_not [] s h = not_both true refl h
  after_not (a ∷ t) [] h = refl
  after_not (a ∷ t) (b ∷ s) h = cases (p b)
      (λ w. rw w (cases (eqb a b) (λ f. rw f (after_not t s (rw f at h))) (λ f. rw f)))
      (λ w. rw w)

  pub run_begun : (t s : List ℕ) → every p t ≡ true → begun t s ≡ true → length (run p s) ≡ length t + length (run p (drop (length t) s))
  run_begun [] s e h = omega arith
  run_begun (a ∷ t) [] e h = not_both false h refl
  run_begun (a ∷ t) (b ∷ s) e h = cases (eqb a b)
      (λ f.
      let g : begun t s ≡ true = rw f at h in
      let q : a ≡ b = eqb-true a b f in
      let w : p b ≡ true = rw (← q) (and_left (p a) (every p t) e) in
      rw w (omega (arith, run_begun t s (and_right (p a) (every p t) e) g)))
      (λ f. not_both false (rw f at h) refl)

  -- a run as long as t is t, if the text begins with t
  pub same_begun : (t s : List ℕ) → length (run p s) ≡ length t → same (run p s) t ≡ begun t s
  same_begun [] s h = rw (none_left (run p s) h)
  same_begun (a ∷ t) [] h = refl
  same_begun (a ∷ t) (b ∷ s) h = cases (p b)
      (λ w.
      let n : length (run p s) ≡ length t = omega (arith, rw w at h) in
      rw (w, eqb_sym b a) (cases (eqb a b) (λ f. rw f (same_begun t s n)) (λ f. rw f)))
      (λ w. absurd (omega (arith, rw w at h)))

pub begins_place : (p : ℕ → Bool) (s : List ℕ) (i : ℕ) → begins p (drop i s) ≡ true → i < length s
begins_place p s i e = go (dec_lt i (length s))
  where
    go : Dec (i < length s) → i < length s
    go (yes h) = h
    go (no h) = not_both (begins p (drop i s)) e (begins_none p s i (omega arith))

pub begun_fits : (t s : List ℕ) (i : ℕ) → i ≤ length s → begun t (drop i s) ≡ true → i + length t ≤ length s
begun_fits t s i h e = go (dec_lt (length (drop i s)) (length t))
  where
    go : Dec (length (drop i s) < length t) → i + length t ≤ length s
    go (yes l) = not_both (begun t (drop i s)) e (begun_short t (drop i s) l)
    go (no l) = omega (arith, length-drop i s)
