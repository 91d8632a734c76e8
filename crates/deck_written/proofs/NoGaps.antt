-- A deck's text leaves no gap: its entries are those of `rows_for`, of which each starts where the one before ends. Assumes nothing.
use Prim.Native.Nat.{ℕ, zero, suc, ◌+◌, ◌<◌, ◌≤◌}
use mathlib.Core.Path.{◌≡◌, refl, sym, ap, ◌∙◌}
use mathlib.Core.List.{List, [], ◌∷◌}
use native.Mathlib.Omega.{arith}
use lib.ListN.{length, drop, get_or, length-append}
use Rattle.deck.specs.Contents.{Row, end_of, rows_of, behind}
use Rattle.deck.specs.Deck.{Entry, rows_for, bodies, deck_text}
use Rattle.deck.specs.Sound.{row_at, entry_at}
use Rattle.deck.proofs.Written.{length_text, contents_text}
use Rattle.deck_written.specs.Fine.{NoGaps}

abbrev no_row : Row
no_row = record { number = 0; offset = 0; size = 0; flag = 0; zero_byte = 0 }

row_in : (c : ℕ) (t : List ℕ) (i : ℕ) → i < c → row_at t i ≡ get_or (rows_of c t) i no_row
row_in zero t i h = absurd (omega arith)
row_in (suc c) t zero h = refl
row_in (suc c) t (suc i) h = row_in c (drop 8 t) i (omega arith)

next_row : (at : ℕ) (es : List Entry) (i : ℕ) → suc i < length es → (get_or (rows_for at es) (suc i) no_row).offset ≡ end_of (get_or (rows_for at es) i no_row)
next_row at [] i h = absurd (omega arith)
next_row at (e ∷ []) i h = absurd (omega arith)
next_row at (e ∷ f ∷ es) zero h = refl
next_row at (e ∷ f ∷ es) (suc i) h = next_row (at + length e.body) (f ∷ es) i (omega arith)

last_row : (at : ℕ) (es : List Entry) (i : ℕ) → suc i ≡ length es → end_of (get_or (rows_for at es) i no_row) ≡ at + length (bodies es)
last_row at [] i h = absurd (omega arith)
last_row at (e ∷ []) zero h = omega (arith, length-append e.body [])
last_row at (e ∷ []) (suc i) h = absurd (omega arith)
last_row at (e ∷ f ∷ es) zero h = absurd (omega arith)
last_row at (e ∷ f ∷ es) (suc i) h =
    last_row (at + length e.body) (f ∷ es) i (omega arith) ∙ omega (arith, length-append e.body (bodies (f ∷ es)))

pub no_gaps : (es : List Entry) → 1 ≤ length es → NoGaps (deck_text es)
no_gaps es h = record { first = at_first es h; next = at_next; last = at_last }
  where
    there : (i : ℕ) → i < length es → entry_at (deck_text es) i ≡ get_or (rows_for (behind (length es)) es) i no_row
    there i l = row_in (length es) (drop 1 (deck_text es)) i l ∙ ap (λ (rs : List Row). get_or rs i no_row) (contents_text es)

    at_first : (fs : List Entry) → 1 ≤ length fs → (entry_at (deck_text fs) 0).offset ≡ behind (length fs)
    at_first [] l = absurd (omega arith)
    at_first (e ∷ fs) l =
        ap (λ (r : Row). r.offset) (row_in (length (e ∷ fs)) (drop 1 (deck_text (e ∷ fs))) 0 (omega arith) ∙ ap (λ (rs : List Row). get_or rs 0 no_row) (contents_text (e ∷ fs)))

    at_next : (i : ℕ) → suc i < length es → (entry_at (deck_text es) (suc i)).offset ≡ end_of (entry_at (deck_text es) i)
    at_next i l =
        ap (λ (r : Row). r.offset) (there (suc i) l) ∙ next_row (behind (length es)) es i l ∙ sym (ap end_of (there i (omega arith)))

    at_last : (i : ℕ) → suc i ≡ length es → end_of (entry_at (deck_text es) i) ≡ length (deck_text es)
    at_last i e = ap end_of (there i (omega arith)) ∙ last_row (behind (length es)) es i e ∙ sym (length_text es)
