-- What the code hands back for what a reader finds in a part of the card that begins at place o of it: what was read, or the place where
-- the part is out of shape. The places in the answer are the part's own. Assumes nothing.
use Rattle.std.specs.Prelude.{ℕ, ◌+◌, ◌≤◌, ◌≡◌, List, length, Result as Answer, Ok, Err}
use Rattle.card.specs.Refusals.{out_of_shape}
use Rattle.marks_on_a_card.specs.Marks.{place_of}
use Rattle.reading.specs.Reader.{Place, State, Result, ok, stop}

-- it stopped with refusal m at q
pub record Stopped (o : ℕ) (s : List ℕ) (m : ℕ) (q : Place) (r : ℕ) : Type 0 where
  pub number : m ≡ out_of_shape
  pub place : place_of (o + length s) q ≡ o + r
  pub within : r ≤ length s

-- Read says what r is for what was read
abbrev pub Found : {A B : Type 0} → (A → State → B → Type 0) → ℕ → List ℕ → Result A → Answer B ℕ → Type 0
Found Read o s (ok a behind) (Ok r) = Read a behind r
Found Read o s (ok a behind) (Err r) = ⊥
Found Read o s (stop m q) (Ok r) = ⊥
Found Read o s (stop m q) (Err r) = Stopped o s m q r
