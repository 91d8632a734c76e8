-- An entry and those behind it, by the bytes where they stand. Assumes nothing.
use Prim.Native.Nat.{ℕ, suc, ◌+◌, ◌-◌, ◌*◌, ◌≤◌, ◌<◌}
use mathlib.Core.Path.{◌≡◌, refl, sym, ap, ◌∙◌}
use mathlib.Core.Bool.{Bool, true, false}
use mathlib.Core.List.{List, [], ◌∷◌, map}
use native.Mathlib.Omega.{arith}
use borrow.Author.Tests.{eq-eqb, ne_eqb}
use lib.Dec.{eqb}
use lib.ListN.{drop}
use lib.Seq.{drop-drop}
use Rattle.card.specs.Text.{when◌then◌else◌}
use Rattle.deck.specs.Contents.{byte, word_at, Row, row_of, rows_of}
use Rattle.deck.specs.Deck.{Entry, live_of, entry_of}
use Rattle.deck_entries.proofs.Laws.{row_there}
use Rattle.deck_written.specs.WriteDeckSaid.{sizes}
use Rattle.tidying.specs.Tidying.{live_entries}
use Rattle.gathering.specs.LiveRows.{live_rows, live_size, Flagged}

-- of so many entries those from the i-th on
abbrev pub rows_from : (deck : List ℕ) (count i : ℕ) → List Row
rows_from deck count i = rows_of (count - i) (drop (1 + 8 * i) deck)

pub all_rows : (deck : List ℕ) (count : ℕ) → rows_from deck count 0 ≡ rows_of count (drop 1 deck)
all_rows deck count = let z : count - 0 ≡ count = omega arith in ap (λ (n : ℕ). rows_of n (drop 1 deck)) z

pub no_rows : (deck : List ℕ) (count i : ℕ) → count ≤ i → rows_from deck count i ≡ []
no_rows deck count i h = let z : count - i ≡ 0 = omega arith in ap (λ (n : ℕ). rows_of n (drop (1 + 8 * i) deck)) z

pub next_row : (deck : List ℕ) (count i : ℕ) → i < count → rows_from deck count i ≡ row_of (drop (1 + 8 * i) deck) ∷ rows_from deck count (i + 1)
next_row deck count i h =
    let r = row_of (drop (1 + 8 * i) deck) in
    let one : count - i ≡ suc (count - (i + 1)) = omega arith in
    let on : 1 + 8 * i + 8 ≡ 1 + 8 * (i + 1) = omega arith in
    ap (λ (n : ℕ). rows_of n (drop (1 + 8 * i) deck)) one
    ∙ ap (λ (t : List ℕ). r ∷ rows_of (count - (i + 1)) t) (drop-drop 8 (1 + 8 * i) deck ∙ ap (λ (n : ℕ). drop n deck) on)

-- ---- the live ones of them

module _ (r : Row) (rs : List Row) where
  pub live_first : live_of r ≡ true → live_rows (r ∷ rs) ≡ r ∷ live_rows rs
  live_first e = rw e

  pub live_others : live_of r ≡ false → live_rows (r ∷ rs) ≡ live_rows rs
  live_others e = rw e

  pub live_sizes : sizes (live_rows (r ∷ rs)) ≡ live_size r + sizes (live_rows rs)
  live_sizes = go (live_of r)
    where
      go : (b : Bool) → sizes (when b then r ∷ live_rows rs else live_rows rs) ≡ (when b then r.size else 0) + sizes (live_rows rs)
      go true = refl
      go false = omega arith

-- the live entries are those of the live rows
pub live_held : (deck : List ℕ) (rows : List Row) → live_entries (map (entry_of deck) rows) ≡ map (entry_of deck) (live_rows rows)
live_held deck [] = refl
live_held deck (r ∷ rs) = go (live_of r) (live_held deck rs)
  where
    go : (b : Bool) → live_entries (map (entry_of deck) rs) ≡ map (entry_of deck) (live_rows rs)
        → (when b then entry_of deck r ∷ live_entries (map (entry_of deck) rs) else live_entries (map (entry_of deck) rs)) ≡ map (entry_of deck) (when b then r ∷ live_rows rs else live_rows rs)
    go true e = ap (λ (l : List Entry). entry_of deck r ∷ l) e
    go false e = e

-- ---- by the flag's byte

module _ (deck : List ℕ) (at : ℕ) {f : ℕ} (ef : f ≡ byte deck (at + 6)) where
  abbrev row : Row
  row = row_of (drop at deck)

  flag_there : row.flag ≡ f
  flag_there = ap (λ (r : Row). r.flag) (row_there deck at 0 0 refl refl refl ef refl)

  pub flag_here : {flag : ℕ} → f ≡ flag → {size : ℕ} → (size ≡ word_at deck (at + 4)) × (size < 65536) → Flagged flag row size
  flag_here {flag} h e = record {
    flagged = eq-eqb row.flag flag (flag_there ∙ h);
    same = sym (ap (λ (r : Row). r.size) (row_there deck at 0 0 refl refl e.0 refl refl));
    short = e.1;
  }

  pub other_here : {flag : ℕ} → (f ≡ flag → ⊥) → eqb row.flag flag ≡ false
  other_here {flag} h = ne_eqb row.flag flag (λ e. h (sym flag_there ∙ e))
