-- A deck's entries and their notes, gone through from entry to entry. Assumes nothing.
use Prim.Native.Nat.{ℕ, suc, ◌+◌, ◌-◌, ◌*◌, ◌≤◌, ◌<◌}
use mathlib.Core.Path.{◌≡◌, ap, ◌∙◌}
use mathlib.Core.List.{List, [], ◌∷◌}
use native.Mathlib.Omega.{arith}
use lib.ListN.{length, drop, get_or}
use lib.Seq.{drop-drop, drop-cons}
use Rattle.deck.specs.Contents.{Row, row_of, rows_of, count_of, entries_from, contents_of}
use Rattle.converted_rows.specs.Noted.{Each}

module _ (deck : List ℕ) where
  -- the entries from the i-th on
  abbrev pub rows_left : ℕ → List Row
  rows_left i = rows_of (count_of deck - i) (drop (1 + 8 * i) deck)

  pub all_left : rows_left 0 ≡ contents_of deck
  all_left = let z : count_of deck - 0 ≡ count_of deck = omega arith in ap (λ (n : ℕ). rows_of n (entries_from deck)) z

  module _ {i : ℕ} where
    pub none_left : count_of deck ≤ i → rows_left i ≡ []
    none_left l = let z : count_of deck - i ≡ 0 = omega arith in ap (λ (n : ℕ). rows_of n (drop (1 + 8 * i) deck)) z

    pub first_left : i < count_of deck → rows_left i ≡ row_of (drop (1 + 8 * i) deck) ∷ rows_left (i + 1)
    first_left l =
        let row = row_of (drop (1 + 8 * i) deck) in
        let n : count_of deck - i ≡ suc (count_of deck - (i + 1)) = omega arith in
        let on : 1 + 8 * i + 8 ≡ 1 + 8 * (i + 1) = omega arith in
        ap (λ (c : ℕ). rows_of c (drop (1 + 8 * i) deck)) n
        ∙ ap (λ (t : List ℕ). row ∷ rows_of (count_of deck - (i + 1)) t) (drop-drop 8 (1 + 8 * i) deck ∙ ap (λ (m : ℕ). drop m deck) on)

-- the notes
pub note_and_rest : (notes : List ℕ) {i : ℕ} → i < length notes → drop i notes ≡ get_or notes i 0 ∷ drop (i + 1) notes
note_and_rest notes {i} l = let one : suc i ≡ i + 1 = omega arith in drop-cons notes i 0 l ∙ ap (λ (m : ℕ). get_or notes i 0 ∷ drop m notes) one

pub in_contents : {deck notes : List ℕ} {i : ℕ} → Each deck notes → i < length notes → 1 + 8 * i + 8 ≤ length deck
in_contents h l = omega (arith, h.long, h.head.whole)
