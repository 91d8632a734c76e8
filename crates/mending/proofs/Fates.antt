-- The fate of an entry is that it is kept, or dropped by a rule, which has a number from 1 to 4. Assumes nothing.
use Prim.Native.Nat.{ℕ, suc, ◌<◌}
use mathlib.Core.Path.{◌≡◌, refl, ap, ◌∙◌}
use mathlib.Core.Bool.{Bool, true, false}
use mathlib.Core.List.{List, [], ◌∷◌}
use native.Mathlib.Omega.{arith}
use lib.ListN.{length}
use Rattle.card.specs.Text.{when◌then◌else◌}
use Rattle.deck.specs.Contents.{Row, count_of, entries_from, behind, contents_of}
use Rattle.deck_written.proofs.Entries.{length_rows}
use Rattle.mending.specs.Mending.{flags_right, number_rises, range_lies, card_right, Fate, kept, dropped, fate_of, least_behind, last_behind, fates_from, fates_in}

module _ (deck : List ℕ) (least last : ℕ) (r : Row) where
  -- what holds of both holds of it
  pub by_fate : (P : Fate → Type 0) → P kept → ((rule : ℕ) → rule < 4 → P (dropped (suc rule))) → P (fate_of deck least last r)
  by_fate P k d = go (flags_right r) (number_rises least r) (range_lies (length deck) last r) (card_right deck r)
    where
      go : (a b c e : Bool) → P (when a then when b then when c then when e then kept else dropped 4 else dropped 3 else dropped 2 else dropped 1)
      go true true true true = k
      go true true true false = d 3 (omega arith)
      go true true false e = d 2 (omega arith)
      go true false c e = d 1 (omega arith)
      go false b c e = d 0 (omega arith)

-- there is one for each entry
fates_long : (deck : List ℕ) (least last : ℕ) (rs : List Row) → length (fates_from deck least last rs) ≡ length rs
fates_long deck least last [] = refl
fates_long deck least last (r ∷ rs) = let f = fate_of deck least last r in ap suc (fates_long deck (least_behind f r least) (last_behind f r last) rs)

pub one_each : (deck : List ℕ) → length (fates_in deck) ≡ count_of deck
one_each deck = fates_long deck 0 (behind (count_of deck)) (contents_of deck) ∙ length_rows (count_of deck) (entries_from deck)
