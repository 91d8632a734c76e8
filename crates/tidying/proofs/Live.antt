-- The live cards of a deck: they are found as before, and tidying keeps them and nothing else. Entry by entry, by its flag. Assumes nothing.
use Prim.Native.Nat.{ℕ}
use mathlib.Core.Path.{◌≡◌, refl, ap}
use mathlib.Core.Bool.{Bool, true, false, ◌&&◌}
use mathlib.Core.List.{List, [], ◌∷◌}
use lib.Dec.{eqb}
use Rattle.card.specs.Text.{when◌then◌else◌}
use Rattle.card.specs.Valid.{Every}
use Rattle.entry.specs.Said.{says}
use Rattle.deck.specs.Deck.{Entry, kept}
use Rattle.deck.specs.Lookup.{live_in}
use Rattle.tidying.specs.Tidying.{live_entries}

-- every entry that is kept passes, and where all pass all are kept
module _ (f : Entry → Bool) where
  abbrev Passing : Entry → Type 0
  Passing e = f e ≡ true

  pub kept_pass : (es : List Entry) → Every Passing (kept f es)
  kept_pass [] = tt
  kept_pass (e ∷ es) = go (f e) refl (kept_pass es)
    where
      go : (b : Bool) → f e ≡ b → Every Passing (kept f es) → Every Passing (when b then e ∷ kept f es else kept f es)
      go true h r = (h, r)
      go false h r = r

  pub kept_all : (es : List Entry) → Every Passing es → kept f es ≡ es
  kept_all [] h = refl
  kept_all (e ∷ es) h = rw h.0 (ap (λ (l : List Entry). e ∷ l) (kept_all es h.1))

-- a card is found among the live ones as among all
pub found_live : (number : ℕ) (es : List Entry) → live_in number (live_entries es) ≡ live_in number es
found_live number [] = refl
found_live number (e ∷ es) = go (eqb e.number number) e.live refl refl (found_live number es)
  where
    go : (a b : Bool) → eqb e.number number ≡ a → e.live ≡ b → live_in number (live_entries es) ≡ live_in number es
        → live_in number (when b then e ∷ live_entries es else live_entries es) ≡ (when a && b then says e.body else live_in number es)
    go true true h k r = rw (h, k)
    go true false h k r = r
    go false true h k r = rw h r
    go false false h k r = r
