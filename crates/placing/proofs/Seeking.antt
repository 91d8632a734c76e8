-- A live number sought from entry to entry: what is left of the contents decides. Assumes nothing.
use Prim.Native.Nat.{ℕ, ◌+◌, ◌*◌, ◌≤◌, ◌<◌}
use mathlib.Core.Path.{◌≡◌, sym, ap, ◌∙◌}
use mathlib.Core.Bool.{Bool, true, false}
use mathlib.Core.List.{List}
use native.Mathlib.Omega.{arith}
use lib.ListN.{drop}
use Rattle.card.specs.Refusals.{not_added}
use Rattle.card.specs.Text.{when◌then◌else◌}
use Rattle.entry.specs.Said.{says, refused}
use Rattle.deck.specs.Contents.{Row, row_of, count_of}
use Rattle.deck.specs.Lookup.{is_live}
use Rattle.tidying.specs.Tidying.{number_free}
use Rattle.gathering.proofs.Entries.{rows_from, all_rows, no_rows, next_row}
use Rattle.placing.specs.Free.{free_said}

module _ (deck : List ℕ) (number : ℕ) where
  abbrev left : ℕ → List Row
  left i = rows_from deck (count_of deck) i

  -- none of the first i entries is it
  pub record Seeking (i : ℕ) : Type 0 where
    pub same : free_said deck number ≡ number_free number (1 + 8 * i) (left i)

  pub seek_begins : Seeking 0
  seek_begins = record { same = ap (number_free number 1) (sym (all_rows deck (count_of deck))) }

  module _ {i : ℕ} (s : Seeking i) where
    pub seek_none : count_of deck ≤ i → free_said deck number ≡ says tt
    seek_none h = s.same ∙ ap (number_free number (1 + 8 * i)) (no_rows deck (count_of deck) i h)

    module _ (h : i < count_of deck) where
      abbrev at : ℕ
      at = 1 + 8 * i

      here : (b : Bool) → b ≡ is_live number (row_of (drop at deck))
          → free_said deck number ≡ (when b then refused not_added at else number_free number (at + 8) (left (i + 1)))
      here b e =
          s.same
          ∙ ap (number_free number at) (next_row deck (count_of deck) i h)
          ∙ ap (λ (x : Bool). when x then refused not_added at else number_free number (at + 8) (left (i + 1))) (sym e)

      pub seek_hit : true ≡ is_live number (row_of (drop at deck)) → free_said deck number ≡ refused not_added at
      seek_hit e = here true e

      pub seek_miss : false ≡ is_live number (row_of (drop at deck)) → Seeking (i + 1)
      seek_miss e = let on : at + 8 ≡ 1 + 8 * (i + 1) = omega arith in record { same = here false e ∙ ap (λ (n : ℕ). number_free number n (left (i + 1))) on }
