-- A number sought from entry to entry: what is left of the contents decides. Assumes nothing.
use Prim.Native.Nat.{ℕ, suc, ◌+◌, ◌-◌, ◌*◌, ◌<◌}
use mathlib.Core.Path.{◌≡◌, refl, sym, ap, ◌∙◌}
use mathlib.Core.Bool.{Bool, true, false}
use mathlib.Core.List.{List}
use native.Mathlib.Omega.{arith}
use Rattle.std.proofs.Common.{add-one}
use lib.ListN.{drop}
use lib.Seq.{drop-drop}
use Rattle.card.specs.Text.{when◌then◌else◌}
use Rattle.std.specs.Prelude.{Result, Ok}
use Rattle.card.specs.declared.Refusal.{Refusal}
use Rattle.entry.specs.Said.{Said, says, saying}
use Rattle.deck.specs.Contents.{Row, row_of, rows_of, count_of, contents_of}
use Rattle.deck.specs.Lookup.{part_for, is_live, live_row}
use Rattle.deck_entries.specs.Rows.{row_by}
use Rattle.deck_entries.specs.declared.Entry.{Entry}
use Rattle.boxes.specs.Boxes.{placed}
use Rattle.boxes.specs.declared.Place.{Place}

abbrev pub Sought : (deck : List ℕ) (number which : ℕ) → Result Place Refusal → Type 0
Sought deck number which r = r ≡ placed (saying (part_for which) (live_row number (contents_of deck)))

-- sought behind i entries
abbrev pub ahead : (deck : List ℕ) (number i : ℕ) → Said Row
ahead deck number i = live_row number (rows_of (count_of deck - i) (drop (1 + 8 * i) deck))

module _ (deck : List ℕ) (number i : ℕ) (same : live_row number (contents_of deck) ≡ ahead deck number i) (inside : i < count_of deck) where
  here : live_row number (contents_of deck) ≡ (when is_live number (row_of (drop (1 + 8 * i) deck)) then says (row_of (drop (1 + 8 * i) deck)) else ahead deck number (suc i))
  here =
      let more : count_of deck - i ≡ suc (count_of deck - suc i) = omega arith in
      let far : 1 + 8 * i + 8 ≡ 1 + 8 * suc i = omega arith in
      same ∙ rw (more, drop-drop 8 (1 + 8 * i) deck, far) refl

  pub hit : (which : ℕ) → true ≡ is_live number (row_of (drop (1 + 8 * i) deck)) → {x : Entry} → row_by x ≡ row_of (drop (1 + 8 * i) deck)
      → Sought deck number which (Ok (record { which = which; offset = x.offset; size = x.size }))
  hit which h e =
      ap (λ (r : Row). placed (says (part_for which r))) e
      ∙ sym (ap (λ (x : Said Row). placed (saying (part_for which) x)) (here ∙ ap (λ (b : Bool). when b then says (row_of (drop (1 + 8 * i) deck)) else ahead deck number (suc i)) (sym h)))

  pub miss : false ≡ is_live number (row_of (drop (1 + 8 * i) deck)) → live_row number (contents_of deck) ≡ ahead deck number (i + 1)
  miss h = rw (add-one i) (here ∙ ap (λ (b : Bool). when b then says (row_of (drop (1 + 8 * i) deck)) else ahead deck number (suc i)) (sym h))
