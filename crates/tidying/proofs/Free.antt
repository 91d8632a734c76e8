-- Whether a number is free among the contents: as the lookup finds it or not, withdrawn cards left aside; and where its live entry starts. Assumes nothing.
use Prim.Native.Nat.{ℕ, zero, suc, ◌+◌, ◌*◌, ◌<◌}
use mathlib.Core.Path.{◌≡◌, refl, ap, ◌∙◌}
use mathlib.Core.Bool.{Bool, true, false, ◌&&◌}
use mathlib.Core.List.{List, [], ◌∷◌, map}
use native.Mathlib.Omega.{arith}
use borrow.Author.Tests.{eqb-true, eqb-false, eq-eqb}
use lib.Dec.{eqb}
use lib.ListN.{drop}
use Rattle.card.specs.Refusals.{not_added}
use Rattle.card.specs.Text.{when◌then◌else◌}
use Rattle.card.specs.Valid.{Every}
use Rattle.entry.specs.Said.{says, refused}
use Rattle.entry.proofs.Stages.{says≢refused}
use Rattle.deck.specs.Contents.{Row, rows_of, count_of, entries_from, contents_of}
use Rattle.deck.specs.Deck.{Entry, live_of, entry_of}
use Rattle.deck.specs.Given.{LiveAt, NoLive}
use Rattle.deck.specs.Lookup.{is_live, live_row}
use Rattle.deck.specs.Sound.{row_at, Sound}
use Rattle.deck.proofs.Looked.{none_row}
use Rattle.tidying.specs.Tidying.{live_entries, number_free}

module _ (number : ℕ) where
  -- no live entry has it: it is free, and each live entry has another
  free_row : (at : ℕ) (rows : List Row) {r p : ℕ} → live_row number rows ≡ refused r p → number_free number at rows ≡ says tt
  free_row at [] e = refl
  free_row at (row ∷ rows) {r} {p} e = go (is_live number row) (λ h. free_row (at + 8) rows h) e
    where
      go : (b : Bool) → (live_row number rows ≡ refused r p → number_free number (at + 8) rows ≡ says tt) → (when b then says row else live_row number rows) ≡ refused r p
          → (when b then refused not_added at else number_free number (at + 8) rows) ≡ says tt
      go true rest h = says≢refused h
      go false rest h = rest h

  abbrev pub Others : List Entry → Type 0
  Others es = Every (λ (e : Entry). e.number ≡ number → ⊥) es

  others_row : (deck : List ℕ) (rows : List Row) {r p : ℕ} → live_row number rows ≡ refused r p → Others (live_entries (map (entry_of deck) rows))
  others_row deck [] e = tt
  others_row deck (row ∷ rows) {r} {p} e = go (eqb row.number number) (live_of row) refl (λ h. others_row deck rows h) e
    where
      go : (a b : Bool) → eqb row.number number ≡ a → (live_row number rows ≡ refused r p → Others (live_entries (map (entry_of deck) rows)))
          → (when a && b then says row else live_row number rows) ≡ refused r p
          → Others (when b then entry_of deck row ∷ live_entries (map (entry_of deck) rows) else live_entries (map (entry_of deck) rows))
      go true true k rest h = says≢refused h
      go true false k rest h = rest h
      go false true k rest h = (eqb-false row.number number k, rest h)
      go false false k rest h = rest h

  module _ (deck : List ℕ) (none : NoLive deck number) where
    pub number_free_law : number_free number 1 (contents_of deck) ≡ says tt
    number_free_law = free_row 1 (contents_of deck) (none_row deck number none)

    pub live_others : Others (live_entries (map (entry_of deck) (contents_of deck)))
    live_others = others_row deck (contents_of deck) (none_row deck number none)

  -- entry i is the first live one of the number
  taken_row : (at c : ℕ) (t : List ℕ) (i : ℕ) → i < c → is_live number (row_at t i) ≡ true → ((j : ℕ) → j < i → is_live number (row_at t j) ≡ false)
      → number_free number at (rows_of c t) ≡ refused not_added (at + 8 * i)
  taken_row at zero t i l h before = absurd (omega arith)
  taken_row at (suc c) t zero l h before = let e : at ≡ at + 8 * 0 = omega arith in rw h (ap (refused not_added) e)
  taken_row at (suc c) t (suc i) l h before =
      let e : at + 8 + 8 * i ≡ at + 8 * suc i = omega arith in
      let more = taken_row (at + 8) c (drop 8 t) i (omega arith) h (λ j m. before (suc j) (omega arith)) in
      rw (before 0 (omega arith)) (more ∙ ap (refused not_added) e)

  -- in a sound deck there is no other
  pub number_taken : (deck : List ℕ) → Sound deck → (i : ℕ) → LiveAt deck number i → number_free number 1 (contents_of deck) ≡ refused not_added (1 + 8 * i)
  number_taken deck s i l = taken_row 1 (count_of deck) (entries_from deck) i l.inside here before
    where
      here : is_live number (row_at (entries_from deck) i) ≡ true
      here = rw (eq-eqb (row_at (entries_from deck) i).number number l.named, eq-eqb (row_at (entries_from deck) i).flag 1 l.live)

      other : (b : Bool) → (b ≡ true → ⊥) → (x : Bool) → b && x ≡ false
      other true n x = absurd (n refl)
      other false n x = refl

      before : (j : ℕ) → j < i → is_live number (row_at (entries_from deck) j) ≡ false
      before j m =
          let rises = (s.order j i m l.inside).rises in
          let named = l.named in
          other (eqb (row_at (entries_from deck) j).number number) (λ e. let q = eqb-true (row_at (entries_from deck) j).number number e in omega (arith, rises, named, q)) (live_of (row_at (entries_from deck) j))
