-- In a sound deck of accepted cards every entry is kept: each is right by the number and the end before it, which is what the rules ask for. Assumes nothing.
use Prim.Native.Nat.{ℕ, zero, suc, ◌<◌}
use mathlib.Core.Path.{◌≡◌, refl, ap, ◌∙◌}
use mathlib.Core.Bool.{Bool, true, false}
use mathlib.Core.List.{List, [], ◌∷◌, map}
use native.Mathlib.Omega.{arith}
use lib.ListN.{length, drop}
use borrow.Author.Tests.{le-leb, eqb-true, eq-eqb}
use Rattle.card.specs.Card.{Card}
use Rattle.card.specs.Text.{when◌then◌else◌}
use Rattle.deck.specs.Contents.{Row, end_of, row_of, rows_of, count_of, entries_from, behind, contents_of}
use Rattle.deck.specs.Deck.{live_of, body_of, entry_of, held_by}
use Rattle.deck.specs.Sound.{row_at, Sound}
use Rattle.deck.proofs.Judged.{RowRight, SoundRows, measured, sound_rest}
use Rattle.reading.specs.Reading.{taken, read_of}
use Rattle.mending.specs.Mending.{card_right, is_taken, Fate, kept, fate_of, fates_from, fates_in, kept_rows, kept_in}
use Rattle.mending.specs.Accepted.{Accepted}

-- a line for each entry, all kept
abbrev pub all_kept : List Row → List Fate
all_kept rows = map (λ (r : Row). kept) rows

pub kept_all : (rows : List Row) → kept_rows (all_kept rows) rows ≡ rows
kept_all [] = refl
kept_all (r ∷ rs) = ap (λ (l : List Row). r ∷ l) (kept_all rs)

module _ (deck : List ℕ) where
  pub card_right_law : (r : Row) → (r.flag ≡ 1 → (c : Card) × (read_of (body_of deck r) ≡ taken c)) → card_right deck r ≡ true
  card_right_law r h = go (live_of r) (λ e. h (eqb-true r.flag 1 e))
    where
      go : (b : Bool) → (b ≡ true → (c : Card) × (read_of (body_of deck r) ≡ taken c)) → (when b then is_taken (read_of (body_of deck r)) else true) ≡ true
      go true g = let (c, e) = g refl in ap is_taken e
      go false g = refl

  fate_kept : (least last : ℕ) (r : Row) → RowRight (length deck) least last r → card_right deck r ≡ true → fate_of deck least last r ≡ kept
  fate_kept least last r h c =
      rw (
        le-leb r.flag 1 h.flag,
        eq-eqb r.zero_byte 0 h.zero_byte,
        le-leb least r.number h.number,
        le-leb last r.offset h.begins,
        le-leb (end_of r) (length deck) h.ends,
        c,
      )

  fates_kept : (c least last : ℕ) (t : List ℕ) → SoundRows (length deck) least last c t
      → ((i : ℕ) → i < c → (row_at t i).flag ≡ 1 → (x : Card) × (read_of (body_of deck (row_at t i)) ≡ taken x))
      → fates_from deck least last (rows_of c t) ≡ all_kept (rows_of c t)
  fates_kept zero least last t s a = refl
  fates_kept (suc c) least last t s a =
      let e = fate_kept least last (row_of t) (s.each 0 (omega arith)) (card_right_law (row_of t) (a 0 (omega arith))) in
      let more = fates_kept c (suc (row_of t).number) (end_of (row_of t)) (drop 8 t) (sound_rest (length deck) c least last t s) (λ i l. a (suc i) (omega arith)) in
      rw e (ap (λ (l : List Fate). kept ∷ l) more)

  module _ (s : Sound deck) (a : Accepted deck) where
    pub fates_all : fates_in deck ≡ all_kept (contents_of deck)
    fates_all = fates_kept (count_of deck) 0 (behind (count_of deck)) (entries_from deck) (measured deck s) a

    pub kept_held : kept_in deck ≡ held_by deck
    kept_held = ap (λ (fs : List Fate). map (entry_of deck) (kept_rows fs (contents_of deck))) fates_all ∙ ap (map (entry_of deck)) (kept_all (contents_of deck))
