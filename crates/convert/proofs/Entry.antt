-- An entry by the bytes where it stands: its note is that of the part of the deck that its fields name. Assumes nothing.
use Prim.Native.Nat.{ℕ, ◌+◌, ◌-◌, ◌≤◌}
use mathlib.Core.Path.{◌≡◌, refl, sym, ap, ◌∙◌}
use mathlib.Core.Bool.{Bool, true}
use mathlib.Core.List.{List}
use native.Mathlib.Omega.{arith}
use borrow.Author.Tests.{eq-eqb, ne_eqb}
use lib.ListN.{length, take, drop}
use Rattle.deck.specs.Contents.{word_at, byte, Row, row_of, end_of}
use Rattle.deck.specs.Deck.{live_of, body_of, entry_of}
use Rattle.deck_entries.proofs.Laws.{row_with, row_there}
use Rattle.reading.specs.Reading.{read_under}
use Rattle.converting.specs.Converting.{old_rule, new_rule}
use Rattle.converted_rows.specs.Notes.{note_by, note_of}
use Rattle.converted_rows.proofs.Text.{RightRow}

module _ (deck : List ℕ) (from : ℕ) (right : RightRow deck (row_of (drop from deck))) where
  abbrev row : Row
  row = row_of (drop from deck)

  flag_is : row.flag ≡ byte deck (from + 6)
  flag_is = ap (λ (r : Row). r.flag) (row_there deck from 0 0 refl refl refl refl refl)

  by_flag : {b : Bool} → live_of row ≡ b → note_of (entry_of deck row) ≡ note_by b (read_under old_rule (body_of deck row)) (read_under new_rule (body_of deck row))
  by_flag l = ap (λ (b : Bool). note_by b (read_under old_rule (body_of deck row)) (read_under new_rule (body_of deck row))) l

  pub unread : byte deck (from + 6) ≡ 0 → 0 ≡ note_of (entry_of deck row)
  unread h = sym (by_flag (ne_eqb row.flag 1 (λ q. omega (arith, q, flag_is, h))))

  module _ {o s : ℕ} (eo : o ≡ word_at deck (from + 2)) (es : s ≡ word_at deck (from + 4)) where
    there : row ≡ row_with (word_at deck from) o s (byte deck (from + 6)) (byte deck (from + 7))
    there = row_there deck from 0 0 refl eo es refl refl

    pub in_deck : o + s ≤ length deck
    in_deck = omega (arith, right.ends, ap end_of there)

    card_is : body_of deck row ≡ take (o + s - o) (drop o deck)
    card_is = let e : s ≡ o + s - o = omega arith in ap (body_of deck) there ∙ ap (λ (n : ℕ). take n (drop o deck)) e

    pub noted : (byte deck (from + 6) ≡ 0 → ⊥) → {k : ℕ}
        → k ≡ note_by true (read_under old_rule (take (o + s - o) (drop o deck))) (read_under new_rule (take (o + s - o) (drop o deck))) → k ≡ note_of (entry_of deck row)
    noted live e =
        let some : row.flag ≡ 0 → ⊥ = λ q. live (sym flag_is ∙ q) in
        e ∙ sym (by_flag (eq-eqb row.flag 1 (omega (arith, right.flag, some))) ∙ ap (λ (t : List ℕ). note_by true (read_under old_rule t) (read_under new_rule t)) card_is)
