-- What writing says, from what the contents say: their refusal is the entry's, and behind them bodies and total are judged. Assumes nothing.
use Prim.Native.Nat.{ℕ, ◌+◌, ◌≤◌, ◌<◌}
use mathlib.Core.Path.{◌≡◌, sym, ◌∙◌}
use mathlib.Core.List.{List}
use native.Mathlib.Omega.{arith}
use borrow.Author.Tests.{lt-leb, eq-eqb, ne_eqb}
use lib.ListN.{length}
use Rattle.card.specs.Limits.{deck_bytes}
use Rattle.card.specs.Refusals.{malformed_deck, room_too_small}
use Rattle.entry.specs.Said.{Said, says, refused, ◌>>◌}
use Rattle.entry.proofs.Stages.{says≢refused, same_said, same_number, same_place}
use Rattle.deck.specs.Contents.{behind}
use Rattle.deck.specs.Deck.{deck_text}
use Rattle.deck.proofs.Judged.{past}
use Rattle.deck_written.specs.WriteDeckSaid.{count_in, lines, count_said, lines_said, sizes, bodies_said, entries_said, write_deck_said}
use Rattle.deck_written.specs.Fine.{Count, Fine}
use Rattle.deck_written.proofs.Exactly.{count_right, fields_right, said_fine}
use Rattle.deck_written.proofs.Entries.{deck_long}
use Rattle.room.specs.Answer.{Done, Refused}
use Rattle.room.specs.Answer.{told, Entered}
use Rattle.room.proofs.Entries.{told_faithful, entered_short, entered_whole}
use Rattle.deck_writer.specs.Measured.{measured, contents_said}
use Rattle.deck_writer.specs.Parts.{DeckPut}
use Rattle.deck_writer.proofs.Putting.{deck_there}

pub told_refused : {x : Said ℕ} {r p : ℕ} → told x ≡ Refused r p → x ≡ refused r p
told_refused {x} {r} {p} e = told_faithful x (refused r p) e

pub told_done : {x : Said ℕ} {long : ℕ} → told x ≡ Done long → x ≡ says long
told_done {x} {long} e = told_faithful x (says long) e

-- a stage refused, with one thing or another said behind it
refused_behind : {A B : Type 0} (x : Said (Unit {0})) (y : Said A) (z : Said B) {r p : ℕ} → (y ≡ refused r p → z ≡ refused r p) → x >> y ≡ refused r p → x >> z ≡ refused r p
refused_behind (says u) y z more e = more e
refused_behind (refused s q) y z more e = rw (same_number e, same_place e)

module _ (contents bodies : List ℕ) where
  pub contents_refused : {r p : ℕ} → contents_said contents ≡ refused r p → write_deck_said contents bodies ≡ refused r p
  unfolding write_deck_said
  contents_refused e =
      refused_behind (count_said contents) (measured 0 0 0 (lines contents)) _
      (λ f. refused_behind (lines_said 0 0 (lines contents)) (says (0 + sizes (lines contents))) _ (λ k. says≢refused k) f) e

  module _ {long : ℕ} (e : contents_said contents ≡ says long) where
    count_fine : count_said contents ≡ says tt
    count_fine = (past (count_said contents) (measured 0 0 0 (lines contents)) long e).0

    lines_fine : (lines_said 0 0 (lines contents) ≡ says tt) × (says (0 + sizes (lines contents)) ≡ says long)
    lines_fine = past (lines_said 0 0 (lines contents)) (says (0 + sizes (lines contents))) long (past (count_said contents) (measured 0 0 0 (lines contents)) long e).1

    counted : Count contents (count_in contents)
    counted = count_right contents count_fine

    pub long_is : sizes (lines contents) ≡ long
    long_is = omega (arith, same_said lines_fine.1)

    pub few_entries : length contents ≤ 512
    few_entries = omega (arith, counted.long, counted.few)

    behind_contents : write_deck_said contents bodies ≡ bodies_said contents bodies >> says (deck_text (entries_said contents bodies))
    unfolding write_deck_said
    behind_contents = rw (count_fine, lines_fine.0)

    pub other_length : (long ≡ length bodies → ⊥) → write_deck_said contents bodies ≡ refused malformed_deck (length contents)
    other_length n = behind_contents ∙ rw (ne_eqb (sizes (lines contents)) (length bodies) (λ k. n (sym long_is ∙ k)))

    module _ (w : long ≡ length bodies) where
      whole : sizes (lines contents) ≡ length bodies
      whole = long_is ∙ w

      pub too_long : deck_bytes < 1 + length contents + length bodies → write_deck_said contents bodies ≡ refused malformed_deck (length contents)
      too_long h =
          behind_contents
          ∙ rw (eq-eqb (sizes (lines contents)) (length bodies) whole, lt-leb (behind (count_in contents) + length bodies) deck_bytes (omega (arith, counted.long)))

      pub is_fine : 1 + length contents + length bodies ≤ deck_bytes → Fine contents bodies
      is_fine h = record { count = count_in contents; counted = counted; fields = fields_right counted lines_fine.0; fitting = record { whole = whole; short = h } }

-- fine contents and bodies, by the room
module _ {contents bodies : List ℕ} (h : Fine contents bodies) {room : List ℕ} where
  pub small_room : length room < 1 + length contents + length bodies
      → Entered room room (write_deck_said contents bodies) (Refused room_too_small (1 + length contents + length bodies))
  small_room l = entered_short (sym (deck_long h)) (said_fine contents bodies h) l

  pub stored : {is : List ℕ} {r : ℕ} → 1 + length contents + length bodies ≤ length room → DeckPut room is contents bodies (1 + length contents) r
      → Entered room is (write_deck_said contents bodies) (Done r)
  stored l p = entered_whole (said_fine contents bodies h) (omega (arith, deck_long h)) (deck_there h p)
