-- The first walk: notes found so far before those still to be found, and what is said of all ends is said of those that follow. Assumes nothing.
use Prim.Native.Nat.{ℕ, zero, suc, ◌+◌, ◌*◌, ◌≤◌, ◌<◌}
use mathlib.Core.Path.{◌≡◌, refl, sym, ap, ◌∙◌, subst}
use mathlib.Core.List.{List, [], ◌∷◌, ◌++◌, map, append_assoc, append-nil}
use native.Mathlib.Omega.{arith}
use lib.ListN.{length, drop, set, length-append}
use lib.Seq.{drop-cons, set_at}
use Rattle.card.specs.Refusals.{not_converted}
use Rattle.card.specs.Limits.{deck_bytes}
use Rattle.card.specs.Valid.{Every}
use Rattle.entry.specs.Said.{refused}
use Rattle.deck.specs.Contents.{word_at, Row, row_of, count_of, behind}
use Rattle.deck.specs.Deck.{Entry, entry_of, held_by}
use Rattle.deck.specs.Sound.{Sound}
use Rattle.deck_entries.proofs.Laws.{row_there}
use Rattle.reading.specs.Reading.{read_under}
use Rattle.card.proofs.Verdicts.{ok≢refused}
use Rattle.room.specs.Answer.{Done, Refused, told}
use Rattle.converting.specs.Converting.{old_rule, new_rule}
use Rattle.converted_rows.specs.Noted.{size_by}
use Rattle.converted_rows.specs.Notes.{note_of, new_size, end_said}
use Rattle.converted_rows.proofs.Left.{rows_left, all_left, none_left, first_left}
use Rattle.converted_rows.proofs.Notes.{fits_on, past_end_law, note_most}
use Rattle.converted_rows.proofs.Text.{RightRow, sound_right, size_of}
use Rattle.convert.specs.NotesFound.{NotesFound}

module _ (deck : List ℕ) where
  abbrev entries_left : ℕ → List Entry
  entries_left i = map (entry_of deck) (rows_left deck i)

  pub record Going (was is : List ℕ) (i end : ℕ) : Type 0 where
    pub right : Every (RightRow deck) (rows_left deck i)
    pub done : List ℕ
    pub long : length done ≡ i
    pub notes : map note_of (held_by deck) ≡ done ++ map note_of (entries_left i)
    pub stands : is ≡ done ++ drop i was
    pub ends : end_said (behind (count_of deck)) (held_by deck) ≡ end_said end (entries_left i)
    pub short : end ≤ 65535

  module _ (s : Sound deck) where
    pub begins : (was : List ℕ) {c : ℕ} → c ≡ count_of deck → Going was was 0 (1 + 8 * c)
    begins was {c} e =
        let same = all_left deck in
        let first : behind (count_of deck) ≡ 1 + 8 * c = omega (arith, e) in
        record {
          right = subst (Every (RightRow deck)) (sym same) (sound_right deck s);
          done = [];
          long = refl;
          notes = ap (λ (rs : List Row). map note_of (map (entry_of deck) rs)) (sym same);
          stands = refl;
          ends = ap (λ (n : ℕ). end_said n (held_by deck)) first ∙ ap (λ (rs : List Row). end_said (1 + 8 * c) (map (entry_of deck) rs)) (sym same);
          short = omega (arith, first, s.head.whole, s.head.short);
        }

    module _ {was is : List ℕ} {i end : ℕ} (g : Going was is i end) where
      pub ended : i ≤ count_of deck → count_of deck ≤ i → NotesFound deck was is (Done end)
      ended b l =
          let none = none_left deck l in
          let all : i ≡ count_of deck = omega arith in
          record {
            ends = ap told (sym (g.ends ∙ ap (λ (rs : List Row). end_said end (map (entry_of deck) rs)) none));
            notes = λ m e.
                g.stands
                ∙ ap (λ (n : ℕ). g.done ++ drop n was) all
                ∙ ap (λ (t : List ℕ). t ++ drop (count_of deck) was) (sym (g.notes ∙ ap (λ (rs : List Row). g.done ++ map note_of (map (entry_of deck) rs)) none ∙ append-nil g.done));
          }

      module _ (l : i < count_of deck) where
        abbrev row : Row
        row = row_of (drop (1 + 8 * i) deck)

        abbrev entry : Entry
        entry = entry_of deck row

        pub in_contents : 1 + 8 * i + 8 ≤ length deck
        in_contents = omega (arith, s.head.whole)

        split : Every (RightRow deck) (row ∷ rows_left deck (i + 1))
        split = subst (Every (RightRow deck)) (first_left deck l) g.right

        pub right_row : RightRow deck row
        right_row = split.0

        module _ {k z : ℕ} (ek : k ≡ note_of entry) (ez : z ≡ size_by k row.size) where
          size_is : new_size entry ≡ z
          size_is = size_of deck row right_row ∙ ap (λ (n : ℕ). size_by n row.size) (sym ek) ∙ sym ez

          size_most : (n : ℕ) → n ≤ 65537 → size_by n row.size ≤ 65537
          size_most zero h = omega (arith, right_row.ends, s.head.short)
          size_most (suc n) h = omega arith

          pub end_small : end + z ≤ 65535 + 65537
          end_small =
              let most : k ≤ 65537 = omega (arith, ek, note_most entry.live (read_under old_rule entry.body) (read_under new_rule entry.body)) in
              omega (arith, g.short, ez, size_most k most)

          ends_split : end_said (behind (count_of deck)) (held_by deck) ≡ end_said end (entry ∷ entries_left (i + 1))
          ends_split = g.ends ∙ ap (λ (rs : List Row). end_said end (map (entry_of deck) rs)) (first_left deck l)

          pub stopped : deck_bytes < end + z → {n : ℕ} {now : List ℕ} → n ≡ word_at deck (1 + 8 * i) → NotesFound deck was now (Refused not_converted n)
          stopped past {n} en =
              let number : row.number ≡ n = ap (λ (r : Row). r.number) (row_there deck (1 + 8 * i) 0 0 en refl refl refl refl) in
              record {
                ends = ap told (sym (ends_split ∙ past_end_law end entry (entries_left (i + 1)) (omega (arith, size_is)) ∙ ap (λ (m : ℕ). refused not_converted m) number));
                notes = λ m e. ok≢refused (sym e);
              }

          pub goes_on : end + z ≤ deck_bytes → i < length was → Going was (set is i k) (i + 1) (end + z)
          goes_on fits room = record {
            right = split.1;
            done = g.done ++ k ∷ [];
            long = length-append g.done (k ∷ []) ∙ omega (arith, g.long);
            notes =
                g.notes
                ∙ ap (λ (rs : List Row). g.done ++ map note_of (map (entry_of deck) rs)) (first_left deck l)
                ∙ ap (λ (n : ℕ). g.done ++ n ∷ map note_of (entries_left (i + 1))) (sym ek)
                ∙ sym (append_assoc g.done (k ∷ []) (map note_of (entries_left (i + 1))));
            stands =
                let one : suc i ≡ i + 1 = omega arith in
                ap (λ (t : List ℕ). set t i k) (g.stands ∙ ap (λ (t : List ℕ). g.done ++ t) (drop-cons was i 0 room))
                ∙ set_at g.done _ (drop (suc i) was) k i g.long
                ∙ sym (append_assoc g.done (k ∷ []) (drop (suc i) was))
                ∙ ap (λ (n : ℕ). (g.done ++ k ∷ []) ++ drop n was) one;
            ends =
                ends_split
                ∙ fits_on end entry (entries_left (i + 1)) (omega (arith, size_is))
                ∙ ap (λ (n : ℕ). end_said (end + n) (entries_left (i + 1))) size_is;
            short = fits;
          }
