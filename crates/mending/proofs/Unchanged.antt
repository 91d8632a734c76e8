-- Of a sound deck whose live cards are taken every entry is kept; where each body starts where the one before ends, the offsets written are those read and the bodies joined are
-- the deck's bytes behind the contents, so that a whole deck is its own mending. Assumes nothing.
use Prim.Native.Nat.{ℕ, zero, suc, ◌+◌, ◌*◌, ◌<◌, ◌≤◌}
use mathlib.Core.Path.{◌≡◌, refl, sym, ap, ◌∙◌}
use mathlib.Core.List.{List, [], ◌∷◌, ◌++◌, map}
use native.Mathlib.Omega.{arith}
use lib.Dec.{eqb}
use lib.ListN.{length, drop, take-append-drop, drop_of_length-le, length-drop}
use lib.Seq.{drop-drop}
use Rattle.entry.specs.Said.{says}
use Rattle.entry.specs.Contract.{two}
use Rattle.deck.specs.Contents.{byte, word, Row, end_of, row_of, rows_of, count_of, entries_from, behind, contents_of}
use Rattle.deck.specs.Deck.{Entry, body_of, entry_of, held_by, low, high, flag_of, row_for, rows_for, row_text, rows_text, bodies, deck_text, Bytes}
use Rattle.deck.specs.Sound.{row_at, Sound}
use Rattle.deck.proofs.Judged.{SoundRows, measured, sound_rest}
use Rattle.deck.proofs.Kept.{byte_at, bytes_drop, body_long}
use Rattle.deck_written.specs.WriteDeckSaid.{line_for}
use Rattle.deck_written.specs.Fine.{NoGaps}
use Rattle.mending.specs.Mending.{Fate, fates_in, kept_in, list_text, mend_said}
use Rattle.mending.specs.Accepted.{Good, Whole}
use Rattle.mending.proofs.MendStage.{some_kept_law}
use Rattle.mending.proofs.Kept.{all_kept, fates_all, kept_held}

-- ---- the contents, read and put again

low_word : (lo hi : ℕ) → lo < 256 → low (word lo hi) ≡ lo
low_word lo hi h = omega arith

high_word : (lo hi : ℕ) → lo < 256 → high (word lo hi) ≡ hi
high_word lo hi h = omega arith

eight_bytes : (t : List ℕ) → 8 ≤ length t → t
    ≡ byte t 0 ∷ byte t 1 ∷ byte t 2 ∷ byte t 3 ∷ byte t 4 ∷ byte t 5 ∷ byte t 6 ∷ byte t 7 ∷ drop 8 t
eight_bytes [] h = absurd (omega arith)
eight_bytes (a ∷ []) h = absurd (omega arith)
eight_bytes (a ∷ b ∷ []) h = absurd (omega arith)
eight_bytes (a ∷ b ∷ c ∷ []) h = absurd (omega arith)
eight_bytes (a ∷ b ∷ c ∷ d ∷ []) h = absurd (omega arith)
eight_bytes (a ∷ b ∷ c ∷ d ∷ e ∷ []) h = absurd (omega arith)
eight_bytes (a ∷ b ∷ c ∷ d ∷ e ∷ f ∷ []) h = absurd (omega arith)
eight_bytes (a ∷ b ∷ c ∷ d ∷ e ∷ f ∷ g ∷ []) h = absurd (omega arith)
eight_bytes (a ∷ b ∷ c ∷ d ∷ e ∷ f ∷ g ∷ i ∷ t) h = refl

row_again : (t : List ℕ) → 8 ≤ length t → Bytes t → row_text (row_of t) (drop 8 t) ≡ t
row_again t h b =
    rw (
      low_word (byte t 0) (byte t 1) (byte_at t 0 b),
      high_word (byte t 0) (byte t 1) (byte_at t 0 b),
      low_word (byte t 2) (byte t 3) (byte_at t 2 b),
      high_word (byte t 2) (byte t 3) (byte_at t 2 b),
      low_word (byte t 4) (byte t 5) (byte_at t 4 b),
      high_word (byte t 4) (byte t 5) (byte_at t 4 b),
    ) (sym (eight_bytes t h))

rows_again : (c : ℕ) (t : List ℕ) → 8 * c ≤ length t → Bytes t → rows_text (rows_of c t) (drop (8 * c) t) ≡ t
rows_again zero t h b = refl
rows_again (suc c) t h b =
    let e : 8 + 8 * c ≡ 8 * suc c = omega arith in
    let more = rows_again c (drop 8 t) (omega (arith, length-drop 8 t)) (bytes_drop 8 t b) in
    ap (λ (l : List ℕ). row_text (row_of t) (rows_text (rows_of c (drop 8 t)) l)) (ap (λ (n : ℕ). drop n t) (sym e) ∙ sym (drop-drop (8 * c) 8 t))
    ∙ ap (row_text (row_of t)) more
    ∙ row_again t (omega arith) b

-- ---- bodies one behind the other, from `from` to the end

abbrev Joined : (long from : ℕ) → List Row → Type 0
Joined long from [] = from ≡ long
Joined long from (r ∷ rs) = (r.offset ≡ from) × Joined long (end_of r) rs

joined : (long c from : ℕ) (t : List ℕ) → (row_at t 0).offset ≡ from → ((i : ℕ) → suc i < suc c → (row_at t (suc i)).offset ≡ end_of (row_at t i))
    → ((i : ℕ) → suc i ≡ suc c → end_of (row_at t i) ≡ long) → Joined long from (rows_of (suc c) t)
joined long zero from t first next last = (first, last 0 refl)
joined long (suc c) from t first next last =
    (first, joined long c (end_of (row_of t)) (drop 8 t) (next 0 (omega arith)) (λ i h. next (suc i) (omega arith)) (λ i h. last (suc i) (omega (arith, h))))

flag_back : (f : ℕ) → f ≤ 1 → flag_of (eqb f 1) ≡ f
flag_back zero h = refl
flag_back (suc zero) h = refl
flag_back (suc (suc f)) h = absurd (omega arith)

module _ (deck : List ℕ) where
  -- an entry's row is the one that it was taken from, but for its offset
  pub row_for_law : (at : ℕ) (r : Row) → r.flag ≤ 1 → r.zero_byte ≡ 0 → end_of r ≤ length deck → row_for at (entry_of deck r) ≡ line_for at r
  row_for_law at r f z l = rw (body_long deck r l, flag_back r.flag f, ← z) refl

  rows_for_law : (c least last : ℕ) (t : List ℕ) → SoundRows (length deck) least last c t → (from : ℕ) → Joined (length deck) from (rows_of c t)
      → rows_for from (map (entry_of deck) (rows_of c t)) ≡ rows_of c t
  rows_for_law zero least last t s from j = refl
  rows_for_law (suc c) least last t s from j =
      let q = s.each 0 (omega arith) in
      let more = rows_for_law c (suc (row_of t).number) (end_of (row_of t)) (drop 8 t) (sound_rest (length deck) c least last t s) (end_of (row_of t)) j.1 in
      let r = row_of t in
      let rest = map (entry_of deck) (rows_of c (drop 8 t)) in
      ap (λ (n : ℕ). row_for n (entry_of deck r) ∷ rows_for (n + length (body_of deck r)) rest) (sym j.0)
      ∙ ap (λ (n : ℕ). row_for r.offset (entry_of deck r) ∷ rows_for (r.offset + n) rest) (body_long deck r q.ends)
      ∙ ap (λ (l : List Row). row_for r.offset (entry_of deck r) ∷ l) more
      ∙ ap (λ (x : Row). x ∷ rows_of c (drop 8 t)) (row_for_law r.offset r q.flag q.zero_byte q.ends)

  bodies_are : (rs : List Row) (from : ℕ) → Joined (length deck) from rs → bodies (map (entry_of deck) rs) ≡ drop from deck
  bodies_are [] from j = let h : length deck ≤ from = omega (arith, j) in sym (drop_of_length-le deck h)
  bodies_are (r ∷ rs) from j =
      ap (λ (l : List ℕ). body_of deck r ++ l) (bodies_are rs (end_of r) j.1 ∙ sym (drop-drop r.size r.offset deck))
      ∙ take-append-drop r.size (drop r.offset deck)
      ∙ ap (λ (n : ℕ). drop n deck) j.0

  count_held : (c : ℕ) (t : List ℕ) → length (map (entry_of deck) (rows_of c t)) ≡ c
  count_held zero t = refl
  count_held (suc c) t = ap suc (count_held c (drop 8 t))

  pub all_there : Good deck → mend_said deck ≡ says (two (deck_text (held_by deck)) (list_text (all_kept (contents_of deck))))
  all_there g =
      let e : kept_in deck ≡ held_by deck = kept_held deck g.sound g.accepted in
      let n : 1 ≤ length (kept_in deck) = omega (arith, ap length e, count_held (count_of deck) (entries_from deck), g.sound.head.some) in
      some_kept_law deck g.sound.head n
      ∙ ap (λ (es : List Entry). says (two (deck_text es) (list_text (fates_in deck)))) e
      ∙ ap (λ (fs : List Fate). says (two (deck_text (held_by deck)) (list_text fs))) (fates_all deck g.sound g.accepted)

  -- a sound deck without gaps is the text of what it holds
  module _ (s : Sound deck) (g : NoGaps deck) (b : Bytes deck) where
    tight : Joined (length deck) (behind (count_of deck)) (contents_of deck)
    tight = go (count_of deck) refl
      where
        go : (c : ℕ) → c ≡ count_of deck → Joined (length deck) (behind (count_of deck)) (rows_of c (entries_from deck))
        go zero e = absurd (omega (arith, e, s.head.some))
        go (suc c) e =
            joined (length deck) c (behind (count_of deck)) (entries_from deck) g.first (λ i h. g.next i (omega (arith, e))) (λ i h. g.last i (h ∙ e))

    head_and_rest : (t : List ℕ) → 1 ≤ length t → byte t 0 ∷ drop 1 t ≡ t
    head_and_rest [] h = absurd (omega arith)
    head_and_rest (x ∷ t) h = refl

    pub text_same : deck_text (held_by deck) ≡ deck
    text_same =
        let c = count_of deck in
        let h = s.head in
        let n = count_held c (entries_from deck) in
        let rest : drop (8 * c) (entries_from deck) ≡ drop (behind c) deck = drop-drop (8 * c) 1 deck in
        ap (λ (k : ℕ). k ∷ rows_text (rows_for (behind k) (held_by deck)) (bodies (held_by deck))) n
        ∙ ap (λ (rs : List Row). c ∷ rows_text rs (bodies (held_by deck))) (rows_for_law c 0 (behind c) (entries_from deck) (measured deck s) (behind c) tight)
        ∙ ap (λ (l : List ℕ). c ∷ rows_text (contents_of deck) l) (bodies_are (contents_of deck) (behind c) tight ∙ sym rest)
        ∙ ap (λ (l : List ℕ). c ∷ l) (rows_again c (entries_from deck) (omega (arith, h.whole, length-drop 1 deck)) (bytes_drop 1 deck b))
        ∙ head_and_rest deck (omega (arith, h.whole))

  pub comes_out_the_same : Whole deck → Bytes deck → mend_said deck ≡ says (two deck (list_text (all_kept (contents_of deck))))
  comes_out_the_same w b = all_there w.good ∙ ap (λ (t : List ℕ). says (two t (list_text (all_kept (contents_of deck))))) (text_same w.good.sound w.no_gaps b)
