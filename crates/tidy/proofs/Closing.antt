-- The steps of closing up, each a text stored in the deck: the live entries as they stand, the count, the bodies behind them, the entries with new offsets, and zero bytes. The last four
-- are one behind the other from the first byte to the last. Assumes nothing.
use Prim.Native.Nat.{ℕ, ◌+◌, ◌-◌, ◌*◌, ◌≤◌}
use mathlib.Core.Path.{◌≡◌, refl, sym, ap, ◌∙◌, subst}
use mathlib.Core.List.{List, [], ◌∷◌, ◌++◌, append-nil, append_assoc, map}
use native.Mathlib.Omega.{arith}
use lib.ListN.{length, take, drop, set, length-append, length-set, length-drop, length-take, length-map, drop_of_length-le}
use lib.Seq.{drop-set-lt, drop_at, take-append_seam}
use Rattle.deck.specs.Contents.{Row, rows_of, count_of, entries_from, behind, contents_of}
use Rattle.deck.specs.Deck.{entry_of, rows_text, bodies}
use Rattle.deck_written.specs.WriteDeckSaid.{sizes, lines_for}
use Rattle.room.specs.Room.{clip}
use Rattle.room.proofs.Laws.{clip_one, clip_append, clip_fits, clip_start, length_clip}
use Rattle.byte_blocks.proofs.Clips.{take_before, drop_behind, clip_clip}
use Rattle.tidying.specs.Tidied.{tidy_text, zeroed, lent_after}
use Rattle.gathering.specs.LiveRows.{live_rows}
use Rattle.gathering.specs.LiveText.{rows_in, rows_stay, bodies_stay, Offsets, Ahead, Gatherable}
use Rattle.gathering.proofs.Ahead.{ahead_from, ahead_sound, same_rows}
use Rattle.gathering.specs.Kept.{kept_rows}
use Rattle.gathering.proofs.KeptDeck.{kept_long, kept_rows_law, live_again, ahead_kept, same_bodies}
use Rattle.gathering.specs.declared.Live.{Live}
use Rattle.tidy.specs.Tidies.{Measured}
use Rattle.tidy.proofs.LiveDeck.{few_rows, bodies_long, rows_long, all_ahead, tidy_text_law}

-- zero bytes tell nothing but how many they are
pub same_zeros : (a b : List ℕ) → length a ≡ length b → zeroed a ≡ zeroed b
same_zeros [] [] e = refl
same_zeros [] (y ∷ b) e = absurd (omega (arith, e))
same_zeros (x ∷ a) [] e = absurd (omega (arith, e))
same_zeros (x ∷ a) (y ∷ b) e = let k : length a ≡ length b = omega (arith, e) in ap (λ (t : List ℕ). 0 ∷ t) (same_zeros a b k)

-- a text at the start of a room, and zero bytes behind it
pub then_zeros : (was start t : List ℕ) {now : List ℕ} {n : ℕ} → length start ≡ length was → length t ≤ length was → n ≡ length t
    → now ≡ clip (clip start 0 t) n (zeroed (drop n (clip start 0 t))) → now ≡ lent_after t was
then_zeros was start t {now} {n} k l e f =
    let there = clip start 0 t in
    let m : length there ≡ length was = length_clip start 0 t ∙ k in
    let zeros = zeroed (drop (length t) there) in
    let long : length zeros ≡ length (drop (length t) there) = length-map (drop (length t) there) _ in
    let end : length t + length zeros ≡ length there = omega (arith, long, length-drop (length t) there, m, l) in
    let past : length there ≤ length t + length zeros = omega (arith, end) in
    let start-there : there ≡ t ++ drop (length t) start = clip_start start t (omega (arith, k)) in
    f
    ∙ ap (λ (i : ℕ). clip there i (zeroed (drop i there))) e
    ∙ clip_fits there (length t) zeros (omega (arith, end))
    ∙ ap (λ (s : List ℕ). (take (length t) there ++ zeros) ++ s) (drop_of_length-le there past)
    ∙ append-nil (take (length t) there ++ zeros)
    ∙ ap (λ (s : List ℕ). s ++ zeros) (ap (take (length t)) start-there ∙ take-append_seam t (drop (length t) start))
    ∙ ap (λ (s : List ℕ). t ++ s) (same_zeros (drop (length t) there) (drop (length t) was) (length-drop (length t) there ∙ ap (λ (i : ℕ). i - length t) m ∙ sym (length-drop (length t) was)))

module _ (was : List ℕ) {known : Live} (m : Measured was known) {count : ℕ} (ec : count ≡ count_of was) where
  abbrev cards : ℕ
  cards = known.cards

  abbrev bytes : ℕ
  bytes = known.bytes

  abbrev parts : List ℕ
  parts = bodies_stay was (contents_of was)

  abbrev entries : List ℕ
  entries = rows_stay (behind cards) (contents_of was)

  pub few : cards ≤ count
  few = omega (arith, m.live.cards, ec, few_rows was m.sound)

  pub few_cards : count ≤ 64
  few_cards = omega (arith, ec, m.sound.head.few)

  pub inside : behind count + bytes ≤ length was
  inside = omega (arith, m.live.bytes, ec, all_ahead was m.sound)

  parts_long : length parts ≡ bytes
  parts_long = bodies_long was m.sound ∙ sym m.live.bytes

  entries_long : length entries ≡ 8 * cards
  entries_long = omega (arith, rows_long was m.sound (behind cards), m.live.cards)

  text : tidy_text was ≡ (cards ∷ []) ++ entries ++ parts
  text = tidy_text_law was m.sound ∙ ap (λ (n : ℕ). n ∷ rows_stay (behind n) (contents_of was) ++ parts) (sym m.live.cards)

  pub text_long : length (tidy_text was) ≡ behind cards + bytes
  text_long = omega (arith, ap length text, length-append entries parts, entries_long, parts_long)

  abbrev live : List Row
  live = live_rows (contents_of was)

  abbrev kept : List ℕ
  kept = kept_rows count (drop 1 was)

  contents_long : 8 * count ≤ length (drop 1 was)
  contents_long = omega (arith, length-drop 1 was, inside)

  live_there : live_rows (rows_in count was) ≡ live
  live_there = ap (λ (n : ℕ). live_rows (rows_of n (entries_from was))) ec

  kept_is_long : length kept ≡ 8 * cards
  kept_is_long = omega (arith, kept_long count (drop 1 was) contents_long, ap length live_there, m.live.cards)

  module _ {s1 : List ℕ} (e1 : s1 ≡ clip was 1 kept) where
    abbrev s2 : List ℕ
    s2 = set s1 0 cards

    pub long1 : length s1 ≡ length was
    long1 = ap length e1 ∙ length_clip was 1 kept

    pub long2 : length s2 ≡ length was
    long2 = length-set s1 0 cards ∙ long1

    contents_there : drop 1 s2 ≡ kept ++ drop (1 + length kept) was
    contents_there =
        let one : length (take 1 was) ≡ 1 = omega (arith, length-take 1 was, inside) in
        drop-set-lt 1 s1 0 cards (omega arith)
        ∙ ap (drop 1) (e1 ∙ clip_fits was 1 kept (omega (arith, kept_is_long, few, inside)) ∙ append_assoc (take 1 was) kept (drop (1 + length kept) was))
        ∙ drop_at (take 1 was) (kept ++ drop (1 + length kept) was) 1 one

    rows_there : rows_in cards s2 ≡ live
    rows_there =
        ap (rows_of cards) contents_there
        ∙ ap (λ (n : ℕ). rows_of n (kept ++ drop (1 + length kept) was)) (m.live.cards ∙ sym (ap length live_there))
        ∙ kept_rows_law count (drop 1 was) (drop (1 + length kept) was) contents_long
        ∙ live_there

    behind_there : drop (behind count) s2 ≡ drop (behind count) was
    behind_there =
        drop-set-lt (behind count) s1 0 cards (omega arith)
        ∙ ap (drop (behind count)) e1
        ∙ drop_behind was 1 kept (behind count) (omega (arith, kept_is_long, few))

    ahead_there : Ahead (length was) (behind count) live
    ahead_there = subst (λ (n : ℕ). Ahead (length was) (behind n) live) (sym ec) (ahead_kept (length was) (behind (count_of was)) (contents_of was) (ahead_sound was m.sound))

    pub gatherable : Gatherable s2 cards
    gatherable = record {
      whole = omega (arith, inside, few, long2);
      few = omega (arith, few, few_cards);
      ahead =
          subst (λ (rs : List Row). Ahead (length s2) (behind cards) rs) (sym rows_there)
          (subst (λ (n : ℕ). Ahead n (behind cards) live) (sym long2) (ahead_from (length was) (behind cards) (behind count) live (omega (arith, few)) ahead_there));
    }

    -- the bodies are those of the deck as it was
    parts_there : bodies_stay s2 (rows_in cards s2) ≡ parts
    parts_there =
        ap (bodies_stay s2) rows_there
        ∙ ap (λ (rs : List Row). bodies (map (entry_of s2) rs)) (live_again (contents_of was))
        ∙ same_bodies s2 was (length was) (behind count) live ahead_there behind_there

    module _ {s3 : List ℕ} (e3 : s3 ≡ clip s2 (behind cards) (bodies_stay s2 (rows_in cards s2))) where
      bodies_there : s3 ≡ clip s2 (behind cards) parts
      bodies_there = e3 ∙ ap (clip s2 (behind cards)) parts_there

      long3 : length s3 ≡ length was
      long3 = ap length bodies_there ∙ length_clip s2 (behind cards) parts ∙ long2

      rows_still : rows_in cards s3 ≡ live
      rows_still =
          same_rows (behind cards) s3 s2 (ap (take (behind cards)) bodies_there ∙ take_before s2 (behind cards) parts (behind cards) (omega arith)) cards 1 (omega arith)
          ∙ rows_there

      pub offsets : Offsets s3 cards (behind cards)
      offsets =
          let z : sizes (live_rows (rows_in cards s3)) ≡ bytes = ap (λ (rs : List Row). sizes (live_rows rs)) rows_still ∙ ap sizes (live_again (contents_of was)) ∙ sym m.live.bytes in
          record { whole = omega (arith, inside, few, long3); small = omega (arith, few, few_cards); short = omega (arith, z, inside, few, m.sound.head.short) }

      module _ {s4 : List ℕ} (e4 : s4 ≡ clip s3 1 (rows_stay (behind cards) (rows_in cards s3))) where
        entries_there : s4 ≡ clip s3 1 entries
        entries_there =
            e4
            ∙ ap (λ (rs : List Row). clip s3 1 (rows_stay (behind cards) rs)) rows_still
            ∙ ap (λ (rs : List Row). clip s3 1 (rows_text (lines_for (behind cards) rs) [])) (live_again (contents_of was))

        all_there : s4 ≡ clip s1 0 (tidy_text was)
        all_there =
            let at : 1 + length entries ≡ behind cards = omega (arith, entries_long) in
            entries_there
            ∙ ap (λ (s : List ℕ). clip s 1 entries) bodies_there
            ∙ clip_clip s2 1 (behind cards) entries parts (omega (arith, at))
            ∙ ap (λ (n : ℕ). clip (clip s2 1 entries) n parts) (sym at)
            ∙ sym (clip_append s2 1 entries parts)
            ∙ ap (λ (s : List ℕ). clip s 1 (entries ++ parts)) (sym (clip_one s1 0 cards))
            ∙ sym (clip_append s1 0 (cards ∷ []) (entries ++ parts))
            ∙ ap (clip s1 0) (sym text)

        pub long4 : length s4 ≡ length was
        long4 = ap length all_there ∙ length_clip s1 0 (tidy_text was) ∙ long1

        pub closed : {s5 : List ℕ} → s5 ≡ clip s4 (behind cards + bytes) (zeroed (drop (behind cards + bytes) s4)) → s5 ≡ lent_after (tidy_text was) was
        closed e5 =
            then_zeros was s1 (tidy_text was) long1 (omega (arith, text_long, inside, few)) (sym text_long)
            (e5 ∙ ap (λ (s : List ℕ). clip s (behind cards + bytes) (zeroed (drop (behind cards + bytes) s))) all_there)
