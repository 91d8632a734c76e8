-- Entries kept one behind the other: what is stored lies before every entry that is still to be read. Assumes nothing.
use Prim.Native.Nat.{ℕ, suc, ◌+◌, ◌-◌, ◌*◌, ◌≤◌, ◌<◌}
use mathlib.Core.Path.{◌≡◌, refl, sym, ap, ◌∙◌}
use mathlib.Core.Bool.{Bool, true, false}
use mathlib.Core.List.{List, [], ◌++◌}
use native.Mathlib.Omega.{arith}
use borrow.Author.Tests.{eq-eqb, ne_eqb}
use lib.ListN.{length, take, drop, length-take, length-drop}
use lib.Seq.{drop-drop}
use Rattle.card.specs.Text.{when◌then◌else◌}
use Rattle.deck.specs.Contents.{byte, Row, row_of}
use Rattle.deck.specs.Deck.{live_of}
use Rattle.deck_entries.proofs.Laws.{row_there}
use Rattle.room.specs.Room.{clip}
use Rattle.room.proofs.Laws.{clip_none, clip_append, length_clip}
use Rattle.byte_blocks.proofs.Clips.{drop_behind}
use Rattle.gathering.proofs.Bodies.{same_later}
use Rattle.gathering.specs.Kept.{kept_row, kept_rows}

-- ---- one entry

module _ (deck : List ℕ) (from : ℕ) {f : ℕ} (ef : f ≡ byte deck (from + 6)) where
  flag_there : (row_of (drop from deck)).flag ≡ f
  flag_there = ap (λ (r : Row). r.flag) (row_there deck from 0 0 refl refl refl ef refl)

  gone : (f ≡ 1 → ⊥) → kept_row (drop from deck) ≡ []
  gone h = rw (ne_eqb (row_of (drop from deck)).flag 1 (λ k. h (sym flag_there ∙ k)))

  kept : f ≡ 1 → kept_row (drop from deck) ≡ take 8 (drop from deck)
  kept h = rw (eq-eqb (row_of (drop from deck)).flag 1 (flag_there ∙ h))

  pub row_gone : (f ≡ 1 → ⊥) → (to : ℕ) → (deck ≡ clip deck to (kept_row (drop from deck))) × (to ≡ to + length (kept_row (drop from deck)))
  row_gone h to = (sym (ap (clip deck to) (gone h) ∙ clip_none deck to), omega (arith, ap length (gone h)))

  pub row_kept : f ≡ 1 → from + 8 ≤ length deck → (to : ℕ) {is : List ℕ} → is ≡ clip deck to (take 8 (drop from deck))
      → (is ≡ clip deck to (kept_row (drop from deck))) × (to + 8 ≡ to + length (kept_row (drop from deck)))
  row_kept h l to e =
      let long : length (kept_row (drop from deck)) ≡ 8 = ap length (kept h) ∙ omega (arith, length-take 8 (drop from deck), length-drop from deck) in
      (e ∙ ap (clip deck to) (sym (kept h)), omega (arith, long))

-- ---- all of them

row_most : (t : List ℕ) → length (kept_row t) ≤ 8
row_most t = go (live_of (row_of t))
  where
    go : (b : Bool) → length (when b then take 8 t else []) ≤ 8
    go true = omega (arith, length-take 8 t)
    go false = omega arith

-- of so many entries those from the i-th on
abbrev kept_from : (was : List ℕ) (count i : ℕ) → List ℕ
kept_from was count i = kept_rows (count - i) (drop (1 + 8 * i) was)

first_kept : (was : List ℕ) (count i : ℕ) → i < count → kept_from was count i ≡ kept_row (drop (1 + 8 * i) was) ++ kept_from was count (i + 1)
first_kept was count i h =
    let row = kept_row (drop (1 + 8 * i) was) in
    let one : count - i ≡ suc (count - (i + 1)) = omega arith in
    let on : 1 + 8 * i + 8 ≡ 1 + 8 * (i + 1) = omega arith in
    ap (λ (n : ℕ). kept_rows n (drop (1 + 8 * i) was)) one
    ∙ ap (λ (t : List ℕ). row ++ kept_rows (count - (i + 1)) t) (drop-drop 8 (1 + 8 * i) was ∙ ap (λ (n : ℕ). drop n was) on)

module _ (was : List ℕ) (count : ℕ) where
  abbrev all : List ℕ
  all = clip was 1 (kept_rows count (drop 1 was))

  -- the i-th entry is next, and it goes to `to`
  pub record Keeping (is : List ℕ) (i to : ℕ) : Type 0 where
    pub low : to ≤ 1 + 8 * i
    pub long : length is ≡ length was
    pub back : drop (1 + 8 * i) is ≡ drop (1 + 8 * i) was
    pub completes : clip is to (kept_from was count i) ≡ all

  pub keep_none : Keeping was 0 1
  keep_none =
      let z : count - 0 ≡ count = omega arith in
      record { low = omega arith; long = refl; back = refl; completes = ap (λ (n : ℕ). clip was 1 (kept_rows n (drop 1 was))) z }

  module _ {is : List ℕ} {i to : ℕ} (s : Keeping is i to) where
    pub keep_all : count ≤ i → is ≡ all
    keep_all h =
        let z : 0 ≡ count - i = omega arith in
        sym (clip_none is to) ∙ ap (λ (n : ℕ). clip is to (kept_rows n (drop (1 + 8 * i) was))) z ∙ s.completes

    pub keep_more : i < count → {now : List ℕ} {p : ℕ} → (now ≡ clip is to (kept_row (drop (1 + 8 * i) is))) × (p ≡ to + length (kept_row (drop (1 + 8 * i) is))) → Keeping now (i + 1) p
    keep_more h {now} {p} (e, f) =
        let next = 1 + 8 * (i + 1) in
        let row = kept_row (drop (1 + 8 * i) was) in
        let same : kept_row (drop (1 + 8 * i) is) ≡ row = ap kept_row s.back in
        let there : now ≡ clip is to row = e ∙ ap (clip is to) same in
        let place : p ≡ to + length row = f ∙ ap (λ (t : List ℕ). to + length t) same in
        let most = row_most (drop (1 + 8 * i) was) in
        record {
          low = omega (arith, place, most, s.low);
          long = ap length there ∙ length_clip is to row ∙ s.long;
          back = ap (drop next) there ∙ drop_behind is to row next (omega (arith, most, s.low)) ∙ same_later (1 + 8 * i) next is was (omega arith) s.back;
          completes =
              ap (λ (w : List ℕ). clip w p (kept_from was count (i + 1))) there
              ∙ ap (λ (n : ℕ). clip (clip is to row) n (kept_from was count (i + 1))) place
              ∙ sym (clip_append is to row (kept_from was count (i + 1)))
              ∙ ap (clip is to) (sym (first_kept was count i h))
              ∙ s.completes;
        }
