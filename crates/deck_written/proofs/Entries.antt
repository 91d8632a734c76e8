-- The entries that contents and bodies say: as many as there are lines, with the joined bodies as their bodies; where all is fine they can be
-- written, so that the deck is sound and reads back as them. Assumes nothing.
use Prim.Native.Nat.{ℕ, zero, suc, ◌+◌, ◌≤◌}
use mathlib.Core.Path.{◌≡◌, refl, sym, ap, ◌∙◌}
use mathlib.Core.Bool.{Bool, true, false}
use mathlib.Core.List.{List, [], ◌∷◌, ◌++◌}
use native.Mathlib.Omega.{arith}
use lib.Dec.{leb, eqb}
use borrow.Author.Tests.{leb-true, eqb-true}
use lib.ListN.{length, take, drop, length-drop}
use lib.Seq.{take-add, take_all, length-take-le}
use Rattle.card.specs.Refusals.{malformed_deck}
use Rattle.entry.specs.Said.{says, unless}
use Rattle.entry.proofs.Stages.{says≢refused}
use Rattle.deck.specs.Contents.{Row, row_of, rows_of, behind, contents_of}
use Rattle.deck.specs.Deck.{Entry, live_of, deck_of, flag_of, row_for, rows_for, bodies, deck_text, Rising, Writable, Bytes}
use Rattle.deck.specs.Sound.{Sound}
use Rattle.deck.proofs.Judged.{past_test, past}
use Rattle.deck.proofs.Kept.{byte_at, bytes_drop}
use Rattle.deck.proofs.Written.{length_text, contents_text, text_sound, text_back}
use Rattle.deck_written.specs.WriteDeckSaid.{count_in, lines, line_said, lines_said, sizes, entries_with, entries_said, line_for, lines_for}
use Rattle.deck_written.specs.Fine.{Fine}
use Rattle.deck_written.proofs.Exactly.{counts, fields_said}

pub length_rows : (c : ℕ) (t : List ℕ) → length (rows_of c t) ≡ c
length_rows zero t = refl
length_rows (suc c) t = ap suc (length_rows c (drop 8 t))

pub length_entries : (rs : List Row) (b : List ℕ) → length (entries_with rs b) ≡ length rs
length_entries [] b = refl
length_entries (r ∷ rs) b = ap suc (length_entries rs (drop r.size b))

joined_part : (rs : List Row) (b : List ℕ) → bodies (entries_with rs b) ≡ take (sizes rs) b
joined_part [] b = refl
joined_part (r ∷ rs) b = ap (λ (t : List ℕ). take r.size b ++ t) (joined_part rs (drop r.size b)) ∙ sym (take-add r.size (sizes rs) b)

-- their bodies, one behind the other, are the bodies handed in
pub joined : (rs : List Row) (b : List ℕ) → sizes rs ≡ length b → bodies (entries_with rs b) ≡ b
joined rs b h = joined_part rs b ∙ take_all (sizes rs) b (omega arith)

-- ---- lines that were judged

-- what a line's tests leave
record FineLine (least : ℕ) (r : Row) : Type 0 where
  pub number : least ≤ r.number
  pub flag : r.flag ≤ 1
  pub zero_byte : r.zero_byte ≡ 0

fine_line : (at least : ℕ) (r : Row) → line_said at least r ≡ says tt → FineLine least r
fine_line at least r e0 =
    let (a, e1) = past_test (leb least r.number) malformed_deck at _ tt e0 in
    let (b, e2) = past_test (leb r.flag 1) malformed_deck (at + 6) _ tt e1 in
    record { number = leb-true least r.number a; flag = leb-true r.flag 1 b; zero_byte = eqb-true r.zero_byte 0 (last (eqb r.zero_byte 0) e2) }
  where
    last : (b : Bool) → unless b malformed_deck (at + 7) ≡ says tt → b ≡ true
    last true e = refl
    last false e = says≢refused (sym e)

rising : (at least c : ℕ) (t b : List ℕ) → lines_said at least (rows_of c t) ≡ says tt → Bytes t → Rising least (entries_with (rows_of c t) b)
rising at least zero t b e h = tt
rising at least (suc c) t b e h =
    let (a, f) = past (line_said at least (row_of t)) _ tt e in (
      (fine_line at least (row_of t) a).number,
      omega (arith, byte_at t 0 h, byte_at t 1 h),
      rising (at + 8) (suc (row_of t).number) c (drop 8 t) (drop (row_of t).size b) f (bytes_drop 8 t h),
    )

flag_back : (f : ℕ) → f ≤ 1 → flag_of (eqb f 1) ≡ f
flag_back zero h = refl
flag_back (suc zero) h = refl
flag_back (suc (suc f)) h = absurd (omega arith)

line_back : (at from least : ℕ) (r : Row) (b : List ℕ) → line_said at least r ≡ says tt → r.size ≤ length b
    → row_for from (record { number = r.number; live = live_of r; body = take r.size b }) ≡ line_for from r
line_back at from least r b e h = let w = fine_line at least r e in rw (length-take-le r.size b h, flag_back r.flag w.flag, w.zero_byte)

-- the lines of these entries in a deck: those handed in, with other offsets
pub lines_back : (at from least : ℕ) (rs : List Row) (b : List ℕ) → lines_said at least rs ≡ says tt → sizes rs ≤ length b → rows_for from (entries_with rs b) ≡ lines_for from rs
lines_back at from least [] b e h = refl
lines_back at from least (r ∷ rs) b e h =
    let (a, f) = past (line_said at least r) (lines_said (at + 8) (suc r.number) rs) tt e in
    let l : length (take r.size b) ≡ r.size = length-take-le r.size b (omega arith) in
    let m : sizes rs ≤ length (drop r.size b) = omega (arith, length-drop r.size b) in
    let one = line_back at from least r b a (omega arith) in
    let more = lines_back (at + 8) (from + r.size) (suc r.number) rs (drop r.size b) f m in
    ap (λ (x : Row). x ∷ rows_for (from + length (take r.size b)) (entries_with rs (drop r.size b))) one
    ∙ ap (λ (n : ℕ). line_for from r ∷ rows_for (from + n) (entries_with rs (drop r.size b))) l
    ∙ ap (λ (xs : List Row). line_for from r ∷ xs) more

-- ---- where contents and bodies are fine

module _ {contents bodies-in : List ℕ} (h : Fine contents bodies-in) where
  abbrev said : List Entry
  said = entries_said contents bodies-in

  pub count_said : length said ≡ h.count
  count_said = length_entries (lines contents) bodies-in ∙ length_rows (count_in contents) contents ∙ counts h.counted

  pub bodies_said : bodies said ≡ bodies-in
  bodies_said = joined (lines contents) bodies-in h.fitting.whole

  pub rows_said : rows_for (behind h.count) said ≡ lines_for (behind h.count) (lines contents)
  rows_said = lines_back 0 (behind h.count) 0 (lines contents) bodies-in (fields_said h.counted h.fields) (omega (arith, h.fitting.whole))

  -- the deck's own contents
  pub deck_contents : contents_of (deck_text said) ≡ lines_for (behind h.count) (lines contents)
  deck_contents = contents_text said ∙ ap (λ (n : ℕ). rows_for (behind n) said) count_said ∙ rows_said

  pub deck_long : length (deck_text said) ≡ 1 + length contents + length bodies-in
  deck_long = length_text said ∙ omega (arith, count_said, ap length bodies_said, h.counted.long)

  module _ (b : Bytes contents) where
    pub writable : Writable said
    writable = record {
      some = omega (arith, count_said, h.counted.some);
      few = omega (arith, count_said, h.counted.few);
      rising = rising 0 0 (count_in contents) contents bodies-in (fields_said h.counted h.fields) b;
      short = omega (arith, count_said, ap length bodies_said, h.counted.long, h.fitting.short);
    }

    pub deck_sound : Sound (deck_text said)
    deck_sound = text_sound said writable

    pub deck_back : deck_of (deck_text said) ≡ says said
    deck_back = text_back said writable
