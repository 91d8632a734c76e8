-- A deck is taken exactly where it is sound: entry by entry from the first on, each measured by the number and the end before it.
-- Assumes nothing.
use Prim.Native.Nat.{ℕ, zero, suc, ◌+◌, ◌≤◌, ◌<◌}
use mathlib.Core.Path.{◌≡◌, refl, sym, ap, ◌∙◌}
use mathlib.Core.Bool.{Bool, true, false}
use mathlib.Core.Logic.{◌↔◌, ◌⊎◌, inl, inr}
use mathlib.Core.List.{List}
use native.Mathlib.Omega.{arith}
use lib.Dec.{leb, eqb}
use borrow.Author.Tests.{le-leb, leb-true, eqb-true, eq-eqb}
use lib.ListN.{length, drop}
use Rattle.card.specs.Limits.{deck_bytes, most_cards}
use Rattle.card.specs.Refusals.{malformed_deck}
use Rattle.entry.specs.Said.{Said, says, refused, ◌>>◌, unless}
use Rattle.entry.proofs.Stages.{says≢refused, same_said}
use Rattle.deck.specs.Contents.{Row, end_of, row_of, rows_of, count_of, entries_from, behind, contents_of, row_said, rows_said, head_said, judged, rows_in}
use Rattle.deck.specs.Sound.{row_at, Before, Head, Sound}

-- an entry measured by the least number that rises and the end before it
pub record RowRight (long least last : ℕ) (r : Row) : Type 0 where
  pub number : least ≤ r.number
  pub begins : last ≤ r.offset
  pub ends : end_of r ≤ long
  pub flag : r.flag ≤ 1
  pub zero_byte : r.zero_byte ≡ 0

pub record SoundRows (long least last c : ℕ) (t : List ℕ) : Type 0 where
  pub each : (i : ℕ) → i < c → RowRight long least last (row_at t i)
  pub order : (i j : ℕ) → i < j → j < c → Before (row_at t i) (row_at t j)

-- a test that is passed, and what is said behind it
module _ {B : Type 0} where
  pub past_test : (b : Bool) (r p : ℕ) (y : Said B) (v : B) → unless b r p >> y ≡ says v → (b ≡ true) × (y ≡ says v)
  past_test true r p y v e = (refl, e)
  past_test false r p y v e = says≢refused (sym e)

  pub past : (x : Said (Unit {0})) (y : Said B) (v : B) → x >> y ≡ says v → (x ≡ says tt) × (y ≡ says v)
  past (says u) y v e = (refl, e)
  past (refused r p) y v e = says≢refused (sym e)

  pub onward : {x : Said (Unit {0})} {y : Said B} {v : B} → x ≡ says tt → y ≡ says v → x >> y ≡ says v
  onward {x} {y} {v} e f = ap (λ (z : Said (Unit {0})). z >> y) e ∙ f

last_test : (b : Bool) (r p : ℕ) → unless b r p ≡ says tt → b ≡ true
last_test true r p e = refl
last_test false r p e = says≢refused (sym e)

pass : (b : Bool) (r p : ℕ) → b ≡ true → unless b r p ≡ says tt
pass b r p e = rw e

pub right_of : (long at least last : ℕ) (r : Row) → row_said long at least last r ≡ says tt → RowRight long least last r
right_of long at least last r e0 =
    let (a, e1) = past_test (leb least r.number) malformed_deck at _ tt e0 in
    let (b, e2) = past_test (leb last r.offset) malformed_deck (at + 2) _ tt e1 in
    let (c, e3) = past_test (leb (end_of r) long) malformed_deck (at + 4) _ tt e2 in
    let (d, e4) = past_test (leb r.flag 1) malformed_deck (at + 6) _ tt e3 in
    record {
      number = leb-true least r.number a;
      begins = leb-true last r.offset b;
      ends = leb-true (end_of r) long c;
      flag = leb-true r.flag 1 d;
      zero_byte = eqb-true r.zero_byte 0 (last_test (eqb r.zero_byte 0) malformed_deck (at + 7) e4);
    }

pub of_right : (long at least last : ℕ) (r : Row) → RowRight long least last r → row_said long at least last r ≡ says tt
of_right long at least last r h =
    onward (pass (leb least r.number) malformed_deck at (le-leb least r.number h.number))
    (onward (pass (leb last r.offset) malformed_deck (at + 2) (le-leb last r.offset h.begins))
    (onward (pass (leb (end_of r) long) malformed_deck (at + 4) (le-leb (end_of r) long h.ends))
    (onward (pass (leb r.flag 1) malformed_deck (at + 6) (le-leb r.flag 1 h.flag))
    (pass (eqb r.zero_byte 0) malformed_deck (at + 7) (eq-eqb r.zero_byte 0 h.zero_byte)))))

module _ (long : ℕ) where
  -- an entry before others
  pub sound_more : (c least last : ℕ) (t : List ℕ) → RowRight long least last (row_of t)
      → SoundRows long (suc (row_of t).number) (end_of (row_of t)) c (drop 8 t)
      → SoundRows long least last (suc c) t
  sound_more c least last t r s = record { each = each; order = order }
    where
      each : (i : ℕ) → i < suc c → RowRight long least last (row_at t i)
      each zero h = r
      each (suc i) h =
          let q = s.each i (omega arith) in
          record { number = omega (arith, q.number, r.number); begins = omega (arith, q.begins, r.begins); ends = q.ends; flag = q.flag; zero_byte = q.zero_byte }

      order : (i j : ℕ) → i < j → j < suc c → Before (row_at t i) (row_at t j)
      order i zero g h = absurd (omega arith)
      order zero (suc j) g h = let q = s.each j (omega arith) in record { rises = q.number; apart = q.begins }
      order (suc i) (suc j) g h = s.order i j (omega arith) (omega arith)

  pub sound_of : (c at least last : ℕ) (t : List ℕ) → rows_said long at least last (rows_of c t) ≡ says tt → SoundRows long least last c t
  sound_of zero at least last t e = record { each = λ i h. absurd (omega arith); order = λ i j g h. absurd (omega arith) }
  sound_of (suc c) at least last t e =
      let (a, f) = past (row_said long at least last (row_of t)) _ tt e in
      sound_more c least last t (right_of long at least last (row_of t) a) (sound_of c (at + 8) (suc (row_of t).number) (end_of (row_of t)) (drop 8 t) f)

  -- the entries behind the first
  pub sound_rest : (c least last : ℕ) (t : List ℕ) → SoundRows long least last (suc c) t
      → SoundRows long (suc (row_of t).number) (end_of (row_of t)) c (drop 8 t)
  sound_rest c least last t s = record { each = each; order = λ i j g h. s.order (suc i) (suc j) (omega arith) (omega arith) }
    where
      each : (i : ℕ) → i < c → RowRight long (suc (row_of t).number) (end_of (row_of t)) (row_at (drop 8 t) i)
      each i h =
          let q = s.each (suc i) (omega arith) in
          let b = s.order 0 (suc i) (omega arith) (omega arith) in
          record { number = b.rises; begins = b.apart; ends = q.ends; flag = q.flag; zero_byte = q.zero_byte }

  pub of_sound : (c at least last : ℕ) (t : List ℕ) → SoundRows long least last c t → rows_said long at least last (rows_of c t) ≡ says tt
  of_sound zero at least last t s = refl
  of_sound (suc c) at least last t s =
      onward (of_right long at least last (row_of t) (s.each 0 (omega arith)))
      (of_sound c (at + 8) (suc (row_of t).number) (end_of (row_of t)) (drop 8 t) (sound_rest c least last t s))

-- a flag is 0 or 1
pub flag_small : {f : ℕ} → (f ≡ 0) ⊎ (f ≡ 1) → f ≤ 1
flag_small (inl e) = omega (arith, e)
flag_small (inr e) = omega (arith, e)

pub flag_either : (f : ℕ) → f ≤ 1 → (f ≡ 0) ⊎ (f ≡ 1)
flag_either zero h = inl refl
flag_either (suc zero) h = inr refl
flag_either (suc (suc f)) h = absurd (omega arith)

module _ (deck : List ℕ) where
  pub head_of : head_said deck ≡ says tt → Head deck
  head_of a =
      let (h1, a1) = past_test (leb (length deck) deck_bytes) malformed_deck 0 _ tt a in
      let (h2, a2) = past_test (leb 1 (count_of deck)) malformed_deck 0 _ tt a1 in
      let (h3, a3) = past_test (leb (count_of deck) most_cards) malformed_deck 0 _ tt a2 in
      let h4 = last_test (leb (behind (count_of deck)) (length deck)) malformed_deck 0 a3 in
      record {
        short = leb-true (length deck) deck_bytes h1;
        some = leb-true 1 (count_of deck) h2;
        few = leb-true (count_of deck) most_cards h3;
        whole = leb-true (behind (count_of deck)) (length deck) h4;
      }

  pub of_head : Head deck → head_said deck ≡ says tt
  of_head s =
      onward (pass (leb (length deck) deck_bytes) malformed_deck 0 (le-leb (length deck) deck_bytes s.short))
      (onward (pass (leb 1 (count_of deck)) malformed_deck 0 (le-leb 1 (count_of deck) s.some))
      (onward (pass (leb (count_of deck) most_cards) malformed_deck 0 (le-leb (count_of deck) most_cards s.few))
      (pass (leb (behind (count_of deck)) (length deck)) malformed_deck 0 (le-leb (behind (count_of deck)) (length deck) s.whole))))

  -- its entries measured from the contents' end on
  abbrev pub Measured : Type 0
  Measured = SoundRows (length deck) 0 (behind (count_of deck)) (count_of deck) (entries_from deck)

  pub measured : Sound deck → Measured
  measured s = record {
    each = λ i h. let q = s.each i h in record { number = omega arith; begins = q.begins; ends = q.ends; flag = flag_small q.flag; zero_byte = q.zero_byte };
    order = s.order;
  }

  sound_by : Head deck → Measured → Sound deck
  sound_by h m = record {
    head = h;
    each = λ i l. let q = m.each i l in record { begins = q.begins; ends = q.ends; flag = flag_either _ q.flag; zero_byte = q.zero_byte };
    order = m.order;
  }

  pub sound : (rows : List Row) → rows_in deck ≡ says rows → Sound deck × (rows ≡ contents_of deck)
  sound rows e =
      let (f, g) = past (judged deck) (says (contents_of deck)) rows e in
      let (a, b) = past (head_said deck) (rows_said (length deck) 1 0 (behind (count_of deck)) (contents_of deck)) tt f in
      (sound_by (head_of a) (sound_of (length deck) (count_of deck) 1 0 (behind (count_of deck)) (entries_from deck) b), sym (same_said g))

  pub judged_sound : Sound deck → judged deck ≡ says tt
  judged_sound s = onward (of_head s.head) (of_sound (length deck) (count_of deck) 1 0 (behind (count_of deck)) (entries_from deck) (measured s))

  pub sound_judged : judged deck ≡ says tt → Sound deck
  sound_judged e = (sound (contents_of deck) (onward e refl)).0

  pub said : Sound deck → rows_in deck ≡ says (contents_of deck)
  said s = onward (judged_sound s) refl

  -- a deck is taken exactly where it is sound
  pub judged_exactly : (judged deck ≡ says tt) ↔ Sound deck
  judged_exactly = (sound_judged, judged_sound)

  pub rows_exactly : (rows : List Row) → (rows_in deck ≡ says rows) ↔ (Sound deck × (rows ≡ contents_of deck))
  rows_exactly rows = (sound rows, λ h. said h.0 ∙ ap says (sym h.1))
