-- 11 is a deck's only refusal, and its place is the first byte of the first wrong field, or 0. What is refused has such a field, entry by entry
-- from the first on; and there is one such place only, since each of two fields would have to stand before the other. Assumes nothing.
use Prim.Native.Nat.{ℕ, zero, suc, ◌+◌, ◌*◌, ◌≤◌, ◌<◌}
use mathlib.Core.Path.{◌≡◌, refl, sym, ap, ◌∙◌}
use mathlib.Core.Bool.{Bool, true, false}
use mathlib.Core.Logic.{◌↔◌}
use mathlib.Core.List.{List}
use native.Mathlib.Decide.{dec_lt}
use native.Mathlib.Omega.{arith}
use lib.Dec.{leb, eqb}
use borrow.Author.Tests.{leb-true, leb-false, eqb-false}
use lib.ListN.{length, drop}
use Rattle.card.specs.Limits.{deck_bytes, most_cards, expansion_from}
use Rattle.card.specs.Refusals.{malformed_deck}
use Rattle.entry.specs.Said.{Said, says, refused, ◌>>◌, unless}
use Rattle.entry.proofs.Stages.{says≢refused, same_number, same_place}
use Rattle.deck.specs.Contents.{Row, end_of, row_of, rows_of, count_of, entries_from, behind, Field, number_field, offset_field, size_field}
use Rattle.deck.specs.Contents.{flag_field, zero_field, field_at, row_said, rows_said, head_said, judged}
use Rattle.deck.specs.Sound.{row_at, Head, Sound, RightField, field_place, MalformedAt, in_head, in_field}
use Rattle.deck.proofs.Judged.{RowRight, right_of, of_head, head_of, sound_judged, flag_small, flag_either}

-- ---- what refuses

module _ {r p : ℕ} {C : Type 0} where
  -- a test, or what stands behind it
  test_refused : {B : Type 0} (b : Bool) (n q : ℕ) (y : Said B) → unless b n q >> y ≡ refused r p
      → (b ≡ false → r ≡ n → p ≡ q → C) → (b ≡ true → y ≡ refused r p → C) → C
  test_refused true n q y e here there = there refl e
  test_refused false n q y e here there = here refl (sym (same_number e)) (sym (same_place e))

  last_refused : (b : Bool) (n q : ℕ) → unless b n q ≡ refused r p → (b ≡ false → r ≡ n → p ≡ q → C) → C
  last_refused true n q e here = says≢refused e
  last_refused false n q e here = here refl (sym (same_number e)) (sym (same_place e))

  stage_refused : {B : Type 0} (x : Said (Unit {0})) (y : Said B) → x >> y ≡ refused r p → (x ≡ refused r p → C) → (x ≡ says tt → y ≡ refused r p → C) → C
  stage_refused (says u) y e here there = there refl e
  stage_refused (refused s q) y e here there =
      let a : s ≡ r = same_number e in
      let b : q ≡ p = same_place e in
      here (rw (a, b))

-- ---- the first wrong field of an entry

field_from : (at : ℕ) (f : Field) → at ≤ field_at at f
field_from at number_field = omega arith
field_from at offset_field = omega arith
field_from at size_field = omega arith
field_from at flag_field = omega arith
field_from at zero_field = omega arith

field_to : (at : ℕ) (f : Field) → field_at at f < at + 8
field_to at number_field = omega arith
field_to at offset_field = omega arith
field_to at size_field = omega arith
field_to at flag_field = omega arith
field_to at zero_field = omega arith

-- a field of an entry that is measured by the least number that rises and the end before it
abbrev RightIn : (long least last : ℕ) → Row → Field → Type 0
RightIn long least last r number_field = least ≤ r.number
RightIn long least last r offset_field = last ≤ r.offset
RightIn long least last r size_field = end_of r ≤ long
RightIn long least last r flag_field = r.flag ≤ 1
RightIn long least last r zero_field = r.zero_byte ≡ 0

every_right : (long least last : ℕ) (r : Row) → RowRight long least last r → (g : Field) → RightIn long least last r g
every_right long least last r h number_field = h.number
every_right long least last r h offset_field = h.begins
every_right long least last r h size_field = h.ends
every_right long least last r h flag_field = h.flag
every_right long least last r h zero_field = h.zero_byte

record RowWrong (long at least last : ℕ) (row : Row) (r p : ℕ) : Type 0 where
  pub number : r ≡ malformed_deck
  pub field : Field
  pub place : p ≡ field_at at field
  pub wrong : RightIn long least last row field → ⊥
  pub before : (g : Field) → field_at at g < field_at at field → RightIn long least last row g

row_wrong : (long at least last : ℕ) (row : Row) (r p : ℕ) → row_said long at least last row ≡ refused r p → RowWrong long at least last row r p
row_wrong long at least last row r p e =
    test_refused (leb least row.number) malformed_deck at _ e (λ b. stops number_field (λ h. omega (arith, h, leb-false least row.number b)) in_number)
    (λ b0 e1.
    let h0 = leb-true least row.number b0 in
    test_refused (leb last row.offset) malformed_deck (at + 2) _ e1
    (λ b. stops offset_field (λ h. omega (arith, h, leb-false last row.offset b)) (in_offset h0))
    (λ b1 e2.
    let h1 = leb-true last row.offset b1 in
    test_refused (leb (end_of row) long) malformed_deck (at + 4) _ e2
    (λ b. stops size_field (λ h. omega (arith, h, leb-false (end_of row) long b)) (in_size h0 h1))
    (λ b2 e3.
    let h2 = leb-true (end_of row) long b2 in
    test_refused (leb row.flag 1) malformed_deck (at + 6) _ e3
    (λ b. stops flag_field (λ h. omega (arith, h, leb-false row.flag 1 b)) (in_flag h0 h1 h2))
    (λ b3 e4.
    last_refused (eqb row.zero_byte 0) malformed_deck (at + 7) e4
    (λ b. stops zero_field (eqb-false row.zero_byte 0 b) (in_zero h0 h1 h2 (leb-true row.flag 1 b3)))))))
  where
    stops : (f : Field) → (RightIn long least last row f → ⊥) → ((g : Field) → field_at at g < field_at at f → RightIn long least last row g)
        → r ≡ malformed_deck → p ≡ field_at at f → RowWrong long at least last row r p
    stops f w b n q = record { number = n; field = f; place = q; wrong = w; before = b }

    in_number : (g : Field) → field_at at g < at → RightIn long least last row g
    in_number g h = absurd (omega (arith, h, field_from at g))

    in_offset : least ≤ row.number → (g : Field) → field_at at g < at + 2 → RightIn long least last row g
    in_offset a number_field h = a
    in_offset a offset_field h = absurd (omega arith)
    in_offset a size_field h = absurd (omega arith)
    in_offset a flag_field h = absurd (omega arith)
    in_offset a zero_field h = absurd (omega arith)

    in_size : least ≤ row.number → last ≤ row.offset → (g : Field) → field_at at g < at + 4 → RightIn long least last row g
    in_size a b number_field h = a
    in_size a b offset_field h = b
    in_size a b size_field h = absurd (omega arith)
    in_size a b flag_field h = absurd (omega arith)
    in_size a b zero_field h = absurd (omega arith)

    in_flag : least ≤ row.number → last ≤ row.offset → end_of row ≤ long → (g : Field) → field_at at g < at + 6 → RightIn long least last row g
    in_flag a b c number_field h = a
    in_flag a b c offset_field h = b
    in_flag a b c size_field h = c
    in_flag a b c flag_field h = absurd (omega arith)
    in_flag a b c zero_field h = absurd (omega arith)

    in_zero : least ≤ row.number → last ≤ row.offset → end_of row ≤ long → row.flag ≤ 1 → (g : Field) → field_at at g < at + 7
        → RightIn long least last row g
    in_zero a b c d number_field h = a
    in_zero a b c d offset_field h = b
    in_zero a b c d size_field h = c
    in_zero a b c d flag_field h = d
    in_zero a b c d zero_field h = absurd (omega arith)

-- ---- of entries one behind the other

-- what entry i is measured by
abbrev least_at : ℕ → List ℕ → ℕ → ℕ
least_at least t zero = least
least_at least t (suc i) = suc (row_at t i).number

abbrev last_at : ℕ → List ℕ → ℕ → ℕ
last_at last t zero = last
last_at last t (suc i) = end_of (row_at t i)

abbrev RightAt : (long least last : ℕ) → List ℕ → ℕ → Field → Type 0
RightAt long least last t i f = RightIn long (least_at least t i) (last_at last t i) (row_at t i) f

-- the entries behind the first are measured by it
later : (long least last : ℕ) (t : List ℕ) (i : ℕ) (f : Field)
    → RightAt long (suc (row_of t).number) (end_of (row_of t)) (drop 8 t) i f ↔ RightAt long least last t (suc i) f
later long least last t zero f = (λ h. h, λ h. h)
later long least last t (suc i) f = (λ h. h, λ h. h)

record RowsWrong (long at least last c : ℕ) (t : List ℕ) (r p : ℕ) : Type 0 where
  pub number : r ≡ malformed_deck
  pub entry : ℕ
  pub field : Field
  pub inside : entry < c
  pub place : p ≡ field_at (at + 8 * entry) field
  pub wrong : RightAt long least last t entry field → ⊥
  pub before : (j : ℕ) (g : Field) → field_at (at + 8 * j) g < p → RightAt long least last t j g

rows_wrong : (c long at least last : ℕ) (t : List ℕ) (r p : ℕ) → rows_said long at least last (rows_of c t) ≡ refused r p → RowsWrong long at least last c t r p
rows_wrong zero long at least last t r p e = says≢refused e
rows_wrong (suc c) long at least last t r p e =
    stage_refused (row_said long at least last (row_of t)) _ e
    (λ k. here (row_wrong long at least last (row_of t) r p k))
    (λ h k. there (every_right long least last (row_of t) (right_of long at least last (row_of t) h))
    (rows_wrong c long (at + 8) (suc (row_of t).number) (end_of (row_of t)) (drop 8 t) r p k))
  where
    here : RowWrong long at least last (row_of t) r p → RowsWrong long at least last (suc c) t r p
    here w = record {
      number = w.number;
      entry = 0;
      field = w.field;
      inside = omega arith;
      place = let z : at ≡ at + 8 * 0 = omega arith in w.place ∙ ap (λ (a : ℕ). field_at a w.field) z;
      wrong = w.wrong;
      before = before;
    }
      where
        before : (j : ℕ) (g : Field) → field_at (at + 8 * j) g < p → RightAt long least last t j g
        before zero g h =
            let z : at + 8 * 0 ≡ at = omega arith in
            let k : field_at (at + 8 * 0) g ≡ field_at at g = ap (λ (a : ℕ). field_at a g) z in
            w.before g (omega (arith, h, k, w.place))
        before (suc j) g h = absurd (omega (arith, h, w.place, field_from (at + 8 * suc j) g, field_to at w.field))

    there : ((g : Field) → RightIn long least last (row_of t) g) → RowsWrong long (at + 8) (suc (row_of t).number) (end_of (row_of t)) c (drop 8 t) r p
        → RowsWrong long at least last (suc c) t r p
    there right w = record {
      number = w.number;
      entry = suc w.entry;
      field = w.field;
      inside = omega (arith, w.inside);
      place = let z : at + 8 + 8 * w.entry ≡ at + 8 * suc w.entry = omega arith in w.place ∙ ap (λ (a : ℕ). field_at a w.field) z;
      wrong = λ h. w.wrong ((later long least last t w.entry w.field).1 h);
      before = before;
    }
      where
        before : (j : ℕ) (g : Field) → field_at (at + 8 * j) g < p → RightAt long least last t j g
        before zero g h = right g
        before (suc j) g h =
            let z : at + 8 + 8 * j ≡ at + 8 * suc j = omega arith in
            let k : field_at (at + 8 + 8 * j) g ≡ field_at (at + 8 * suc j) g = ap (λ (a : ℕ). field_at a g) z in
            (later long least last t j g).0 (w.before j g (omega (arith, h, k)))

-- ---- of a deck

module _ (deck : List ℕ) where
  abbrev Measured : ℕ → Field → Type 0
  Measured i f = RightAt (length deck) 0 (behind (count_of deck)) (entries_from deck) i f

  right_field : (i : ℕ) (f : Field) → Measured i f ↔ RightField deck i f
  right_field zero number_field = (λ h. tt, λ h. omega arith)
  right_field (suc i) number_field = (λ h. omega (arith, h), λ h. omega (arith, h))
  right_field zero offset_field = (λ h. h, λ h. h)
  right_field (suc i) offset_field = (λ h. h, λ h. h)
  right_field i size_field = (λ h. h, λ h. h)
  right_field i flag_field = (λ h. flag_either _ h, λ h. flag_small h)
  right_field i zero_field = (λ h. h, λ h. h)

  -- each field of a sound deck is right
  fields_right : Sound deck → (i : ℕ) → i < count_of deck → (f : Field) → RightField deck i f
  fields_right s zero h number_field = tt
  fields_right s (suc i) h number_field = (s.order i (suc i) (omega arith) h).rises
  fields_right s zero h offset_field = (s.each 0 h).begins
  fields_right s (suc i) h offset_field = (s.order i (suc i) (omega arith) h).apart
  fields_right s i h size_field = (s.each i h).ends
  fields_right s i h flag_field = (s.each i h).flag
  fields_right s i h zero_field = (s.each i h).zero_byte

  head_refused : (r p : ℕ) → head_said deck ≡ refused r p → (r ≡ malformed_deck) × (p ≡ 0)
  head_refused r p e =
      test_refused (leb (length deck) deck_bytes) malformed_deck 0 _ e (λ _ n q. (n, q))
      (λ _ e1. test_refused (leb 1 (count_of deck)) malformed_deck 0 _ e1 (λ _ n q. (n, q))
      (λ _ e2. test_refused (leb (count_of deck) most_cards) malformed_deck 0 _ e2 (λ _ n q. (n, q))
      (λ _ e3. last_refused (leb (behind (count_of deck)) (length deck)) malformed_deck 0 e3 (λ _ n q. (n, q)))))

  pub judged_refused : (r p : ℕ) → judged deck ≡ refused r p → (r ≡ malformed_deck) × MalformedAt deck p
  judged_refused r p e =
      stage_refused (head_said deck) _ e
      (λ k. let (n, q) = head_refused r p k in (n, rw q (in_head (λ h. says≢refused (sym (of_head deck h) ∙ k)))))
      (λ h k. field (head_of deck h) (rows_wrong (count_of deck) (length deck) 1 0 (behind (count_of deck)) (entries_from deck) r p k))
    where
      field : Head deck → RowsWrong (length deck) 1 0 (behind (count_of deck)) (count_of deck) (entries_from deck) r p → (r ≡ malformed_deck) × MalformedAt deck p
      field h w = (
        w.number,
        rw w.place (in_field w.entry w.field h (record {
          inside = w.inside;
          wrong = λ k. w.wrong ((right_field w.entry w.field).1 k);
          before = λ j g k. (right_field j g).0 (w.before j g (omega (arith, k, w.place)));
        })),
      )

  -- a deck is malformed at one place only
  pub one_place : {p q : ℕ} → MalformedAt deck p → MalformedAt deck q → p ≡ q
  one_place (in_head a) (in_head b) = refl
  one_place (in_head a) (in_field i f h w) = absurd (a h)
  one_place (in_field i f h w) (in_head b) = absurd (b h)
  one_place (in_field i f h w) (in_field j g k v) = go (dec_lt (field_place i f) (field_place j g)) (dec_lt (field_place j g) (field_place i f))
    where
      go : Dec (field_place i f < field_place j g) → Dec (field_place j g < field_place i f) → field_place i f ≡ field_place j g
      go (yes l) _ = absurd (w.wrong (v.before i f l))
      go (no l) (yes m) = absurd (v.wrong (w.before j g m))
      go (no l) (no m) = omega arith

  -- a sound deck is malformed nowhere
  pub sound_nowhere : {p : ℕ} → Sound deck → MalformedAt deck p → ⊥
  sound_nowhere s (in_head a) = a s.head
  sound_nowhere s (in_field i f h w) = w.wrong (fields_right s i w.inside f)

  -- 11 is given exactly at the first byte of the first wrong field, or at 0
  pub malformed_exactly : (p : ℕ) → (judged deck ≡ refused malformed_deck p) ↔ MalformedAt deck p
  malformed_exactly p = (λ e. (judged_refused malformed_deck p e).1, λ m. go m (judged deck) refl)
    where
      go : MalformedAt deck p → (x : Said (Unit {0})) → judged deck ≡ x → x ≡ refused malformed_deck p
      go m (says u) e = absurd (sound_nowhere (sound_judged deck e) m)
      go m (refused r q) e =
          let (n, k) = judged_refused r q e in
          rw (n, one_place k m)

  -- the base's places are below the expansion's
  pub place_below : {p : ℕ} → MalformedAt deck p → p < expansion_from
  place_below (in_head a) = omega arith
  place_below (in_field i f h w) = omega (arith, field_to (1 + 8 * i) f, w.inside, h.few)
