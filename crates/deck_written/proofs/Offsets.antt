-- Offsets are not read: what is said of contents is said of their lines with any offsets, and contents that differ in offsets only have the same
-- such lines. Assumes nothing.
use Prim.Native.Nat.{ℕ, zero, suc, ◌+◌, ◌*◌, ◌/◌, ◌<◌}
use mathlib.Core.Path.{◌≡◌, refl, sym, ap, ◌∙◌}
use mathlib.Core.List.{List, [], ◌∷◌, map}
use native.Mathlib.Omega.{arith}
use lib.ListN.{take, drop}
use lib.Seq.{get_or-drop}
use Rattle.entry.specs.Said.{Said, ◌>>◌}
use Rattle.deck.specs.Contents.{byte, Row, row_of, rows_of}
use Rattle.deck.specs.Deck.{Entry, live_of}
use Rattle.deck_written.specs.WriteDeckSaid.{count_in, lines, line_said, lines_said, sizes, entries_with, write_deck_said, line_for}
use Rattle.deck_written.specs.Fine.{SameButOffsets}

-- a line without its offset
abbrev blind : Row → Row
blind r = line_for 0 r

lines_blind : (at least : ℕ) (rs : List Row) → lines_said at least (map blind rs) ≡ lines_said at least rs
lines_blind at least [] = refl
lines_blind at least (r ∷ rs) = ap (λ (y : Said (Unit {0})). line_said at least r >> y) (lines_blind (at + 8) (suc r.number) rs)

sizes_blind : (rs : List Row) → sizes (map blind rs) ≡ sizes rs
sizes_blind [] = refl
sizes_blind (r ∷ rs) = ap (λ (n : ℕ). r.size + n) (sizes_blind rs)

entries_blind : (rs : List Row) (b : List ℕ) → entries_with (map blind rs) b ≡ entries_with rs b
entries_blind [] b = refl
entries_blind (r ∷ rs) b =
    ap (λ (es : List Entry). record { number = r.number; live = live_of r; body = take r.size b } ∷ es) (entries_blind rs (drop r.size b))

abbrev Alike : List ℕ → List ℕ → Type 0
Alike a b = (i k : ℕ) → k < 8 → (k ≡ 2 → ⊥) → (k ≡ 3 → ⊥) → byte a (8 * i + k) ≡ byte b (8 * i + k)

alike_rest : (a b : List ℕ) → Alike a b → Alike (drop 8 a) (drop 8 b)
alike_rest a b h i k l m n =
    let e : 8 + (8 * i + k) ≡ 8 * suc i + k = omega arith in
    get_or-drop 8 a (8 * i + k) 0 ∙ ap (byte a) e ∙ h (suc i) k l m n ∙ sym (get_or-drop 8 b (8 * i + k) 0 ∙ ap (byte b) e)

line_alike : (a b : List ℕ) → Alike a b → blind (row_of a) ≡ blind (row_of b)
line_alike a b h =
    let at : (k : ℕ) → k < 8 → (k ≡ 2 → ⊥) → (k ≡ 3 → ⊥) → byte a k ≡ byte b k
    = λ k l m n. let e : 8 * 0 + k ≡ k = omega arith in ap (byte a) (sym e) ∙ h 0 k l m n ∙ ap (byte b) e in
    let e0 : byte a 0 ≡ byte b 0 = at 0 (omega arith) (λ z. omega arith) (λ z. omega arith) in
    let e1 : byte a 1 ≡ byte b 1 = at 1 (omega arith) (λ z. omega arith) (λ z. omega arith) in
    let e4 : byte a 4 ≡ byte b 4 = at 4 (omega arith) (λ z. omega arith) (λ z. omega arith) in
    let e5 : byte a 5 ≡ byte b 5 = at 5 (omega arith) (λ z. omega arith) (λ z. omega arith) in
    let e6 : byte a 6 ≡ byte b 6 = at 6 (omega arith) (λ z. omega arith) (λ z. omega arith) in
    let e7 : byte a 7 ≡ byte b 7 = at 7 (omega arith) (λ z. omega arith) (λ z. omega arith) in
    rw (e0, e1, e4, e5, e6, e7)

lines_alike : (c : ℕ) (a b : List ℕ) → Alike a b → map blind (rows_of c a) ≡ map blind (rows_of c b)
lines_alike zero a b h = refl
lines_alike (suc c) a b h =
    ap (λ (r : Row). r ∷ map blind (rows_of c (drop 8 a))) (line_alike a b h)
    ∙ ap (λ (rs : List Row). blind (row_of b) ∷ rs) (lines_alike c (drop 8 a) (drop 8 b) (alike_rest a b h))

module _ {A : Type 0} (f : List Row → A) (unread : (rs : List Row) → f (map blind rs) ≡ f rs) where
  -- what does not read offsets does not tell such contents apart
  unread_alike : (a b : List ℕ) → SameButOffsets a b → f (lines a) ≡ f (lines b)
  unread_alike a b s =
      let e : count_in a ≡ count_in b = ap (λ (n : ℕ). n / 8) s.long in
      sym (unread (lines a)) ∙ ap f (lines_alike (count_in a) a b s.bytes) ∙ unread (rows_of (count_in a) b) ∙ ap (λ (n : ℕ). f (rows_of n b)) e

-- two contents that differ in offsets only say the same
pub offsets_unread : (a b bodies : List ℕ) → SameButOffsets a b → write_deck_said a bodies ≡ write_deck_said b bodies
unfolding write_deck_said
offsets_unread a b bodies s =
    rw (
      unread_alike (lines_said 0 0) (lines_blind 0 0) a b s,
      unread_alike sizes sizes_blind a b s,
      unread_alike (λ (rs : List Row). entries_with rs bodies) (λ (rs : List Row). entries_blind rs bodies) a b s,
      s.long,
    )
