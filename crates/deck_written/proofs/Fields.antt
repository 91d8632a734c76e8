-- The fields of the contents, judged in the order of their bytes: each entry's three tests, then the entries one behind the other. Assumes nothing.
use Prim.Native.Nat.{ℕ, zero, suc, ◌+◌, ◌*◌, ◌<◌, ◌≤◌}
use mathlib.Core.Path.{◌≡◌, refl, sym, subst}
use mathlib.Core.Bool.{false}
use mathlib.Core.Logic.{◌⊎◌, inl, inr}
use mathlib.Core.List.{List}
use native.Mathlib.Decide.{dec_le, dec_lt}
use native.Mathlib.Omega.{arith}
use lib.Dec.{leb, eqb}
use borrow.Author.Tests.{leb-false, lt-leb, eqb-false, ne_eqb}
use lib.ListN.{drop}
use Rattle.card.specs.Refusals.{malformed_deck}
use Rattle.deck.specs.Contents.{Row, row_of, rows_of, Field, number_field, offset_field, size_field, flag_field, zero_field}
use Rattle.deck.specs.Sound.{row_at}
use Rattle.deck.proofs.Judged.{flag_small, flag_either}
use Rattle.deck_written.specs.WriteDeckSaid.{line_said, lines_said}
use Rattle.deck_written.specs.Fine.{RightIn, place_in}
use Rattle.deck_written.proofs.InOrder.{InOrder, passed, in_order_test, in_order_then, in_order_as}

-- ---- one entry, measured by the least number that rises

data WrongLine (at least : ℕ) (r : Row) (p : ℕ) : Type 0 where
  low_number : r.number < least → p ≡ at → WrongLine at least r p
  high_flag : 1 < r.flag → p ≡ at + 6 → WrongLine at least r p
  some_zero : (r.zero_byte ≡ 0 → ⊥) → p ≡ at + 7 → WrongLine at least r p

module _ (at least : ℕ) (r : Row) where
  abbrev Tests : ℕ → Type 0
  Tests p = ((leb least r.number ≡ false) × (p ≡ at)) ⊎ (((leb r.flag 1 ≡ false) × (p ≡ at + 6)) ⊎ ((eqb r.zero_byte 0 ≡ false) × (p ≡ at + 7)))

  told : (p : ℕ) → Tests p → WrongLine at least r p
  told p (inl h) = low_number (leb-false least r.number h.0) h.1
  told p (inr (inl h)) = high_flag (leb-false r.flag 1 h.0) h.1
  told p (inr (inr h)) = some_zero (eqb-false r.zero_byte 0 h.0) h.1

  tested : (p : ℕ) → WrongLine at least r p → Tests p
  tested p (low_number h e) = inl (lt-leb least r.number h, e)
  tested p (high_flag h e) = inr (inl (lt-leb r.flag 1 h, e))
  tested p (some_zero h e) = inr (inr (ne_eqb r.zero_byte 0 h, e))

  line_order : InOrder malformed_deck (line_said at least r) (WrongLine at least r)
  line_order =
      in_order_as
      (in_order_then (in_order_test (leb least r.number) malformed_deck at)
      (in_order_then (in_order_test (leb r.flag 1) malformed_deck (at + 6)) (in_order_test (eqb r.zero_byte 0) malformed_deck (at + 7)) (λ p q v w. omega (arith, v.1, w.1)))
      (λ p q v w. later p q v.1 w))
      told tested
    where
      later : (p q : ℕ) → p ≡ at → ((leb r.flag 1 ≡ false) × (q ≡ at + 6)) ⊎ ((eqb r.zero_byte 0 ≡ false) × (q ≡ at + 7)) → p < q
      later p q e (inl w) = omega (arith, w.1)
      later p q e (inr w) = omega (arith, w.1)

-- an entry's fields lie in its eight bytes
line_places : (at least : ℕ) (r : Row) (p : ℕ) → WrongLine at least r p → (at ≤ p) × (p < at + 8)
line_places at least r p (low_number h e) = (omega arith, omega arith)
line_places at least r p (high_flag h e) = (omega arith, omega arith)
line_places at least r p (some_zero h e) = (omega arith, omega arith)

-- ---- all of them

abbrev least_at : ℕ → List ℕ → ℕ → ℕ
least_at least t zero = least
least_at least t (suc i) = suc (row_at t i).number

least_at_rest : (least : ℕ) (t : List ℕ) (i : ℕ) → least_at (suc (row_of t).number) (drop 8 t) i ≡ least_at least t (suc i)
least_at_rest least t zero = refl
least_at_rest least t (suc i) = refl

record WrongFrom (at least c : ℕ) (t : List ℕ) (p : ℕ) : Type 0 where
  pub entry : ℕ
  pub inside : entry < c
  pub here : WrongLine (at + 8 * entry) (least_at least t entry) (row_at t entry) p

lines_order : (at least c : ℕ) (t : List ℕ) → InOrder malformed_deck (lines_said at least (rows_of c t)) (WrongFrom at least c t)
lines_order at least zero t = passed refl (λ q w. absurd (omega (arith, w.inside)))
lines_order at least (suc c) t =
    in_order_as (in_order_then (line_order at least (row_of t)) (lines_order (at + 8) (suc (row_of t).number) c (drop 8 t)) later) to of
  where
    Rest : ℕ → Type 0
    Rest p = WrongFrom (at + 8) (suc (row_of t).number) c (drop 8 t) p

    here_0 : at ≡ at + 8 * 0
    here_0 = omega arith

    behind_0 : (i : ℕ) → at + 8 + 8 * i ≡ at + 8 * suc i
    behind_0 i = omega arith

    later : (p q : ℕ) → WrongLine at least (row_of t) p → Rest q → p < q
    later p q v w = omega (arith, (line_places at least (row_of t) p v).1, (line_places _ _ _ q w.here).0)

    to : (p : ℕ) → WrongLine at least (row_of t) p ⊎ Rest p → WrongFrom at least (suc c) t p
    to p (inl v) = record { entry = 0; inside = omega arith; here = subst (λ (a : ℕ). WrongLine a least (row_of t) p) here_0 v }
    to p (inr w) = record {
      entry = suc w.entry;
      inside = omega (arith, w.inside);
      here = subst (λ (l : ℕ). WrongLine (at + 8 * suc w.entry) l (row_at t (suc w.entry)) p) (least_at_rest least t w.entry)
          (subst (λ (a : ℕ). WrongLine a (least_at (suc (row_of t).number) (drop 8 t) w.entry) (row_at (drop 8 t) w.entry) p) (behind_0 w.entry) w.here);
    }

    of : (p : ℕ) → WrongFrom at least (suc c) t p → WrongLine at least (row_of t) p ⊎ Rest p
    of p w = go w.entry w.inside w.here
      where
        go : (i : ℕ) → i < suc c → WrongLine (at + 8 * i) (least_at least t i) (row_at t i) p → WrongLine at least (row_of t) p ⊎ Rest p
        go zero h v = inl (subst (λ (a : ℕ). WrongLine a least (row_of t) p) (sym here_0) v)
        go (suc i) h v = inr (record {
          entry = i;
          inside = omega arith;
          here = subst (λ (l : ℕ). WrongLine (at + 8 + 8 * i) l (row_at (drop 8 t) i) p) (sym (least_at_rest least t i))
              (subst (λ (a : ℕ). WrongLine a (least_at least t (suc i)) (row_at t (suc i)) p) (sym (behind_0 i)) v);
        })

-- ---- in the words of the definitions

-- the field that starts at this byte is wrong
pub record WrongAt (contents : List ℕ) (c p : ℕ) : Type 0 where
  pub entry : ℕ
  pub field : Field
  pub inside : entry < c
  pub place : p ≡ place_in entry field
  pub wrong : RightIn contents entry field → ⊥

module _ (contents : List ℕ) (c : ℕ) where
  to_wrong : (p : ℕ) → WrongFrom 0 0 c contents p → WrongAt contents c p
  to_wrong p w = go w.entry w.inside w.here
    where
      go : (i : ℕ) → i < c → WrongLine (0 + 8 * i) (least_at 0 contents i) (row_at contents i) p → WrongAt contents c p
      go zero h (low_number v e) = absurd (omega arith)
      go (suc i) h (low_number v e) = record { entry = suc i; field = number_field; inside = h; place = omega arith; wrong = λ r. omega arith }
      go i h (high_flag v e) = record { entry = i; field = flag_field; inside = h; place = omega arith; wrong = λ r. omega (arith, flag_small r) }
      go i h (some_zero v e) = record { entry = i; field = zero_field; inside = h; place = omega arith; wrong = v }

  of_wrong : (p : ℕ) → WrongAt contents c p → WrongFrom 0 0 c contents p
  of_wrong p w = go w.entry w.field w.inside w.place w.wrong
    where
      go : (i : ℕ) (f : Field) → i < c → p ≡ place_in i f → (RightIn contents i f → ⊥) → WrongFrom 0 0 c contents p
      go zero number_field h e v = absurd (v tt)
      go (suc i) number_field h e v = record { entry = suc i; inside = h; here = low_number (fall (dec_lt (row_at contents i).number (row_at contents (suc i)).number)) (omega arith) }
        where
          fall : Dec ((row_at contents i).number < (row_at contents (suc i)).number) → (row_at contents (suc i)).number < suc (row_at contents i).number
          fall (yes l) = absurd (v l)
          fall (no l) = omega arith
      go i offset_field h e v = absurd (v tt)
      go i size_field h e v = absurd (v tt)
      go i flag_field h e v = record { entry = i; inside = h; here = high_flag (high (dec_le (row_at contents i).flag 1)) (omega arith) }
        where
          high : Dec ((row_at contents i).flag ≤ 1) → 1 < (row_at contents i).flag
          high (yes l) = absurd (v (flag_either _ l))
          high (no l) = omega arith
      go i zero_field h e v = record { entry = i; inside = h; here = some_zero v (omega arith) }

  pub fields_order : InOrder malformed_deck (lines_said 0 0 (rows_of c contents)) (WrongAt contents c)
  fields_order = in_order_as (lines_order 0 0 c contents) to_wrong of_wrong
