-- What a mark is, asked of its kind alone, as the code asks.
use Prim.Native.Nat.{ℕ, ◌<◌}
use Prim.Native.String.{String}
use mathlib.Core.Path.{◌≡◌, refl, sym, ap, ◌∙◌}
use mathlib.Core.Bool.{Bool, true, false}
use mathlib.Core.List.{[], ◌∷◌}
use mathlib.Core.Option.{Option, none, some}
use native.Mathlib.Omega.{arith}
use borrow.Author.Tests.{eqb-true, eqb-false}
use lib.Dec.{eqb}
use Rattle.card.specs.Text.{bytes, same, when◌then◌else◌}
use Rattle.card.specs.Card.{is as eq, isnt as ne}
use Rattle.marks_on_a_card.specs.Marks.{Mark, text, seat, process, number, decimal, outside}
use Rattle.marks_on_a_card.specs.Kinds.{k_word, k_seat, k_number, knowns, kind, kind_of, value_of}
use Rattle.marks_on_a_card.proofs.KindLaws.{spellings, same_eq, kind_is, kind_seat, kind_number}
use Rattle.reading.specs.Reader.{is, seat_of, number_of}
use Rattle.reading.specs.Group.{relation_of}

-- a text of the table: no other text has its kind. All three compute
pub record Known (t : String) : Type 0 where
  pub above : k_word < kind t
  pub alone : spellings (kind t) knowns ≡ bytes t ∷ []
  pub same : same (bytes t) (bytes t) ≡ true

-- a test by the kind, where the kind and only it makes the answer true
by_test : (b : Bool) (m : Mark) (v : ℕ) → (kind_of m ≡ v → b ≡ true) → (b ≡ true → kind_of m ≡ v) → b ≡ eqb (kind_of m) v
by_test b m v to from = go (eqb (kind_of m) v) refl b refl
  where
    go : (c : Bool) → eqb (kind_of m) v ≡ c → (d : Bool) → b ≡ d → d ≡ c
    go true e d f = sym f ∙ to (eqb-true (kind_of m) v e)
    go false e true f = absurd (eqb-false (kind_of m) v e (from f))
    go false e false f = refl

pub is_kind : (t : String) (m : Mark) → Known t → is t m ≡ eqb (kind_of m) (kind t)
is_kind t m h = by_test (is t m) m (kind t) (λ e. ap (is t) (kind_is t (kind t) h.above h.alone m e) ∙ h.same) (back m)
  where
    back : (x : Mark) → is t x ≡ true → kind_of x ≡ kind t
    back (text s) e = ap (λ u. kind_of (text u)) (same_eq s (bytes t) e)
    back (seat i) e = let z : ◌≡◌ {A = ℕ} 0 1 = cc in absurd (omega arith)
    back (process i) e = let z : ◌≡◌ {A = ℕ} 0 1 = cc in absurd (omega arith)
    back (number v) e = let z : ◌≡◌ {A = ℕ} 0 1 = cc in absurd (omega arith)
    back (decimal v n f) e = let z : ◌≡◌ {A = ℕ} 0 1 = cc in absurd (omega arith)
    back outside e = let z : ◌≡◌ {A = ℕ} 0 1 = cc in absurd (omega arith)

-- ---- words and numbers

-- a mark's number, if its kind has one
abbrev pub valued : Bool → Mark → Option ℕ
valued b m = when b then some (value_of m) else none

by_kind : (f : Mark → Option ℕ) (v : ℕ) → ((m : Mark) → kind_of m ≡ v → f m ≡ some (value_of m)) → ((m : Mark) → (kind_of m ≡ v → ⊥) → f m ≡ none) → (m : Mark) → f m ≡ valued (eqb (kind_of m) v) m
by_kind f v to from m = go (eqb (kind_of m) v) refl
  where
    go : (b : Bool) → eqb (kind_of m) v ≡ b → f m ≡ valued b m
    go true e = to m (eqb-true (kind_of m) v e)
    go false e = from m (eqb-false (kind_of m) v e)

pub seat_kind : (m : Mark) → seat_of m ≡ valued (eqb (kind_of m) k_seat) m
seat_kind = by_kind seat_of k_seat (λ m e. ap seat_of (kind_seat m e)) other
  where
    other : (m : Mark) → (kind_of m ≡ k_seat → ⊥) → seat_of m ≡ none
    other (text s) f = refl
    other (seat i) f = absurd (f refl)
    other (process i) f = refl
    other (number v) f = refl
    other (decimal v n g) f = refl
    other outside f = refl

pub number_kind : (m : Mark) → number_of m ≡ valued (eqb (kind_of m) k_number) m
number_kind = by_kind number_of k_number (λ m e. ap number_of (kind_number m e)) other
  where
    other : (m : Mark) → (kind_of m ≡ k_number → ⊥) → number_of m ≡ none
    other (text s) f = refl
    other (seat i) f = refl
    other (process i) f = refl
    other (number v) f = absurd (f refl)
    other (decimal v n g) f = refl
    other outside f = refl

-- ---- relations

equals : Known "="
equals = record { above = omega arith; alone = refl; same = refl }

differs : Known "!="
differs = record { above = omega arith; alone = refl; same = refl }

pub relation_kind : (m : Mark) → relation_of m ≡ (when eqb (kind_of m) (kind "=") then some eq else (when eqb (kind_of m) (kind "!=") then some ne else none))
relation_kind m = rw (is_kind "=" m equals, is_kind "!=" m differs)
