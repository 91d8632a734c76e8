-- A seating and its bytes are one for one: the seats stand first, and the shared number, where the card has one, behind them. Assumes nothing.
use Prim.Native.Nat.{ℕ, suc, ◌<◌}
use mathlib.Core.Path.{◌≡◌, refl, sym, ap, ap₂, ◌∙◌}
use mathlib.Core.List.{List, [], ◌∷◌, ◌++◌}
use mathlib.Core.Option.{Option, none, some}
use native.Mathlib.Omega.{arith}
use lib.ListN.{length, get_or, take, length-append}
use lib.Seq.{take_all, take-suc}
use Rattle.card.specs.Card.{Shared, Card}
use Rattle.card.specs.Valid.{values_of}
use Rattle.meaning.specs.Position.{position, shared_values}
use Rattle.meaning.specs.Seats.{Seating, ValidSeating}
use Rattle.seating.specs.Judged.{bytes_due, seating_in, seating_of, Seated, bytes_in, bytes_of}

-- the last of a list with one more
last_there : (l : List ℕ) (a : ℕ) → get_or (l ++ a ∷ []) (length l) 0 ≡ a
last_there [] a = refl
last_there (b ∷ l) a = last_there l a

before_last : (l : List ℕ) (a : ℕ) → take (length l) (l ++ a ∷ []) ≡ l
before_last [] a = refl
before_last (b ∷ l) a = ap (λ (m : List ℕ). b ∷ m) (before_last l a)

module _ (n : ℕ) where
  bytes_due_law : (s : Option Shared) (x : Seating) → length x.each ≡ n → length (bytes_in s x) ≡ bytes_due n (values_of s)
  bytes_due_law none x e = e
  bytes_due_law (some s) x e = length-append x.each (x.shared ∷ []) ∙ omega arith

  back : (s : Option Shared) (x : Seating) → length x.each ≡ n → x.shared < shared_values s → seating_in n (values_of s) (bytes_in s x) ≡ x
  back none x e l = ap₂ position (take_all n x.each (omega arith)) (omega arith)
  back (some s) x e l = rw (← e) (ap₂ position (before_last x.each x.shared) (last_there x.each x.shared))

  forth : (s : Option Shared) (b : List ℕ) → length b ≡ bytes_due n (values_of s) → bytes_in s (seating_in n (values_of s) b) ≡ b
  forth none b e = take_all n b (omega arith)
  forth (some s) b e = sym (take-suc b n 0 (omega arith)) ∙ take_all (suc n) b (omega arith)

module _ (c : Card) (x : Seating) (ok : ValidSeating c x) where
  pub bytes_back : seating_of c (bytes_of c x) ≡ x
  bytes_back = back c.n c.shared x ok.seats ok.shared

  pub bytes_seated : Seated c (bytes_of c x)
  bytes_seated = record { due = bytes_due_law c.n c.shared x ok.seats; valid = rw bytes_back ok }

-- and every seating's bytes are those that it was made of
pub seated_bytes : (c : Card) (b : List ℕ) → Seated c b → bytes_of c (seating_of c b) ≡ b
seated_bytes c b v = forth c.n c.shared b v.due
