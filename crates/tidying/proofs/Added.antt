-- A card put among others at its place by number: one entry more, in rising order if its number is none of theirs; its number gives it, and every other number what it gave.
-- Entry by entry, by whether its number is lower. Assumes nothing.
use Prim.Native.Nat.{ℕ, suc, ◌+◌, ◌≤◌, ◌<◌}
use mathlib.Core.Path.{◌≡◌, refl, sym, ap}
use mathlib.Core.Bool.{Bool, true, false, ◌&&◌}
use mathlib.Core.List.{List, [], ◌∷◌, ◌++◌}
use native.Mathlib.Omega.{arith}
use borrow.Author.Tests.{ltb-true, ltb-false, eq-eqb, ne_eqb}
use lib.Dec.{ltb, eqb}
use lib.ListN.{length, length-append}
use Rattle.card.specs.Limits.{word_numbers}
use Rattle.card.specs.Text.{when◌then◌else◌}
use Rattle.card.specs.Valid.{Every}
use Rattle.entry.specs.Said.{says}
use Rattle.deck.specs.Deck.{Entry, bodies, Rising}
use Rattle.deck.specs.Lookup.{live_in}
use Rattle.tidying.specs.Tidying.{with_card}
use Rattle.tidying.specs.Tidied.{AtItsPlace}

above : (a b : ℕ) → b ≤ a → (a ≡ b → ⊥) → suc b ≤ a
above a b m n = omega arith

module _ (new : Entry) where
  -- of another number
  abbrev pub Other : Entry → Type 0
  Other e = e.number ≡ new.number → ⊥

  module _ (P : Entry → Type 0) where
    pub with_every : (es : List Entry) → P new → Every P es → Every P (with_card new es)
    with_every [] p h = (p, tt)
    with_every (e ∷ es) p h = go (ltb e.number new.number) (with_every es p h.1)
      where
        go : (b : Bool) → Every P (with_card new es) → Every P (when b then e ∷ with_card new es else new ∷ e ∷ es)
        go true r = (h.0, r)
        go false r = (p, (h.0, h.1))

  pub with_count : (es : List Entry) → length (with_card new es) ≡ suc (length es)
  with_count [] = refl
  with_count (e ∷ es) = go (ltb e.number new.number) (with_count es)
    where
      go : (b : Bool) → length (with_card new es) ≡ suc (length es) → length (when b then e ∷ with_card new es else new ∷ e ∷ es) ≡ suc (suc (length es))
      go true r = ap suc r
      go false r = refl

  pub with_bodies : (es : List Entry) → length (bodies (with_card new es)) ≡ length new.body + length (bodies es)
  with_bodies [] = length-append new.body []
  with_bodies (e ∷ es) = go (ltb e.number new.number) (with_bodies es)
    where
      go : (b : Bool) → length (bodies (with_card new es)) ≡ length new.body + length (bodies es)
          → length (bodies (when b then e ∷ with_card new es else new ∷ e ∷ es)) ≡ length new.body + length (e.body ++ bodies es)
      go true r = omega (arith, r, length-append e.body (bodies (with_card new es)), length-append e.body (bodies es))
      go false r = length-append new.body (e.body ++ bodies es)

  pub with_rising : (least : ℕ) (es : List Entry) → least ≤ new.number → new.number < word_numbers → Every Other es → Rising least es → Rising least (with_card new es)
  with_rising least [] l s o h = (l, s, tt)
  with_rising least (e ∷ es) l s o h = go (ltb e.number new.number) refl (λ m. with_rising (suc e.number) es m s o.1 h.2)
    where
      go : (b : Bool) → ltb e.number new.number ≡ b → (e.number < new.number → Rising (suc e.number) (with_card new es))
          → Rising least (when b then e ∷ with_card new es else new ∷ e ∷ es)
      go true k r = (h.0, h.1, r (ltb-true e.number new.number k))
      go false k r =
          let m = ltb-false e.number new.number k in
          let n : (e.number ≡ new.number → ⊥) = o.0 in
          (l, s, (above e.number new.number m n, h.1, h.2))

  -- all entries behind are higher
  higher_all : (least : ℕ) (es : List Entry) → suc new.number ≤ least → Rising least es → Every (λ (e : Entry). new.number < e.number) es
  higher_all least [] l h = tt
  higher_all least (e ∷ es) l h = (omega (arith, h.0), higher_all (suc e.number) es (omega (arith, h.0)) h.2)

  pub at_its_place : (least : ℕ) (es : List Entry) → Every Other es → Rising least es → AtItsPlace new es (with_card new es)
  at_its_place least [] o h = record { before = []; behind = []; were = refl; are = refl; lower = tt; higher = tt }
  at_its_place least (e ∷ es) o h = go (ltb e.number new.number) refl (at_its_place (suc e.number) es o.1 h.2)
    where
      go : (b : Bool) → ltb e.number new.number ≡ b → AtItsPlace new es (with_card new es)
          → AtItsPlace new (e ∷ es) (when b then e ∷ with_card new es else new ∷ e ∷ es)
      go true k r = record {
        before = e ∷ r.before;
        behind = r.behind;
        were = ap (λ (l : List Entry). e ∷ l) r.were;
        are = ap (λ (l : List Entry). e ∷ l) r.are;
        lower = (ltb-true e.number new.number k, r.lower);
        higher = r.higher;
      }
      go false k r =
          let m : new.number < e.number = above e.number new.number (ltb-false e.number new.number k) o.0 in
          record { before = []; behind = e ∷ es; were = refl; are = refl; lower = tt; higher = (m, higher_all (suc e.number) es (omega arith) h.2) }

  pub finds_new : new.live ≡ true → (es : List Entry) → live_in new.number (with_card new es) ≡ says new.body
  finds_new live [] = rw (eq-eqb new.number new.number refl, live)
  finds_new live (e ∷ es) = go (ltb e.number new.number) refl (finds_new live es)
    where
      go : (b : Bool) → ltb e.number new.number ≡ b → live_in new.number (with_card new es) ≡ says new.body
          → live_in new.number (when b then e ∷ with_card new es else new ∷ e ∷ es) ≡ says new.body
      go true k r = let m = ltb-true e.number new.number k in rw (ne_eqb e.number new.number (omega arith)) r
      go false k r = rw (eq-eqb new.number new.number refl, live)

  pub finds_others : (other : ℕ) → (other ≡ new.number → ⊥) → (es : List Entry) → live_in other (with_card new es) ≡ live_in other es
  finds_others other n [] = rw (ne_eqb new.number other (λ q. n (sym q)))
  finds_others other n (e ∷ es) = go (ltb e.number new.number) (eqb e.number other && e.live) refl (finds_others other n es)
    where
      go : (b a : Bool) → eqb e.number other && e.live ≡ a → live_in other (with_card new es) ≡ live_in other es
          → live_in other (when b then e ∷ with_card new es else new ∷ e ∷ es) ≡ (when a then says e.body else live_in other es)
      go true true k r = rw k
      go true false k r = rw k r
      go false a k r = rw (ne_eqb new.number other (λ q. n (sym q)), k)
