-- A number has one entry at most, and looking it up among the entries gives that entry where it is live, and 12 otherwise. Assumes nothing.
use Prim.Native.Nat.{ℕ, zero, suc, ◌<◌}
use mathlib.Core.Path.{◌≡◌, refl, sym, ap, ◌∙◌}
use mathlib.Core.Bool.{Bool, true, false, ◌&&◌, false≢true}
use mathlib.Core.List.{List, [], ◌∷◌, map}
use native.Mathlib.Omega.{arith}
use native.Mathlib.Decide.{dec_lt}
use lib.Dec.{eqb}
use borrow.Author.Tests.{eqb-true, eq-eqb}
use lib.ListN.{drop}
use Rattle.card.specs.Refusals.{no_live_card}
use Rattle.card.specs.Text.{when◌then◌else◌}
use Rattle.entry.specs.Said.{Said, says, refused, saying}
use Rattle.entry.proofs.Stages.{says≢refused, same_said, same_number, same_place}
use Rattle.deck.specs.Contents.{Row, row_of, rows_of, count_of, contents_of, entries_from}
use Rattle.deck.specs.Deck.{live_of, body_of, entry_of}
use Rattle.deck.specs.Lookup.{is_live, live_row, live_in}
use Rattle.deck.specs.Given.{LiveAt, NoLive}
use Rattle.deck.specs.Sound.{row_at, entry_at, Sound}

-- ---- among entries one behind the other

record LiveIn (number c : ℕ) (t : List ℕ) (i : ℕ) : Type 0 where
  pub inside : i < c
  pub named : (row_at t i).number ≡ number
  pub live : (row_at t i).flag ≡ 1

is_live_law : (number : ℕ) (r : Row) → is_live number r ≡ true → (r.number ≡ number) × (r.flag ≡ 1)
is_live_law number r e = go (eqb r.number number) refl e
  where
    go : (b : Bool) → eqb r.number number ≡ b → b && live_of r ≡ true → (r.number ≡ number) × (r.flag ≡ 1)
    go true k e = (eqb-true r.number number k, eqb-true r.flag 1 e)
    go false k e = absurd (false≢true e)

live_is : (number : ℕ) (r : Row) → r.number ≡ number → r.flag ≡ 1 → is_live number r ≡ true
live_is number r e f =
    let a = eq-eqb r.number number e in
    let b = eq-eqb r.flag 1 f in
    ap (λ (x : Bool). x && live_of r) a ∙ b

-- what is found is live and has the number
found_live : (number c : ℕ) (t : List ℕ) (r : Row) → live_row number (rows_of c t) ≡ says r → (i : ℕ) × LiveIn number c t i × (r ≡ row_at t i)
found_live number zero t r e = says≢refused (sym e)
found_live number (suc c) t r e = go (found_live number c (drop 8 t) r) (is_live number (row_of t)) refl e
  where
    go : (live_row number (rows_of c (drop 8 t)) ≡ says r → (i : ℕ) × LiveIn number c (drop 8 t) i × (r ≡ row_at (drop 8 t) i))
        → (b : Bool) → is_live number (row_of t) ≡ b → (when b then says (row_of t) else live_row number (rows_of c (drop 8 t))) ≡ says r
        → (i : ℕ) × LiveIn number (suc c) t i × (r ≡ row_at t i)
    go rest true k e = let (n, l) = is_live_law number (row_of t) k in (0, record { inside = omega arith; named = n; live = l }, sym (same_said e))
    go rest false k e = let (i, l, at) = rest e in (suc i, record { inside = omega (arith, l.inside); named = l.named; live = l.live }, at)

-- 12 at 0 is the only refusal, and there is no live entry then
found_none : (number c : ℕ) (t : List ℕ) (r p : ℕ) → live_row number (rows_of c t) ≡ refused r p
    → (r ≡ no_live_card) × (p ≡ 0) × ((i : ℕ) → LiveIn number c t i → ⊥)
found_none number zero t r p e = (sym (same_number e), sym (same_place e), λ i l. absurd (omega (arith, l.inside)))
found_none number (suc c) t r p e = go (found_none number c (drop 8 t) r p) (is_live number (row_of t)) refl e
  where
    none : is_live number (row_of t) ≡ false → ((i : ℕ) → LiveIn number c (drop 8 t) i → ⊥) → (i : ℕ) → LiveIn number (suc c) t i → ⊥
    none k h zero l = false≢true (sym k ∙ live_is number (row_of t) l.named l.live)
    none k h (suc i) l = h i (record { inside = omega (arith, l.inside); named = l.named; live = l.live })

    go : (live_row number (rows_of c (drop 8 t)) ≡ refused r p → (r ≡ no_live_card) × (p ≡ 0) × ((i : ℕ) → LiveIn number c (drop 8 t) i → ⊥))
        → (b : Bool) → is_live number (row_of t) ≡ b → (when b then says (row_of t) else live_row number (rows_of c (drop 8 t))) ≡ refused r p
        → (r ≡ no_live_card) × (p ≡ 0) × ((i : ℕ) → LiveIn number (suc c) t i → ⊥)
    go rest true k e = says≢refused e
    go rest false k e = let (a, b, h) = rest e in (a, b, none k h)

-- ---- in a sound deck

module _ (deck : List ℕ) where
  -- a number has one entry at most
  pub one_number : Sound deck → (i j : ℕ) → i < count_of deck → j < count_of deck → (entry_at deck i).number ≡ (entry_at deck j).number → i ≡ j
  one_number s i j hi hj e = go (dec_lt i j) (dec_lt j i)
    where
      go : Dec (i < j) → Dec (j < i) → i ≡ j
      go (yes l) _ = absurd (omega (arith, (s.order i j l hj).rises, e))
      go (no l) (yes m) = absurd (omega (arith, (s.order j i m hi).rises, e))
      go (no l) (no m) = omega arith

  module _ (number : ℕ) where
    live_at : {i : ℕ} → LiveIn number (count_of deck) (entries_from deck) i → LiveAt deck number i
    live_at l = record { inside = l.inside; named = l.named; live = l.live }

    live_in_law : {i : ℕ} → LiveAt deck number i → LiveIn number (count_of deck) (entries_from deck) i
    live_in_law l = record { inside = l.inside; named = l.named; live = l.live }

    pub row_live : (r : Row) → live_row number (contents_of deck) ≡ says r → (i : ℕ) × LiveAt deck number i × (r ≡ entry_at deck i)
    row_live r e = let (i, l, at) = found_live number (count_of deck) (entries_from deck) r e in (i, live_at l, at)

    pub row_none : (r p : ℕ) → live_row number (contents_of deck) ≡ refused r p → (r ≡ no_live_card) × (p ≡ 0) × NoLive deck number
    row_none r p e = let (a, b, h) = found_none number (count_of deck) (entries_from deck) r p e in (a, b, λ i l. h i (live_in_law l))

    -- the live entry with the number is found, since it is the only one
    pub live_row_law : Sound deck → (i : ℕ) → LiveAt deck number i → live_row number (contents_of deck) ≡ says (entry_at deck i)
    live_row_law s i l = go (live_row number (contents_of deck)) refl
      where
        go : (x : Said Row) → live_row number (contents_of deck) ≡ x → x ≡ says (entry_at deck i)
        go (says r) k =
            let (j, m, at) = row_live r k in
            let same = one_number s j i m.inside l.inside (m.named ∙ sym l.named) in
            ap says (at ∙ ap (entry_at deck) same)
        go (refused r p) k = absurd ((row_none r p k).2 i l)

    pub none_row : NoLive deck number → live_row number (contents_of deck) ≡ refused no_live_card 0
    none_row h = go (live_row number (contents_of deck)) refl
      where
        go : (x : Said Row) → live_row number (contents_of deck) ≡ x → x ≡ refused no_live_card 0
        go (says r) k = let (j, m, at) = row_live r k in absurd (h j m)
        go (refused r p) k = let (a, b, _) = row_none r p k in rw (a, b)

-- ---- what is found in the contents is found in what the deck holds

pub body_row : (deck : List ℕ) (number : ℕ) (rows : List Row) → live_in number (map (entry_of deck) rows) ≡ saying (body_of deck) (live_row number rows)
body_row deck number [] = refl
body_row deck number (r ∷ rows) = go (body_row deck number rows) (is_live number r) refl
  where
    go : live_in number (map (entry_of deck) rows) ≡ saying (body_of deck) (live_row number rows)
        → (b : Bool) → is_live number r ≡ b → live_in number (map (entry_of deck) (r ∷ rows)) ≡ saying (body_of deck) (live_row number (r ∷ rows))
    go rest true k = rw k
    go rest false k = rw k rest
