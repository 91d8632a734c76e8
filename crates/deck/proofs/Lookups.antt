-- What a lookup says, each case exactly: the base's 11, the expansion's 11, the part of a live card, 12. The two 11s are apart by their places.
-- Assumes nothing.
use Prim.Native.Nat.{ℕ, ◌+◌, ◌≤◌}
use mathlib.Core.Path.{◌≡◌, refl, sym, ap, ◌∙◌}
use mathlib.Core.Logic.{◌↔◌, ◌⊎◌, inl, inr}
use mathlib.Core.List.{List, [], map}
use native.Mathlib.Omega.{arith}
use lib.Dec.{eqb}
use lib.ListN.{length}
use Rattle.card.specs.Limits.{expansion_from}
use Rattle.card.specs.Refusals.{malformed_deck, no_live_card}
use Rattle.card.specs.Text.{when◌then◌else◌}
use Rattle.entry.specs.Said.{Said, says, refused, ◌>>=◌, ◌>>◌, saying, placed_from}
use Rattle.entry.proofs.Exactly.{◌↔∙◌}
use Rattle.entry.proofs.Stages.{says≢refused, same_said, same_number, same_place}
use Rattle.deck.specs.Contents.{Row, contents_of, judged, rows_in}
use Rattle.deck.specs.Deck.{Entry, body_of, entry_of}
use Rattle.deck.specs.Lookup.{or_else, live_in, find, find_with, Part, the_base, the_expansion, part_for, live_row, located, located_with, part_bytes}
use Rattle.deck.specs.Sound.{entry_at, Sound, MalformedAt}
use Rattle.deck.specs.Given.{LiveAt, NoLive, Gives, from_expansion, from_base, BothSound, EitherMalformed}
use Rattle.deck.proofs.Judged.{sound}
use Rattle.deck.proofs.FirstWrong.{judged_refused, malformed_exactly, one_place, sound_nowhere}
use Rattle.deck.proofs.Looked.{one_number, row_live, row_none, body_row}

-- ---- one deck

module _ (deck : List ℕ) where
  rows_refused : (r p : ℕ) → rows_in deck ≡ refused r p → (r ≡ malformed_deck) × MalformedAt deck p
  rows_refused r p e = go (judged deck) refl e
    where
      go : (x : Said (Unit {0})) → judged deck ≡ x → x >> says (contents_of deck) ≡ refused r p → (r ≡ malformed_deck) × MalformedAt deck p
      go (says u) k e = says≢refused e
      go (refused s q) k e =
          let a : s ≡ r = same_number e in
          let b : q ≡ p = same_place e in
          judged_refused deck r p (k ∙ rw (a, b))

  refused_rows : (p : ℕ) → MalformedAt deck p → rows_in deck ≡ refused malformed_deck p
  refused_rows p m = ap (λ (x : Said (Unit {0})). x >> says (contents_of deck)) ((malformed_exactly deck p).1 m)

  -- the rows of a deck, or where it is malformed
  pub data Reads : Said (List Row) → Type 0 where
    taken : Sound deck → Reads (says (contents_of deck))
    stopped : (p : ℕ) → MalformedAt deck p → Reads (refused malformed_deck p)

  pub reads : Reads (rows_in deck)
  reads = go (rows_in deck) refl
    where
      go : (x : Said (List Row)) → rows_in deck ≡ x → Reads x
      go (says rows) e = let (s, at) = sound deck rows e in rw at (taken s)
      go (refused r p) e = let (a, m) = rows_refused r p e in rw a (stopped p m)

  -- a card among the rows, or none
  pub data Seeks (number : ℕ) : Said Row → Type 0 where
    hit : (i : ℕ) → LiveAt deck number i → Seeks number (says (entry_at deck i))
    miss : NoLive deck number → Seeks number (refused no_live_card 0)

  pub seeks : (number : ℕ) → Seeks number (live_row number (contents_of deck))
  seeks number = go (live_row number (contents_of deck)) refl
    where
      go : (x : Said Row) → live_row number (contents_of deck) ≡ x → Seeks number x
      go (says r) e = let (i, l, at) = row_live deck number r e in rw at (hit i l)
      go (refused r p) e = let (a, b, h) = row_none deck number r p e in rw (a, b) (miss h)

  pub rows_malformed : (p : ℕ) → (rows_in deck ≡ refused malformed_deck p) ↔ MalformedAt deck p
  rows_malformed p = (λ e. (rows_refused malformed_deck p e).1, refused_rows p)

-- something else said of what is said
module _ {A B : Type 0} (f : A → B) where
  pub saying_says : (x : Said A) (b : B) → (saying f x ≡ says b) ↔ ((a : A) × (x ≡ says a) × (b ≡ f a))
  saying_says (says a) b = (λ e. (a, refl, sym (same_said e)), λ h. rw (same_said h.1, sym h.2))
  saying_says (refused r p) b = (λ e. says≢refused (sym e), λ h. says≢refused (sym h.1))

  pub saying_refused : (x : Said A) (r p : ℕ) → (saying f x ≡ refused r p) ↔ (x ≡ refused r p)
  saying_refused (says a) r p = (λ e. says≢refused e, λ e. says≢refused e)
  saying_refused (refused s q) r p = (λ e. rw (same_number e, same_place e), λ e. rw (same_number e, same_place e))

-- the bytes of a part of it
module _ (deck : List ℕ) (number : ℕ) where
  pub find_located : find deck number ≡ saying (part_bytes deck []) (located deck number)
  find_located = go (rows_in deck)
    where
      bytes_of : (y : Said Row) → saying (body_of deck) y ≡ saying (part_bytes deck []) (saying (part_for the_base) y)
      bytes_of (says r) = refl
      bytes_of (refused r p) = refl

      go : (x : Said (List Row)) → (x >>= (λ (rows : List Row). says (map (entry_of deck) rows))) >>= live_in number
          ≡ saying (part_bytes deck []) (x >>= (λ (rows : List Row). saying (part_for the_base) (live_row number rows)))
      go (says rows) = body_row deck number rows ∙ bytes_of (live_row number rows)
      go (refused r p) = refl

  -- what a lookup in one deck says, by cases
  pub data Looks : Said Part → Type 0 where
    malformed : (p : ℕ) → MalformedAt deck p → Looks (refused malformed_deck p)
    given : Sound deck → (i : ℕ) → LiveAt deck number i → Looks (says (part_for the_base (entry_at deck i)))
    none : Sound deck → NoLive deck number → Looks (refused no_live_card 0)

  pub looks : Looks (located deck number)
  looks = go (rows_in deck) (reads deck)
    where
      sought : Sound deck → (y : Said Row) → Seeks deck number y → Looks (saying (part_for the_base) y)
      sought s (says r) (hit i l) = given s i l
      sought s (refused r p) (miss h) = none s h

      go : (x : Said (List Row)) → Reads deck x → Looks (x >>= (λ (rows : List Row). saying (part_for the_base) (live_row number rows)))
      go (says rows) (taken s) = sought s (live_row number (contents_of deck)) (seeks deck number)
      go (refused r p) (stopped q m) = malformed q m

  -- each case exactly
  pub located_here : (part : Part)
      → (located deck number ≡ says part) ↔ (Sound deck × ((i : ℕ) × LiveAt deck number i × (part ≡ part_for the_base (entry_at deck i))))
  located_here part = (λ e. forth _ looks e, λ h. back h.0 h.1.0 h.1.1 h.1.2 _ looks)
    where
      forth : (x : Said Part) → Looks x → x ≡ says part → Sound deck × ((i : ℕ) × LiveAt deck number i × (part ≡ part_for the_base (entry_at deck i)))
      forth x (malformed p m) e = says≢refused (sym e)
      forth x (given s i l) e = (s, (i, l, sym (same_said e)))
      forth x (none s h) e = says≢refused (sym e)

      back : Sound deck → (i : ℕ) → LiveAt deck number i → part ≡ part_for the_base (entry_at deck i) → (x : Said Part) → Looks x → x ≡ says part
      back t i l e x (malformed p m) = absurd (sound_nowhere deck t m)
      back t i l e x (given s j m) =
          let same = one_number deck t j i m.inside l.inside (m.named ∙ sym l.named) in
          ap (λ (k : ℕ). says (part_for the_base (entry_at deck k))) same ∙ ap says (sym e)
      back t i l e x (none s h) = absurd (h i l)

  pub located_nowhere : (p : ℕ) → (located deck number ≡ refused no_live_card p) ↔ (Sound deck × NoLive deck number × (p ≡ 0))
  located_nowhere p = (λ e. forth _ looks e, λ h. back h.0 h.1 h.2 _ looks)
    where
      forth : (x : Said Part) → Looks x → x ≡ refused no_live_card p → Sound deck × NoLive deck number × (p ≡ 0)
      forth x (malformed q m) e = absurd (omega (arith, same_number e))
      forth x (given s i l) e = says≢refused e
      forth x (none s h) e = (s, h, sym (same_place e))

      back : Sound deck → NoLive deck number → p ≡ 0 → (x : Said Part) → Looks x → x ≡ refused no_live_card p
      back t h z x (malformed q m) = absurd (sound_nowhere deck t m)
      back t h z x (given s i l) = absurd (h i l)
      back t h z x (none s _) = rw z

  pub located_bad : (p : ℕ) → (located deck number ≡ refused malformed_deck p) ↔ MalformedAt deck p
  located_bad p = (λ e. forth _ looks e, λ h. back h _ looks)
    where
      forth : (x : Said Part) → Looks x → x ≡ refused malformed_deck p → MalformedAt deck p
      forth x (malformed q m) e = let z : q ≡ p = same_place e in rw (sym z) m
      forth x (given s i l) e = says≢refused e
      forth x (none s h) e = absurd (omega (arith, same_number e))

      back : MalformedAt deck p → (x : Said Part) → Looks x → x ≡ refused malformed_deck p
      back m x (malformed q n) = let z : q ≡ p = one_place deck n m in rw z
      back m x (given s i l) = absurd (sound_nowhere deck s m)
      back m x (none s h) = absurd (sound_nowhere deck s m)

  -- no other refusal
  pub located_one_of : (r p : ℕ) → located deck number ≡ refused r p → (r ≡ malformed_deck) ⊎ (r ≡ no_live_card)
  located_one_of r p e = go _ looks e
    where
      go : (x : Said Part) → Looks x → x ≡ refused r p → (r ≡ malformed_deck) ⊎ (r ≡ no_live_card)
      go x (malformed q m) e = inl (sym (same_number e))
      go x (given s i l) e = says≢refused e
      go x (none s h) e = inr (sym (same_number e))

-- ---- a deck and its expansion

module _ (base expansion : List ℕ) (number : ℕ) where
  pub find_with_located : find_with base expansion number ≡ saying (part_bytes base expansion) (located_with base expansion number)
  find_with_located = go (rows_in base) (rows_in expansion)
    where
      bytes_of : (x y : Said Row) → or_else (saying (body_of expansion) x) (saying (body_of base) y)
          ≡ saying (part_bytes base expansion) (or_else (saying (part_for the_expansion) x) (saying (part_for the_base) y))
      bytes_of (says r) y = refl
      bytes_of (refused n p) (says r) = refl
      bytes_of (refused n p) (refused m q) = refl

      both : (b x : List Row) → or_else (live_in number (map (entry_of expansion) x)) (live_in number (map (entry_of base) b))
          ≡ saying (part_bytes base expansion) (or_else (saying (part_for the_expansion) (live_row number x)) (saying (part_for the_base) (live_row number b)))
      both b x =
          ap (λ (y : Said (List ℕ)). or_else y (live_in number (map (entry_of base) b))) (body_row expansion number x)
          ∙ ap (λ (y : Said (List ℕ)). or_else (saying (body_of expansion) (live_row number x)) y) (body_row base number b)
          ∙ bytes_of (live_row number x) (live_row number b)

      go : (b x : Said (List Row))
          → (b >>= (λ (rows : List Row). says (map (entry_of base) rows)))
          >>= (λ (es : List Entry). placed_from expansion_from (x >>= (λ (rows : List Row). says (map (entry_of expansion) rows)))
          >>= (λ (fs : List Entry). or_else (live_in number fs) (live_in number es)))
          ≡ saying (part_bytes base expansion)
          (b >>= (λ (bs : List Row). placed_from expansion_from x
          >>= (λ (xs : List Row). or_else (saying (part_for the_expansion) (live_row number xs)) (saying (part_for the_base) (live_row number bs)))))
      go (refused r p) x = refl
      go (says bs) (refused r p) = refl
      go (says bs) (says xs) = both bs xs

  -- the expansion's entry, or the base's
  abbrev sought : Said Row → Said Row → Said Part
  sought x b = or_else (saying (part_for the_expansion) x) (saying (part_for the_base) b)

  -- what a lookup in both says, by cases
  pub data LooksWith : Said Part → Type 0 where
    bad_base : (p : ℕ) → MalformedAt base p → LooksWith (refused malformed_deck p)
    bad_expansion : Sound base → (q : ℕ) → MalformedAt expansion q → LooksWith (refused malformed_deck (q + expansion_from))
    given_with : BothSound base expansion → (part : Part) → Gives base expansion number part → LooksWith (says part)
    none_with : BothSound base expansion → NoLive expansion number → NoLive base number → LooksWith (refused no_live_card 0)

  pub looks_with : LooksWith (located_with base expansion number)
  looks_with = go (rows_in base) (reads base) (rows_in expansion) (reads expansion)
    where
      both : BothSound base expansion → (x : Said Row) → Seeks expansion number x → (b : Said Row) → Seeks base number b → LooksWith (sought x b)
      both s (says r) (hit i l) b y = given_with s _ (from_expansion i l)
      both s (refused r p) (miss h) (says k) (hit i l) = given_with s _ (from_base h i l)
      both s (refused r p) (miss h) (refused m q) (miss k) = none_with s h k

      go : (b : Said (List Row)) → Reads base b → (x : Said (List Row)) → Reads expansion x
          → LooksWith (b >>= (λ (bs : List Row). placed_from expansion_from x >>= (λ (xs : List Row). sought (live_row number xs) (live_row number bs))))
      go (refused r p) (stopped q m) x y = bad_base q m
      go (says bs) (taken s) (refused r p) (stopped q m) = bad_expansion s q m
      go (says bs) (taken s) (says xs) (taken t) =
          both (s, t) (live_row number (contents_of expansion)) (seeks expansion number) (live_row number (contents_of base)) (seeks base number)

  -- a number gives one part at most
  gives_one : BothSound base expansion → {a b : Part} → Gives base expansion number a → Gives base expansion number b → a ≡ b
  gives_one s (from_expansion i l) (from_expansion j m) =
      ap (λ (k : ℕ). part_for the_expansion (entry_at expansion k)) (one_number expansion s.1 i j l.inside m.inside (l.named ∙ sym m.named))
  gives_one s (from_expansion i l) (from_base h j m) = absurd (h i l)
  gives_one s (from_base h j m) (from_expansion i l) = absurd (h i l)
  gives_one s (from_base h i l) (from_base k j m) =
      ap (λ (k : ℕ). part_for the_base (entry_at base k)) (one_number base s.0 i j l.inside m.inside (l.named ∙ sym m.named))

  none_gives : NoLive expansion number → NoLive base number → {a : Part} → Gives base expansion number a → ⊥
  none_gives h k (from_expansion i l) = h i l
  none_gives h k (from_base _ i l) = k i l

  -- each case exactly
  pub located_exactly : (part : Part) → (located_with base expansion number ≡ says part) ↔ (BothSound base expansion × Gives base expansion number part)
  located_exactly part = (λ e. forth _ looks_with e, λ h. back h.0 h.1 _ looks_with)
    where
      forth : (x : Said Part) → LooksWith x → x ≡ says part → BothSound base expansion × Gives base expansion number part
      forth x (bad_base p m) e = says≢refused (sym e)
      forth x (bad_expansion s q m) e = says≢refused (sym e)
      forth x (given_with s a g) e = (s, rw (sym (same_said e)) g)
      forth x (none_with s h k) e = says≢refused (sym e)

      back : BothSound base expansion → Gives base expansion number part → (x : Said Part) → LooksWith x → x ≡ says part
      back t w x (bad_base p m) = absurd (sound_nowhere base t.0 m)
      back t w x (bad_expansion s q m) = absurd (sound_nowhere expansion t.1 m)
      back t w x (given_with s a g) = ap says (gives_one t g w)
      back t w x (none_with s h k) = absurd (none_gives h k w)

  pub located_none : (p : ℕ) → (located_with base expansion number ≡ refused no_live_card p)
      ↔ (BothSound base expansion × NoLive expansion number × NoLive base number × (p ≡ 0))
  located_none p = (λ e. forth _ looks_with e, λ h. back h.0 h.1 h.2 h.3 _ looks_with)
    where
      forth : (x : Said Part) → LooksWith x → x ≡ refused no_live_card p → BothSound base expansion × NoLive expansion number × NoLive base number × (p ≡ 0)
      forth x (bad_base q m) e = absurd (omega (arith, same_number e))
      forth x (bad_expansion s q m) e = absurd (omega (arith, same_number e))
      forth x (given_with s a g) e = says≢refused e
      forth x (none_with s h k) e = (s, h, k, sym (same_place e))

      back : BothSound base expansion → NoLive expansion number → NoLive base number → p ≡ 0 → (x : Said Part) → LooksWith x → x ≡ refused no_live_card p
      back t h k z x (bad_base q m) = absurd (sound_nowhere base t.0 m)
      back t h k z x (bad_expansion s q m) = absurd (sound_nowhere expansion t.1 m)
      back t h k z x (given_with s a g) = absurd (none_gives h k g)
      back t h k z x (none_with s _ _) = rw z

  -- the expansion's places count from behind all of the base's
  moved : {p q : ℕ} → Sound base → MalformedAt expansion q → p ≡ q + expansion_from → EitherMalformed base expansion p
  moved {p} {q} s m e = inr (s, (q, m, e))

  pub located_malformed : (p : ℕ) → (located_with base expansion number ≡ refused malformed_deck p) ↔ EitherMalformed base expansion p
  located_malformed p = (λ e. forth _ looks_with e, λ h. back h _ looks_with)
    where
      forth : (x : Said Part) → LooksWith x → x ≡ refused malformed_deck p → EitherMalformed base expansion p
      forth x (bad_base q m) e = let z : q ≡ p = same_place e in inl (rw (sym z) m)
      forth x (bad_expansion s q m) e = moved s m (sym (same_place e))
      forth x (given_with s a g) e = says≢refused e
      forth x (none_with s h k) e = absurd (omega (arith, same_number e))

      back : EitherMalformed base expansion p → (x : Said Part) → LooksWith x → x ≡ refused malformed_deck p
      back (inl m) x (bad_base q n) = let z : q ≡ p = one_place base n m in rw z
      back (inl m) x (bad_expansion s q n) = absurd (sound_nowhere base s m)
      back (inl m) x (given_with s a g) = absurd (sound_nowhere base s.0 m)
      back (inl m) x (none_with s h k) = absurd (sound_nowhere base s.0 m)
      back (inr (t, (o, m, e))) x (bad_base q n) = absurd (sound_nowhere base t n)
      back (inr (t, (o, m, e))) x (bad_expansion s q n) = let z : q ≡ o = one_place expansion n m in rw (e, z)
      back (inr (t, (o, m, e))) x (given_with s a g) = absurd (sound_nowhere expansion s.1 m)
      back (inr (t, (o, m, e))) x (none_with s h k) = absurd (sound_nowhere expansion s.1 m)

  -- no other refusal
  pub located_numbers : (r p : ℕ) → located_with base expansion number ≡ refused r p → (r ≡ malformed_deck) ⊎ (r ≡ no_live_card)
  located_numbers r p e = go _ looks_with e
    where
      go : (x : Said Part) → LooksWith x → x ≡ refused r p → (r ≡ malformed_deck) ⊎ (r ≡ no_live_card)
      go x (bad_base q m) e = inl (sym (same_number e))
      go x (bad_expansion s q m) e = inl (sym (same_number e))
      go x (given_with s a g) e = says≢refused e
      go x (none_with s h k) e = inr (sym (same_number e))

-- ---- the bytes, each case exactly

along : {A : Type 0} {x y z : A} → x ≡ y → (x ≡ z) ↔ (y ≡ z)
along e = (λ h. sym e ∙ h, λ h. e ∙ h)

module _ (deck : List ℕ) (number : ℕ) where
  pub find_exactly : (t : List ℕ) → (find deck number ≡ says t) ↔ (Sound deck × ((i : ℕ) × LiveAt deck number i × (t ≡ body_of deck (entry_at deck i))))
  find_exactly t = along (find_located deck number) ↔∙ saying_says (part_bytes deck []) (located deck number) t ↔∙ (forth, back)
    where
      forth : ((p : Part) × (located deck number ≡ says p) × (t ≡ part_bytes deck [] p))
          → Sound deck × ((i : ℕ) × LiveAt deck number i × (t ≡ body_of deck (entry_at deck i)))
      forth (p, e, k) =
          let h = (located_here deck number p).0 e in
          (h.0, (h.1.0, h.1.1, k ∙ ap (part_bytes deck []) h.1.2))

      back : Sound deck × ((i : ℕ) × LiveAt deck number i × (t ≡ body_of deck (entry_at deck i)))
          → (p : Part) × (located deck number ≡ says p) × (t ≡ part_bytes deck [] p)
      back (s, (i, l, k)) = (part_for the_base (entry_at deck i), (located_here deck number _).1 (s, (i, l, refl)), k)

  pub find_none : (p : ℕ) → (find deck number ≡ refused no_live_card p) ↔ (Sound deck × NoLive deck number × (p ≡ 0))
  find_none p = along (find_located deck number) ↔∙ saying_refused (part_bytes deck []) (located deck number) no_live_card p ↔∙ located_nowhere deck number p

  pub find_malformed : (p : ℕ) → (find deck number ≡ refused malformed_deck p) ↔ MalformedAt deck p
  find_malformed p = along (find_located deck number) ↔∙ saying_refused (part_bytes deck []) (located deck number) malformed_deck p ↔∙ located_bad deck number p

  pub find_numbers : (r p : ℕ) → find deck number ≡ refused r p → (r ≡ malformed_deck) ⊎ (r ≡ no_live_card)
  find_numbers r p e = located_one_of deck number r p ((saying_refused (part_bytes deck []) (located deck number) r p).0 (sym (find_located deck number) ∙ e))

module _ (base expansion : List ℕ) (number : ℕ) where
  pub with_exactly : (t : List ℕ) → (find_with base expansion number ≡ says t)
      ↔ (BothSound base expansion × ((p : Part) × Gives base expansion number p × (t ≡ part_bytes base expansion p)))
  with_exactly t = along (find_with_located base expansion number) ↔∙ saying_says (part_bytes base expansion) (located_with base expansion number) t ↔∙ (forth, back)
    where
      forth : ((p : Part) × (located_with base expansion number ≡ says p) × (t ≡ part_bytes base expansion p))
          → BothSound base expansion × ((p : Part) × Gives base expansion number p × (t ≡ part_bytes base expansion p))
      forth (p, e, k) = let h = (located_exactly base expansion number p).0 e in (h.0, (p, h.1, k))

      back : BothSound base expansion × ((p : Part) × Gives base expansion number p × (t ≡ part_bytes base expansion p))
          → (p : Part) × (located_with base expansion number ≡ says p) × (t ≡ part_bytes base expansion p)
      back (s, (p, g, k)) = (p, (located_exactly base expansion number p).1 (s, g), k)

  pub with_none : (p : ℕ) → (find_with base expansion number ≡ refused no_live_card p)
      ↔ (BothSound base expansion × NoLive expansion number × NoLive base number × (p ≡ 0))
  with_none p =
      along (find_with_located base expansion number)
      ↔∙ saying_refused (part_bytes base expansion) (located_with base expansion number) no_live_card p
      ↔∙ located_none base expansion number p

  pub with_malformed : (p : ℕ) → (find_with base expansion number ≡ refused malformed_deck p) ↔ EitherMalformed base expansion p
  with_malformed p =
      along (find_with_located base expansion number)
      ↔∙ saying_refused (part_bytes base expansion) (located_with base expansion number) malformed_deck p
      ↔∙ located_malformed base expansion number p

  pub with_numbers : (r p : ℕ) → find_with base expansion number ≡ refused r p → (r ≡ malformed_deck) ⊎ (r ≡ no_live_card)
  with_numbers r p e =
      located_numbers base expansion number r p
      ((saying_refused (part_bytes base expansion) (located_with base expansion number) r p).0 (sym (find_with_located base expansion number) ∙ e))

  -- a part lies inside the deck that holds it
  pub gives_inside : BothSound base expansion → {p : Part} → Gives base expansion number p
      → p.offset + p.size ≤ length (when eqb p.which the_expansion then expansion else base)
  gives_inside s (from_expansion i l) = (s.1.each i l.inside).ends
  gives_inside s (from_base h i l) = (s.0.each i l.inside).ends
