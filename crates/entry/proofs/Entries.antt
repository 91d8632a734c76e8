-- What an entry's promise says: which refusal and which value is answered, and that a refusal leaves the lent memory as it was; and for a text
-- in a room, by number. Assumes nothing.
use Prim.Native.Nat.{ℕ, ◌≤◌, ◌<◌}
use mathlib.Core.Path.{◌≡◌, refl, sym, ap, ◌∙◌}
use mathlib.Core.Bool.{true, false}
use mathlib.Core.Logic.{◌↔◌, ◌⊎◌, inl, inr}
use mathlib.Core.List.{List}
use native.Mathlib.Decide.{dec_le}
use native.Mathlib.Omega.{arith}
use lib.Dec.{leb}
use borrow.Author.Tests.{le-leb, lt-leb, leb-true, leb-false}
use lib.ListN.{length}
use Rattle.card.specs.Refusals.{room_too_small}
use Rattle.entry.specs.Said.{Said, says, refused, ◌>>=◌, ◌>>◌}
use Rattle.entry.specs.Numbers.{Numbers, only, among, Among}
use Rattle.entry.specs.Contract.{Ends, valued, left, Enters, fits, onto, stored, in_room, Two, two, stored_both, in_rooms, lent_nothing, Faithful, InRoom, InRooms}
use Rattle.entry.specs.Stage.{Stage}
use Rattle.entry.proofs.Exactly.{◌↔∙◌, under}
use Rattle.entry.proofs.Stages.{says≢refused, same_number, same_place, same_said, first, after, either, refused_unless, passes_unless, among_unless, among_says, among_then, silent}

-- ---- any entry

module _ {A M : Type 0} where
  valued_refused : (z : Said (Ends A M)) (r p : ℕ) → (valued z ≡ refused r p) ↔ (z ≡ refused r p)
  valued_refused (says e) r p = (λ h. says≢refused h, λ h. says≢refused h)
  valued_refused (refused s q) r p = (λ h. rw (same_number h, same_place h), λ h. rw (same_number h, same_place h))

  valued_says : (z : Said (Ends A M)) (a : A) → (valued z ≡ says a) ↔ ((e : Ends A M) × (z ≡ says e) × (a ≡ e.value))
  valued_says (says e) a = (λ h. (e, refl, sym (same_said h)), λ h. rw (h.2, same_said h.1))
  valued_says (refused s q) a = (λ h. says≢refused (sym h), λ h. says≢refused (sym h.1))

module _ {A M S T : Type 0} {store : M → S → Said (Ends A M)} {tell : Said A → T} where
  -- two answers and memories that keep it are the same
  pub enters_unique : {was is₁ is₂ : M} {said : S} {a₁ a₂ : T} → Enters store tell was is₁ said a₁ → Enters store tell was is₂ said a₂ → (a₁ ≡ a₂) × (is₁ ≡ is₂)
  enters_unique p q = (p.answers ∙ sym q.answers, p.leaves ∙ sym q.leaves)

  module _ {was is : M} {said : S} {answer : T} (e : Enters store tell was is said answer) where
    pub ends_left : {y : Ends A M} → store was said ≡ says y → is ≡ y.memory
    ends_left h = e.leaves ∙ ap (left was) h

    module _ (faithful : Faithful tell) where
      pub answer_refused : (r p : ℕ) → (answer ≡ tell (refused r p)) ↔ (store was said ≡ refused r p)
      answer_refused r p =
          (λ h. faithful (valued (store was said)) (refused r p) (sym e.answers ∙ h), λ h. e.answers ∙ ap tell h) ↔∙ valued_refused (store was said) r p

      pub answer_says : (a : A) → (answer ≡ tell (says a)) ↔ ((y : Ends A M) × (store was said ≡ says y) × (a ≡ y.value))
      answer_says a = (λ h. faithful (valued (store was said)) (says a) (sym e.answers ∙ h), λ h. e.answers ∙ ap tell h) ↔∙ valued_says (store was said) a

      -- a refusal leaves the lent memory as it was
      pub refused_left : (r p : ℕ) → answer ≡ tell (refused r p) → is ≡ was
      refused_left r p h = e.leaves ∙ ap (left was) ((answer_refused r p).0 h)

-- nothing is lent: what is said is told
module _ {A T : Type 0} {tell : Said A → T} (faithful : Faithful tell) {said : Said A} {answer : T} (e : Enters lent_nothing tell tt tt said answer) where
  pub says_exactly : (a : A) → (answer ≡ tell (says a)) ↔ (said ≡ says a)
  says_exactly a = (λ h. faithful said (says a) (sym told ∙ h), λ h. told ∙ ap tell h)
    where
      same : (s : Said A) → valued (lent_nothing tt s) ≡ s
      same (says b) = refl
      same (refused r p) = refl

      told : answer ≡ tell said
      told = e.answers ∙ ap tell (same said)

  pub refused_exactly : (r p : ℕ) → (answer ≡ tell (refused r p)) ↔ (said ≡ refused r p)
  refused_exactly r p = answer_refused e faithful r p ↔∙ first said (λ (a : A). says _) r p (λ _ h. says≢refused h)

-- ---- a text in a room

pub fits_exactly : (was t : List ℕ) → (leb (length t) (length was) ≡ true) ↔ (length t ≤ length was)
fits_exactly was t = (leb-true (length t) (length was), le-leb (length t) (length was))

pub longer_exactly : (was t : List ℕ) → (leb (length t) (length was) ≡ false) ↔ (length was < length t)
longer_exactly was t = (leb-false (length t) (length was), lt-leb (length t) (length was))

pub among_stored : (was t : List ℕ) → Among (only room_too_small) (stored was t)
among_stored was t = among_then (fits was t) (λ _. says _) (among_unless (leb (length t) (length was)) room_too_small (length t)) (λ _. among_says _)

stored_small : (was t : List ℕ) (p : ℕ) → (stored was t ≡ refused room_too_small p) ↔ ((length was < length t) × (p ≡ length t))
stored_small was t p =
    first (fits was t) (λ _. says _) room_too_small p (λ _ e. says≢refused e)
    ↔∙ refused_unless room_too_small (length t) (leb (length t) (length was)) p
    ↔∙ (λ h. ((longer_exactly was t).0 h.0, h.1), λ h. ((longer_exactly was t).1 h.0, h.1))

stored_fits : (was t : List ℕ) → length t ≤ length was → stored was t ≡ says (record { value = length t; memory = onto t was })
stored_fits was t h = rw (le-leb (length t) (length was) h)

stored_says : (was t : List ℕ) (y : Ends ℕ (List ℕ)) → stored was t ≡ says y → (length t ≤ length was) × (y.value ≡ length t)
stored_says was t y h = go (dec_le (length t) (length was))
  where
    go : Dec (length t ≤ length was) → (length t ≤ length was) × (y.value ≡ length t)
    go (yes l) = (l, ap (λ (z : Ends ℕ (List ℕ)). z.value) (same_said (sym h ∙ stored_fits was t l)))
    go (no l) = says≢refused (sym h ∙ (stored_small was t (length t)).1 (omega arith, refl))

module _ {T : Type 0} {tell : Said ℕ → T} (faithful : Faithful tell) {was is : List ℕ} {said : Said (List ℕ)} {answer : T} (e : Enters in_room tell was is said answer) where
  -- any other refusal is that of the stages before
  pub before_room : (r p : ℕ) → among (only room_too_small) r ≡ false → (answer ≡ tell (refused r p)) ↔ (said ≡ refused r p)
  before_room r p h = answer_refused e faithful r p ↔∙ first said (stored was) r p (λ t. silent (among_stored was t) r p h)

  module _ {ns : Numbers} {W : Type 0} {f : W → List ℕ} (s : Stage said ns W f) (h : among ns room_too_small ≡ false) where
    pub in_room_law : InRoom tell W f was is answer
    in_room_law = record {
      small_room = λ p.
          answer_refused e faithful room_too_small p
          ↔∙ after said (stored was) s.found room_too_small p (silent s.numbers room_too_small p h)
          ↔∙ (λ z. (z.0, ((stored_small was (f z.0) p).0 z.1).0, ((stored_small was (f z.0) p).0 z.1).1), λ z. (z.0, (stored_small was (f z.0) p).1 (z.1, z.2)));
      done = λ long. answer_says e faithful long ↔∙ (λ z. forth long z.0 z.1 z.2, λ z. (_, there z.0 z.1, z.2));
      stands = λ w l. ends_left e (there w l);
      untouched = refused_left e faithful;
    }
      where
        there : (w : W) → length (f w) ≤ length was → in_room was said ≡ says (record { value = length (f w); memory = onto (f w) was })
        there w l = ap (λ (x : Said (List ℕ)). x >>= stored was) (s.found.each w) ∙ stored_fits was (f w) l

        forth : (long : ℕ) (y : Ends ℕ (List ℕ)) → in_room was said ≡ says y → long ≡ y.value → (w : W) × (length (f w) ≤ length was) × (long ≡ length (f w))
        forth long y k v = go said refl k
          where
            go : (x : Said (List ℕ)) → said ≡ x → in_room was x ≡ says y → (w : W) × (length (f w) ≤ length was) × (long ≡ length (f w))
            go (says t) z j =
                let (w, at) = s.found.only t z in
                let (l, u) = stored_says was (f w) y (ap (stored was) (sym at) ∙ j) in
                (w, l, v ∙ u)
            go (refused r p) z j = says≢refused (sym j)

-- ---- two texts in a room each

module _ (was t : Two (List ℕ)) where
  abbrev behind_first : Unit {0} → Said (Ends (Two ℕ) (Two (List ℕ)))
  behind_first _ = fits was.second t.second >> says (record { value = two (length t.first) (length t.second); memory = two (onto t.first was.first) (onto t.second was.second) })

  both_small : (p : ℕ) → (stored_both was t ≡ refused room_too_small p)
      ↔ (((length was.first < length t.first) × (p ≡ length t.first))
      ⊎ ((length t.first ≤ length was.first) × (length was.second < length t.second) × (p ≡ length t.second)))
  both_small p = either (fits was.first t.first) behind_first (passes_unless room_too_small (length t.first) (leb (length t.first) (length was.first))) room_too_small p ↔∙ (forth, back)
    where
      one : (w s : List ℕ) → (fits w s ≡ refused room_too_small p) ↔ ((length w < length s) × (p ≡ length s))
      one w s = refused_unless room_too_small (length s) (leb (length s) (length w)) p ↔∙ (λ h. ((longer_exactly w s).0 h.0, h.1), λ h. ((longer_exactly w s).1 h.0, h.1))

      last : (behind_first tt ≡ refused room_too_small p) ↔ ((length was.second < length t.second) × (p ≡ length t.second))
      last = first (fits was.second t.second) (λ _. says _) room_too_small p (λ _ h. says≢refused h) ↔∙ one was.second t.second

      forth : (fits was.first t.first ≡ refused room_too_small p) ⊎ ((w : leb (length t.first) (length was.first) ≡ true) × (behind_first tt ≡ refused room_too_small p))
          → ((length was.first < length t.first) × (p ≡ length t.first))
          ⊎ ((length t.first ≤ length was.first) × (length was.second < length t.second) × (p ≡ length t.second))
      forth (inl h) = inl ((one was.first t.first).0 h)
      forth (inr z) = inr ((fits_exactly was.first t.first).0 z.0, (last.0 z.1).0, (last.0 z.1).1)

      back : ((length was.first < length t.first) × (p ≡ length t.first))
          ⊎ ((length t.first ≤ length was.first) × (length was.second < length t.second) × (p ≡ length t.second))
          → (fits was.first t.first ≡ refused room_too_small p) ⊎ ((w : leb (length t.first) (length was.first) ≡ true) × (behind_first tt ≡ refused room_too_small p))
      back (inl h) = inl ((one was.first t.first).1 h)
      back (inr z) = inr ((fits_exactly was.first t.first).1 z.0, last.1 (z.1, z.2))

  both_fit : length t.first ≤ length was.first → length t.second ≤ length was.second
      → stored_both was t ≡ says (record { value = two (length t.first) (length t.second); memory = two (onto t.first was.first) (onto t.second was.second) })
  both_fit h k = rw (le-leb (length t.first) (length was.first) h, le-leb (length t.second) (length was.second) k)

module _ {T : Type 0} {tell : Said (Two ℕ) → T} (faithful : Faithful tell) {was is : Two (List ℕ)} {said : Said (Two (List ℕ))} {answer : T} (e : Enters in_rooms tell was is said answer)
    {ns : Numbers} {W : Type 0} {f : W → Two (List ℕ)} (s : Stage said ns W f) (h : among ns room_too_small ≡ false) where
  pub in_rooms_law : InRooms tell W f was is answer
  in_rooms_law = record {
    small_room = λ p. answer_refused e faithful room_too_small p ↔∙ after said (stored_both was) s.found room_too_small p (silent s.numbers room_too_small p h) ↔∙ under (λ w. both_small was (f w) p);
    stands = λ w j k. ((answer_says e faithful _).1 (_, there w j k, refl), ends_left e (there w j k));
    untouched = refused_left e faithful;
  }
    where
      there : (w : W) → length (f w).first ≤ length was.first → length (f w).second ≤ length was.second
          → in_rooms was said ≡ says (record { value = two (length (f w).first) (length (f w).second); memory = two (onto (f w).first was.first) (onto (f w).second was.second) })
      there w j k = ap (λ (x : Said (Two (List ℕ))). x >>= stored_both was) (s.found.each w) ∙ both_fit was (f w) j k
