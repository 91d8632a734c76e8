-- From the entry's promise to what C is told. Assumes nothing.
use Prim.Native.Nat.{ℕ}
use mathlib.Core.Path.{◌≡◌, refl, ap, ◌∙◌}
use mathlib.Core.List.{List}
use lib.ListN.{set}
use Rattle.entry.specs.Said.{Said, says, refused}
use Rattle.entry.specs.Contract.{Ends, valued, left, Two, in_rooms}
use Rattle.answers.specs.declared.OpenPanelAnswer.{OpenPanelAnswer}
use Rattle.mending.specs.Mending.{mend_said}
use Rattle.mended_rooms.specs.Mends.{Mended, Done, Refused, told, Mends}
use Rattle.mended_told.specs.LentRooms.{mended_numbers, list_length, Tells, LentRooms, lent, RoomsTold}

pub mend_told : {was is : Two (List ℕ)} (deck : List ℕ) {m : Mended} {length length' : List ℕ} {answer : OpenPanelAnswer}
    → Mends was is deck m → Tells m length length' answer → RoomsTold (lent was length) (lent is length') (mend_said deck) answer
mend_told {was} {is} deck {m} {length} {length'} {answer} p t = go (in_rooms was (mend_said deck)) refl
  where
    go : (z : Said (Ends (Two ℕ) (Two (List ℕ)))) → in_rooms was (mend_said deck) ≡ z → RoomsTold (lent was length) (lent is length') (mend_said deck) answer
    go (says e) k =
        let answered : m ≡ Done e.value.first e.value.second = p.answers ∙ ap (λ (x : Said (Ends (Two ℕ) (Two (List ℕ)))). told (valued x)) k in
        let rooms : is ≡ e.memory = p.leaves ∙ ap (left was) k in
        let long : length' ≡ list_length (Done e.value.first e.value.second) length = t.leaves ∙ ap (λ (x : Mended). list_length x length) answered in
        record { answers = t.answers ∙ ap mended_numbers answered ∙ rw k; leaves = rw (k, rooms, long) }
    go (refused number place) k =
        let answered : m ≡ Refused number place = p.answers ∙ ap (λ (x : Said (Ends (Two ℕ) (Two (List ℕ)))). told (valued x)) k in
        let rooms : is ≡ was = p.leaves ∙ ap (left was) k in
        let long : length' ≡ length = t.leaves ∙ ap (λ (x : Mended). list_length x length) answered in
        record { answers = t.answers ∙ ap mended_numbers answered ∙ rw k; leaves = rw (k, rooms, long) }

-- and back: what C is told is told of an answer that keeps the entry's promise
pub told_back : {was is : Two (List ℕ)} (deck : List ℕ) {length length' : List ℕ} {answer : OpenPanelAnswer}
    → RoomsTold (lent was length) (lent is length') (mend_said deck) answer → (m : Mended) × Mends was is deck m × Tells m length length' answer
told_back {was} {is} deck {length} {length'} {answer} p = go (in_rooms was (mend_said deck)) refl
  where
    memory : {a b : Two (List ℕ)} {k l : List ℕ} → lent a k ≡ lent b l → (a ≡ b) × (k ≡ l)
    memory e = (ap (λ (x : LentRooms). x.rooms) e, ap (λ (x : LentRooms). x.length) e)

    go : (z : Said (Ends (Two ℕ) (Two (List ℕ)))) → in_rooms was (mend_said deck) ≡ z → (m : Mended) × Mends was is deck m × Tells m length length' answer
    go (says e) k =
        let lefts : lent is length' ≡ lent e.memory (set length 0 e.value.second) = p.leaves ∙ rw k in
        let (rooms, long) = memory lefts in
        (Done e.value.first e.value.second, record { answers = rw k; leaves = rooms ∙ rw k }, record { answers = p.answers ∙ rw k; leaves = long })
    go (refused number place) k =
        let lefts : lent is length' ≡ lent was length = p.leaves ∙ rw k in
        let (rooms, long) = memory lefts in
        (Refused number place, record { answers = rw k; leaves = rooms ∙ rw k }, record { answers = p.answers ∙ rw k; leaves = long })
