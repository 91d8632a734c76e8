-- The promise of every entry: its answer and the lent memory afterwards are fixed by what it has to say; a refusal leaves the memory as it
-- was ("Refusal numbers"). Assumes nothing.
use Rattle.std.specs.Prelude.{ℕ, ◌<◌, ◌≤◌, ◌≡◌, Bool, true, false, ◌↔◌, ◌⊎◌, List, [], ◌++◌, map, leb, length, drop}
use Rattle.card.specs.Refusals.{room_too_small}
use Rattle.entry.specs.Said.{Said, says, refused, ◌>>=◌, ◌>>◌, return, unless}

-- how an entry ends where nothing is refused: the value answered, and the lent memory as it leaves it
pub record Ends (A M : Type 0) : Type 0 where
  pub value : A
  pub memory : M

module _ {A M : Type 0} where
  abbrev pub valued : Said (Ends A M) → Said A
  valued (says e) = says e.value
  valued (refused number place) = refused number place

  abbrev pub left : M → Said (Ends A M) → M
  left was (says e) = e.memory
  left was (refused number place) = was

-- the promise: `store` is the last stage, which says how what is said ends in the lent memory; `tell` makes the code's answer
pub record Enters {A M S T : Type 0} (store : M → S → Said (Ends A M)) (tell : Said A → T) (was is : M) (said : S) (answer : T) : Type 0 where
  pub answers : answer ≡ tell (valued (store was said))
  pub leaves : is ≡ left was (store was said)

-- ---- a text into a room, the last stage: 10, and its place is the length needed

abbrev pub fits : List ℕ → List ℕ → Said (Unit {0})
fits was t = unless (leb (length t) (length was)) room_too_small (length t)

-- a text at the start of a room; the bytes past it are as they were
abbrev pub onto : List ℕ → List ℕ → List ℕ
onto t was = t ++ drop (length t) was

abbrev pub stored : List ℕ → List ℕ → Said (Ends ℕ (List ℕ))
stored was t = fits was t >> return (record { value = length t; memory = onto t was })

abbrev pub in_room : List ℕ → Said (List ℕ) → Said (Ends ℕ (List ℕ))
in_room was said = said >>= stored was

-- ---- two texts into a room each: all or nothing, and the first room is judged first

pub record Two (A : Type 0) : Type 0 where
  pub first : A
  pub second : A

abbrev pub two : {A : Type 0} → A → A → Two A
two a b = record { first = a; second = b }

abbrev pub stored_both : Two (List ℕ) → Two (List ℕ) → Said (Ends (Two ℕ) (Two (List ℕ)))
stored_both was t = do
  fits was.first t.first
  fits was.second t.second
  return (record { value = two (length t.first) (length t.second); memory = two (onto t.first was.first) (onto t.second was.second) })

abbrev pub in_rooms : Two (List ℕ) → Said (Two (List ℕ)) → Said (Ends (Two ℕ) (Two (List ℕ)))
in_rooms was said = said >>= stored_both was

-- ---- nothing is lent: a number, yes or no, a part of what was handed in

abbrev pub lent_nothing : {A : Type 0} → Unit {0} → Said A → Said (Ends A (Unit {0}))
lent_nothing {A} was said = said >>= (λ (a : A). return (record { value = a; memory = tt }))

-- yes is 1 and no is 0
abbrev pub yes_no : Bool → ℕ
yes_no true = 1
yes_no false = 0

-- a refused lookup hands back an empty part
abbrev pub part_of : Said (List ℕ) → List ℕ
part_of (says part) = part
part_of (refused number place) = []

-- ---- a deck changed in place, and rows of numbers

-- the bytes past the new length become zero
abbrev pub in_place : List ℕ → Said (List ℕ) → Said (Ends ℕ (List ℕ))
in_place was said = said >>= (λ (deck : List ℕ). return (record { value = length deck; memory = deck ++ map (λ (b : ℕ). 0) (drop (length deck) was) }))

-- both rows hold what is said of them, and one number is answered
abbrev pub in_rows : Two (List ℕ) → Said (Ends ℕ (Two (List ℕ))) → Said (Ends ℕ (Two (List ℕ)))
in_rows was said = said

-- ---- what a text in a room promises, by number: W is what the stages found where they all pass, f the text of it

-- no two things said are told alike
abbrev pub Faithful : {A T : Type 0} → (Said A → T) → Type 0
Faithful {A} tell = (s t : Said A) → tell s ≡ tell t → s ≡ t

pub record InRoom {T : Type 0} (tell : Said ℕ → T) (W : Type 0) (f : W → List ℕ) (was is : List ℕ) (answer : T) : Type 0 where
  pub small_room : (place : ℕ) → (answer ≡ tell (refused room_too_small place)) ↔ ((w : W) × (length was < length (f w)) × (place ≡ length (f w)))
  pub done : (long : ℕ) → (answer ≡ tell (says long)) ↔ ((w : W) × (length (f w) ≤ length was) × (long ≡ length (f w)))
  pub stands : (w : W) → length (f w) ≤ length was → is ≡ onto (f w) was
  pub untouched : (number place : ℕ) → answer ≡ tell (refused number place) → is ≡ was

-- two texts: 10 at the first room's length needed, or, if that text fits, at the second's
pub record InRooms {T : Type 0} (tell : Said (Two ℕ) → T) (W : Type 0) (f : W → Two (List ℕ)) (was is : Two (List ℕ)) (answer : T) : Type 0 where
  pub small_room : (place : ℕ) → (answer ≡ tell (refused room_too_small place))
      ↔ ((w : W) × (((length was.first < length (f w).first) × (place ≡ length (f w).first))
      ⊎ ((length (f w).first ≤ length was.first) × (length was.second < length (f w).second) × (place ≡ length (f w).second))))
  pub stands : (w : W) → length (f w).first ≤ length was.first → length (f w).second ≤ length was.second
      → (answer ≡ tell (says (two (length (f w).first) (length (f w).second)))) × (is ≡ two (onto (f w).first was.first) (onto (f w).second was.second))
  pub untouched : (number place : ℕ) → answer ≡ tell (refused number place) → is ≡ was
