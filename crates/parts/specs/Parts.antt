-- What a reader leaves behind it for what reading a part of a card finds: the next place, or a refusal, and the state. Assumes nothing.
use Rattle.std.specs.Prelude.{ℕ, ◌<◌, ◌≡◌, false, List, [], ◌∷◌, eqb, leb, length, Ok, Err, OnOk}
use Prim.Native.String.{String}
use Rattle.card.specs.Limits.{numbers}
use Rattle.card.specs.Refusals.{above_top, not_due}
use Rattle.marks_on_a_card.specs.Marks.{Mark, place_of}
use Rattle.marks_on_a_card.specs.Kinds.{k_end, k_seat, k_process, kind, kind_of}
use Rattle.marks.specs.Step.{marks_at}
use Rattle.reading.specs.Reader.{State, at, Result, ok, stop, is, sign as read_sign, number_of, Numbered, numbered, Item, exactly, seat_word, process_word, line}
use Rattle.reading.specs.Judgements.{Judgement, unless}
use Rattle.reading.specs.Checks.{judged_state, judged_words}
use Rattle.late.specs.Late.{Late, blamed, judge_all}
use Rattle.late.specs.declared.state.State.{State as Carried}
use Rattle.late.specs.State.{NextPlace, late_in, value_in, After, after, Halted}

-- the state of a reader at place i of the card s
abbrev pub from : List ℕ → ℕ → ℕ → State
from s i n = at (marks_at 0 s i) n

-- there is a next place, and the marks from there on are those left
abbrev pub Reaches : List ℕ → State → NextPlace → Type 0
Reaches s behind (Ok i) = marks_at 0 s i ≡ behind.marks
Reaches s behind (Err e) = ⊥

-- it was read, and this is so of it and of the state
pub record Read {A : Type 0} (s : List ℕ) (so : A → Carried → Type 0) (a : A) (behind : State) (r : After) : Type 0 where
  pub rest : Reaches s behind r.next
  pub told : so a r.state

abbrev pub Answers : {A : Type 0} → List ℕ → (A → Carried → Type 0) → Result A → After → Type 0
Answers s so (ok a behind) r = Read s so a behind r
Answers s so (stop n p) r = Halted n (place_of (length s) p) r

-- ---- a part with a number

-- what is judged in a part
abbrev pub Kept : List ℕ → Late → List Judgement → Carried → Type 0
Kept s before js state = late_in state ≡ judge_all (length s) js before

-- its number too
pub record Went (s : List ℕ) (before : Late) (v : ℕ) (js : List Judgement) (state : Carried) : Type 0 where
  pub value : value_in state ≡ v
  pub late : Kept s before js state

-- a state above k, and a word's number that is not due, are late refusals
abbrev pub state_by : ℕ → ℕ → ℕ → Late → Late
state_by k v p late = blamed (unless (leb v k) above_top) p late

abbrev pub word_by : ℕ → ℕ → ℕ → Late → Late
word_by due v p late = blamed (unless (eqb v due) not_due) p late

abbrev pub NumberRead : List ℕ → ℕ → Late → Result Numbered → After → Type 0
NumberRead s k before = Answers s (λ x. Went s before x.value (judged_state k x ∷ []))

-- from place i of the card on, however many guard nodes are left
pub record NumberFrom (s : List ℕ) (i k : ℕ) (before : Late) (r : After) : Type 0 where
  pub answers : (n : ℕ) → NumberRead s k before (numbered number_of (from s i n)) r
  pub small : OnOk r.next (value_in r.state < numbers)

-- ---- a sign or keyword

-- its kind tells it from every other mark and from the end
pub record Told (t : String) : Type 0 where
  pub mark : (m : Mark) → is t m ≡ eqb (kind_of m) (kind t)
  pub end : eqb k_end (kind t) ≡ false

-- the state stays as it was
abbrev pub SignRead : List ℕ → Carried → Result (Unit {0}) → After → Type 0
SignRead s was = Answers s (λ u state. state ≡ was)

pub record SignFrom (s : List ℕ) (i v : ℕ) (next : NextPlace) : Type 0 where
  pub answers : (t : String) → Told t → v ≡ kind t → (n : ℕ) (was : Carried) → SignRead s was (read_sign t (from s i n)) (after was next)

-- ---- a run of fixed marks

-- what is due: a sign or keyword, or a word with its number
pub data Due : Type 0 where
  sign : String → Due
  seat process : ℕ → Due

abbrev pub items_in : List Due → List Item
items_in [] = []
items_in (sign t ∷ run) = exactly t ∷ items_in run
items_in (seat i ∷ run) = seat_word ∷ items_in run
items_in (process i ∷ run) = process_word ∷ items_in run

abbrev pub dues_in : List Due → List ℕ
dues_in [] = []
dues_in (sign t ∷ run) = dues_in run
dues_in (seat i ∷ run) = i ∷ dues_in run
dues_in (process i ∷ run) = i ∷ dues_in run

-- the same in numbers for the code, mark by mark: the kind, and a word's number or 0 for a sign
abbrev pub marks_due : List Due → List (ℕ × ℕ)
marks_due [] = []
marks_due (sign t ∷ run) = (kind t, 0) ∷ marks_due run
marks_due (seat i ∷ run) = (k_seat, i) ∷ marks_due run
marks_due (process i ∷ run) = (k_process, i) ∷ marks_due run

abbrev pub Sure : List Due → Type 0
Sure [] = Unit {0}
Sure (sign t ∷ run) = Told t × Sure run
Sure (seat i ∷ run) = Sure run
Sure (process i ∷ run) = Sure run

abbrev pub LineRead : List ℕ → Late → List ℕ → Result (List Numbered) → After → Type 0
LineRead s before dues = Answers s (λ ws. Kept s before (judged_words dues ws))

pub record RunFrom (s : List ℕ) (i : ℕ) (dues : List (ℕ × ℕ)) (late : Late) (r : After) : Type 0 where
  pub answers : (run : List Due) → Sure run → dues ≡ marks_due run
      → (n : ℕ) → LineRead s late (dues_in run) (line (items_in run) (from s i n)) r
