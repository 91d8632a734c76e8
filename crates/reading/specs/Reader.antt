-- A reader takes marks from the front of a card. Assumes nothing.
use Rattle.std.specs.Prelude.{ℕ, zero, suc, Bool, true, false, List, [], ◌∷◌}
use Prim.Native.String.{String}
use Rattle.std.proofs.Math.Option.{Option, none, some}
use Rattle.card.specs.Refusals.{out_of_shape, past_limit}
use Rattle.card.specs.Text.{bytes, same, when◌then◌else◌}
use Rattle.marks_on_a_card.specs.Marks.{Mark, text, seat, process, number, decimal, outside, Placed, placed}

-- a place on the card, as the marks from there on
abbrev pub Place : Type 0
Place = List Placed

-- the marks not yet read, and how many guard nodes the statement may still have
pub record State : Type 0 where
  pub marks : Place
  pub nodes : ℕ

abbrev pub at : Place → ℕ → State
at ms n = record { marks = ms; nodes = n }

-- a value and the state behind it; or a refusal's number and place
pub data Result (A : Type 0) : Type 0 where
  ok : A → State → Result A
  stop : ℕ → Place → Result A

abbrev pub Reader : Type 0 → Type 0
Reader A = State → Result A

module _ {A B : Type 0} where
  abbrev pub bind : Result A → (A → Reader B) → Result B
  bind (ok a s) f = f a s
  bind (stop r p) f = stop r p

  infixl 10 ◌>>=◌ ◌>>◌
  abbrev pub ◌>>=◌ : Reader A → (A → Reader B) → Reader B
  ◌>>=◌ p f = λ s. bind (p s) f

  abbrev pub ◌>>◌ : Reader A → Reader B → Reader B
  ◌>>◌ p q = λ s. bind (p s) (λ _. q)

module _ {A : Type 0} where
  abbrev pub return : A → Reader A
  return a = λ s. ok a s

  -- refuse here
  abbrev pub refuse : ℕ → Reader A
  refuse r = λ s. stop r s.marks

  -- refuse at a place passed before
  abbrev pub refuse_at : ℕ → Place → Reader A
  refuse_at r p = λ s. stop r p

  -- the next mark, if it fits; a mark that does not fit, or the end of the card, is out of shape
  abbrev pub took : Option A → Placed → Place → ℕ → Result A
  took none m ms n = stop out_of_shape (m ∷ ms)
  took (some a) m ms n = ok a (at ms n)

  abbrev pub first : (Mark → Option A) → Place → ℕ → Result A
  first f [] n = stop out_of_shape []
  first f (placed m p ∷ ms) n = took (f m) (placed m p) ms n

  abbrev pub the : (Mark → Option A) → Reader A
  the f = λ s. first f s.marks s.nodes

-- is the mark this sign or keyword?
abbrev pub is : String → Mark → Bool
is t (text s) = same s (bytes t)
is t (seat i) = false
is t (process i) = false
is t (number v) = false
is t (decimal v n f) = false
is t outside = false

abbrev pub next_is : String → Place → Bool
next_is t [] = false
next_is t (placed m p ∷ ms) = is t m

-- the one reader if the next mark is this sign or keyword, else the other
abbrev pub if_next : {A : Type 0} → String → Reader A → Reader A → Reader A
if_next t p q = λ s. (when next_is t s.marks then p else q) s

abbrev pub given : Bool → Option (Unit {0})
given true = some tt
given false = none

abbrev pub sign : String → Reader (Unit {0})
sign t = the (λ m. given (is t m))

abbrev pub seat_of : Mark → Option ℕ
seat_of (text s) = none
seat_of (seat i) = some i
seat_of (process i) = none
seat_of (number v) = none
seat_of (decimal v n f) = none
seat_of outside = none

abbrev pub process_of : Mark → Option ℕ
process_of (text s) = none
process_of (seat i) = none
process_of (process i) = some i
process_of (number v) = none
process_of (decimal v n f) = none
process_of outside = none

abbrev pub number_of : Mark → Option ℕ
number_of (text s) = none
number_of (seat i) = none
number_of (process i) = none
number_of (number v) = some v
number_of (decimal v n f) = none
number_of outside = none

abbrev pub here : Reader Place
here = λ s. ok s.marks s

-- a number or a word's number, with its place
pub record Numbered : Type 0 where
  pub value : ℕ
  pub place : Place

abbrev pub numbered : (Mark → Option ℕ) → Reader Numbered
numbered f = do
  p ← here
  v ← the f
  return (record { value = v; place = p })

-- one more guard node, whose mark is at p
abbrev pub spend : Place → Place → ℕ → Result (Unit {0})
spend p ms zero = stop past_limit p
spend p ms (suc n) = ok tt (at ms n)

abbrev pub node_at : Place → Reader (Unit {0})
node_at p = λ s. spend p s.marks s.nodes

-- whose mark is the next
abbrev pub node : Reader (Unit {0})
node = λ s. spend s.marks s.marks s.nodes

-- ---- a run of marks that are fixed but for the numbers in words

pub data Item : Type 0 where
  exactly : String → Item
  seat_word process_word : Item

abbrev pub keep : Numbered → Reader (List Numbered) → Reader (List Numbered)
keep w rest = do
  ws ← rest
  return (w ∷ ws)

-- the words of the run, in order
abbrev pub line : List Item → Reader (List Numbered)
line [] = return []
line (exactly t ∷ items) = sign t >> line items
line (seat_word ∷ items) = numbered seat_of >>= λ w. keep w (line items)
line (process_word ∷ items) = numbered process_of >>= λ w. keep w (line items)
