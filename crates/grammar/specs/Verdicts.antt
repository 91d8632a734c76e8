-- What it is for a card to be taken, and for each of the refusals 1 to 7 and 17 to be given at a place ("Refusal numbers"), in terms of its
-- marks, the grammar, the limits and the rules. Assumes nothing.
use Rattle.std.specs.Prelude.{ℕ, ◌≤◌, ◌<◌, ◌≡◌, Bool, true, false, List, [], ◌∷◌, ◌++◌, length}
use Rattle.card.specs.Limits.{card_bytes}
use Rattle.card.specs.Card.{Card}
use Rattle.card.specs.Weight.{Rule}
use Rattle.card.specs.Valid.{Every}
use Rattle.marks_on_a_card.specs.Marks.{outside, Placed, placed, marks_of, place_of}
use Rattle.reading.specs.Reader.{Place, next_is}
use Rattle.reading.specs.Guard.{test_next}
use Rattle.reading.specs.Judgements.{Judgement, place_in}
use Rattle.reading.specs.Shape.{CardShape}
use Rattle.reading.specs.Checks.{judged_card, seats_in, card_in}
use Rattle.grammar.specs.Grammar.{CardSaid}
use Rattle.grammar.specs.Counted.{Counted, Within, FirstPast, counted_card}
use Rattle.grammar.specs.Rules.{Kept, Breaks}

-- ---- 1 and 2

abbrev pub Inside : List Placed → Type 0
Inside [] = Unit {0}
Inside (placed m p ∷ ms) = (m ≡ outside → ⊥) × Inside ms

-- no 1 and no 2
pub record Clean (s : List ℕ) : Type 0 where
  pub short : length s ≤ card_bytes
  pub inside : Inside (marks_of s)

pub record TooLong (s : List ℕ) (p : ℕ) : Type 0 where
  pub long : card_bytes < length s
  pub place : p ≡ 0

-- p is the place of the first mark outside the rules
pub record OutsideRules (s : List ℕ) (p : ℕ) : Type 0 where
  pub short : length s ≤ card_bytes
  pub before : List Placed
  pub after : List Placed
  pub split : marks_of s ≡ before ++ (placed outside p ∷ after)
  pub inside : Inside before

-- ---- 3: where nothing of a language goes on as these marks do

-- further marks, at any places, make such a shape of them
abbrev pub CompletableIn : {C : Type 0} → (Place → C → Type 0) → Place → Type 0
CompletableIn {C} Said ms = (post : Place) × (c : C) × Said (ms ++ post) c

-- with the next mark no completion is left; or none follows, and these are none
abbrev pub HopelessIn : {C : Type 0} → (Place → C → Type 0) → Place → Place → Type 0
HopelessIn {C} Said before [] = (c : C) → Said before c → ⊥
HopelessIn Said before (m ∷ after) = CompletableIn Said (before ++ (m ∷ [])) → ⊥

-- up to r the marks ms begin as one does, and at r they go on as none does
pub record UnfitIn {C : Type 0} (Said : Place → C → Type 0) (ms r : Place) : Type 0 where
  pub before : Place
  pub split : ms ≡ before ++ r
  pub possible : CompletableIn Said before
  pub impossible : HopelessIn Said before r

-- ---- 4: a mark that passes a limit

-- up to the mark at r the marks ms begin as one of the right shape does, in which that mark is the first to pass a limit. What follows it
-- there is left open, but for one thing: what is looked for behind an opening bracket
pub record PastIn {C Look : Type 0} (Said : Place → C → Type 0) (counts : (ms : Place) (c : C) → Said ms c → List Counted) (look : Place → Look) (ms r : Place) : Type 0 where
  pub before : Place
  pub mark : Placed
  pub after : Place
  pub split : ms ≡ before ++ (mark ∷ after)
  pub place : r ≡ mark ∷ after
  pub other : Place
  pub starts : next_is "(" (mark ∷ after) ≡ true → look after ≡ look other
  pub shape : C
  pub said : Said (before ++ (mark ∷ other)) shape
  pub past : FirstPast (counts (before ++ (mark ∷ other)) shape said) (mark ∷ other)

-- ---- on a card: whether an opening bracket starts a test is told by the mark behind it, and by whether the card shares a number, which its
-- second mark tells

abbrev pub shares : Place → Bool
shares [] = false
shares (m ∷ ms) = next_is "global" ms

abbrev pub counts_of : (ms : Place) (c : CardShape) → CardSaid ms c → List Counted
counts_of ms c d = counted_card d

abbrev pub UnfitAt : Place → Place → Type 0
UnfitAt ms r = UnfitIn CardSaid ms r

abbrev pub PastAt : Place → Place → Type 0
PastAt ms r = PastIn CardSaid counts_of (test_next (shares ms)) ms r

-- ---- 3 and 4 on a card, by place; a mark that passes a limit is still one of the shape, so no 3 stands before it or there

pub record PastLimit (s : List ℕ) (p : ℕ) : Type 0 where
  pub clean : Clean s
  pub at : Place
  pub past : PastAt (marks_of s) at
  pub place : place_of (length s) at ≡ p

pub record OutOfShape (s : List ℕ) (p : ℕ) : Type 0 where
  pub clean : Clean s
  pub at : Place
  pub unfit : UnfitAt (marks_of s) at
  pub place : place_of (length s) at ≡ p
  pub earlier : (q : ℕ) → q < p → PastLimit s q → ⊥

-- ---- no refusal 1 to 4

pub record Shaped (s : List ℕ) : Type 0 where
  pub clean : Clean s
  pub shape : CardShape
  pub said : CardSaid (marks_of s) shape
  pub within : Every Within (counted_card said)

-- on a card of this shape
abbrev pub KeptOn : CardShape → Judgement → Type 0
KeptOn c j = Kept (seats_in c) j

-- ---- 5, 6, 7 and 17, by the rule of a weight

pub data In {A : Type 0} (x : A) : List A → Type 0 where
  first : {xs : List A} → In x (x ∷ xs)
  later : {y : A} {xs : List A} → In x xs → In x (y ∷ xs)

-- a rule is broken at p to which refusal r is due, and all that stand earlier are kept
pub record Broken (decimals : Rule) (r : ℕ) (s : List ℕ) (p : ℕ) : Type 0 where
  pub shaped : Shaped s
  pub judgement : Judgement
  pub judged : In judgement (judged_card decimals shaped.shape)
  pub broken : Breaks (seats_in shaped.shape) r judgement
  pub place : place_of (length s) (place_in judgement) ≡ p
  pub earlier : (j : Judgement) → In j (judged_card decimals shaped.shape) → place_of (length s) (place_in j) < p → KeptOn shaped.shape j

-- ---- taken

pub record Accepted (decimals : Rule) (s : List ℕ) (c : Card) : Type 0 where
  pub shaped : Shaped s
  pub kept : Every (KeptOn shaped.shape) (judged_card decimals shaped.shape)
  pub card : c ≡ card_in shaped.shape
