-- Document 02's box of cards, its reading side (2026-02): which bytes are a deck, where they are malformed, what a lookup hands back. The words on
-- the right of an `↔` are in `deck/specs/Sound.antt` and `deck/specs/Given.antt`. Each statement on an entry begins with the promise that its code
-- is proved to keep. Assumes nothing.
use Rattle.std.specs.Prelude.{ℕ, ◌+◌, ◌≤◌, ◌<◌, ◌≡◌, ◌↔◌, ◌⊎◌, List, [], ◌∷◌, eqb, length, Result}
use Rattle.card.specs.declared.Refusal.{Refusal}
use Rattle.card.specs.Text.{when◌then◌else◌}
use Rattle.card.specs.Refusals.{malformed_deck, no_live_card}
use Rattle.card.specs.Verdict.{Verdict}
use Rattle.card.specs.Verdict.{Taken, Refused}
use Rattle.entry.specs.Said.{Said, says, refused}
use Rattle.deck.specs.Contents.{count_of, judged, SameContents}
use Rattle.deck.specs.Deck.{Entry, body_of, held_by, deck_of, deck_text, Writable}
use Rattle.deck.specs.Lookup.{find, find_with, Part, the_base, the_expansion, part_for, located, located_with, part_bytes}
use Rattle.deck.specs.Sound.{entry_at, Sound, MalformedAt}
use Rattle.deck.specs.Given.{LiveAt, NoLive, Gives, BothSound, EitherMalformed}
use Rattle.deck_entries.specs.Verdicts.{verdict_of}
use Rattle.boxes.specs.Boxes.{placed, Found}
use Rattle.boxes.specs.declared.Place.{Place}
use Rattle.answers.specs.declared.OpenPanelAnswer.{OpenPanelAnswer}
use Rattle.answers.specs.Numbered.{verdict_numbers}
use Rattle.tablet.specs.Parts.{PartTold}
use Rattle.entry_promises.specs.ForC.{Answers}

-- ---- bytes and decks

pub record Decks : Type 0 where
  -- a deck is taken exactly when it is sound, and then it is the list of what it holds
  pub taken : (deck : List ℕ) → (judged deck ≡ says tt) ↔ Sound deck
  pub holds : (deck : List ℕ) (es : List Entry) → (deck_of deck ≡ says es) ↔ (Sound deck × (es ≡ held_by deck))
  -- else 11, exactly at the first byte of its first wrong field, or at 0 for a wrong count, contents cut short and a deck too long
  pub malformed : (deck : List ℕ) (p : ℕ) → (deck_of deck ≡ refused malformed_deck p) ↔ MalformedAt deck p
  pub no_other : (deck : List ℕ) (r p : ℕ) → deck_of deck ≡ refused r p → r ≡ malformed_deck
  -- no byte behind the contents decides anything, and so no card is read
  pub contents_only : (deck other : List ℕ) → SameContents deck other → judged deck ≡ judged other
  -- a number has one entry at most
  pub one_number : (deck : List ℕ) → Sound deck → (i j : ℕ) → i < count_of deck → j < count_of deck → (entry_at deck i).number ≡ (entry_at deck j).number → i ≡ j
  -- what can be written comes back, out of a sound deck, and no two lists of entries are written alike
  pub again : (es : List Entry) → Writable es → Sound (deck_text es) × (deck_of (deck_text es) ≡ says es)
  pub one_text : (es fs : List Entry) → Writable es → Writable fs → deck_text es ≡ deck_text fs → es ≡ fs

-- ---- lookups

-- in one box: the live card's bytes, 12, or 11
pub record Lookups : Type 0 where
  pub found : (deck : List ℕ) (number : ℕ) (t : List ℕ)
      → (find deck number ≡ says t) ↔ (Sound deck × ((i : ℕ) × LiveAt deck number i × (t ≡ body_of deck (entry_at deck i))))
  pub none : (deck : List ℕ) (number p : ℕ) → (find deck number ≡ refused no_live_card p) ↔ (Sound deck × NoLive deck number × (p ≡ 0))
  pub malformed : (deck : List ℕ) (number p : ℕ) → (find deck number ≡ refused malformed_deck p) ↔ MalformedAt deck p
  pub no_other : (deck : List ℕ) (number r p : ℕ) → find deck number ≡ refused r p → (r ≡ malformed_deck) ⊎ (r ≡ no_live_card)
  -- where a card stands is told by the contents alone
  pub contents_only : (deck other : List ℕ) → SameContents deck other → (number : ℕ) → located deck number ≡ located other number

-- in a box with an expansion: the base is judged first, and the expansion's places count from 65,536
pub record LookupsWith : Type 0 where
  pub found : (base expansion : List ℕ) (number : ℕ) (t : List ℕ)
      → (find_with base expansion number ≡ says t) ↔ (BothSound base expansion × ((p : Part) × Gives base expansion number p × (t ≡ part_bytes base expansion p)))
  pub none : (base expansion : List ℕ) (number p : ℕ)
      → (find_with base expansion number ≡ refused no_live_card p) ↔ (BothSound base expansion × NoLive expansion number × NoLive base number × (p ≡ 0))
  pub malformed : (base expansion : List ℕ) (number p : ℕ) → (find_with base expansion number ≡ refused malformed_deck p) ↔ EitherMalformed base expansion p
  pub no_other : (base expansion : List ℕ) (number r p : ℕ) → find_with base expansion number ≡ refused r p → (r ≡ malformed_deck) ⊎ (r ≡ no_live_card)
  -- the part lies inside the deck that holds it
  pub inside : (base expansion : List ℕ) (number : ℕ) → BothSound base expansion → (p : Part) → Gives base expansion number p
      → p.offset + p.size ≤ length (when eqb p.which the_expansion then expansion else base)
  -- where a card stands is told by the contents alone
  pub contents_only : (base base' expansion expansion' : List ℕ) → SameContents base base' → SameContents expansion expansion' → (number : ℕ)
      → located_with base expansion number ≡ located_with base' expansion' number

-- ---- the entries

pub record Judges (deck : List ℕ) (v : Verdict) : Type 0 where
  pub taken : (v ≡ Taken) ↔ Sound deck
  pub malformed : (p : ℕ) → (v ≡ Refused malformed_deck p) ↔ MalformedAt deck p
  pub no_other : (r p : ℕ) → v ≡ Refused r p → r ≡ malformed_deck

-- when a card is given in one box and in two, and when there is none
abbrev pub GivenIn : List ℕ → ℕ → Part → Type 0
GivenIn deck number p = Sound deck × ((i : ℕ) × LiveAt deck number i × (p ≡ part_for the_base (entry_at deck i)))

abbrev pub NoneIn : List ℕ → ℕ → Type 0
NoneIn deck number = Sound deck × NoLive deck number

abbrev pub GivenWith : (base expansion : List ℕ) → ℕ → Part → Type 0
GivenWith base expansion number p = BothSound base expansion × Gives base expansion number p

abbrev pub NoneWith : (base expansion : List ℕ) → ℕ → Type 0
NoneWith base expansion number = BothSound base expansion × NoLive expansion number × NoLive base number

-- where a card stands, or the refusal
pub record Locates (Given : Part → Type 0) (None : Type 0) (Bad : ℕ → Type 0) (place : Result Place Refusal) : Type 0 where
  pub found : (p : Part) → Given p → place ≡ placed (says p)
  pub none : None → place ≡ placed (refused no_live_card 0)
  pub malformed : (q : ℕ) → Bad q → place ≡ placed (refused malformed_deck q)
  -- it is one of these
  pub one_of : ((p : Part) × Given p) ⊎ None ⊎ ((q : ℕ) × Bad q)

-- a lookup's part, and its refusal in the two lent numbers `was`, which became `is`
pub record HandsBack (Given : Part → Type 0) (None : Type 0) (Bad : ℕ → Type 0) (bytes : Part → List ℕ) (part was is : List ℕ) : Type 0 where
  -- 0 and 0 beside the card's bytes
  pub found : (p : Part) → Given p → (part ≡ bytes p) × (length was ≡ 2 → is ≡ 0 ∷ 0 ∷ [])
  -- a refusal hands back an empty part: 12 and 0, 11 and its place
  pub none : None → (part ≡ []) × (length was ≡ 2 → is ≡ no_live_card ∷ 0 ∷ [])
  pub malformed : (place : ℕ) → Bad place → (part ≡ []) × (length was ≡ 2 → is ≡ malformed_deck ∷ place ∷ [])
  -- it is one of these
  pub one_of : ((p : Part) × Given p) ⊎ None ⊎ ((place : ℕ) × Bad place)

-- a lookup for C: the three lent numbers `was` became `is`
pub record PartTells (Given : Part → Type 0) (None : Type 0) (Bad : ℕ → Type 0) (was is : List ℕ) (a : OpenPanelAnswer) : Type 0 where
  -- 0 and 0, and where the card stands
  pub found : (value : ℕ) → Answers a 0 value ↔ (((p : Part) × Given p) × (value ≡ 0))
  pub stands : (p : Part) → Given p → length was ≡ 3 → is ≡ p.which ∷ p.offset ∷ p.size ∷ []
  -- 12 and 0, 11 and its place
  pub none : (place : ℕ) → Answers a no_live_card place ↔ (None × (place ≡ 0))
  pub malformed : (place : ℕ) → Answers a malformed_deck place ↔ Bad place
  pub no_other : (a.number ≡ 0) ⊎ (a.number ≡ malformed_deck) ⊎ (a.number ≡ no_live_card)
  -- a refusal leaves three zeros
  pub zeros : (a.number ≡ 0 → ⊥) → length was ≡ 3 → is ≡ 0 ∷ 0 ∷ 0 ∷ []

pub record BoxJudgeTells (deck : List ℕ) (a : OpenPanelAnswer) : Type 0 where
  pub fine : (value : ℕ) → Answers a 0 value ↔ (Sound deck × (value ≡ 0))
  pub malformed : (place : ℕ) → Answers a malformed_deck place ↔ MalformedAt deck place
  pub no_other : (a.number ≡ 0) ⊎ (a.number ≡ malformed_deck)

pub record BoxEntries : Type 0 where
  pub judge : (deck : List ℕ) (v : Verdict) → v ≡ verdict_of (judged deck) → Judges deck v
  pub locate : (deck : List ℕ) (number : ℕ) (place : Result Place Refusal) → place ≡ placed (located deck number)
      → Locates (GivenIn deck number) (NoneIn deck number) (MalformedAt deck) place
  pub locate_with : (base expansion : List ℕ) (number : ℕ) (place : Result Place Refusal) → place ≡ placed (located_with base expansion number)
      → Locates (GivenWith base expansion number) (NoneWith base expansion number) (EitherMalformed base expansion) place
  pub find : (deck : List ℕ) (number : ℕ) (part was is : List ℕ) → Found (find deck number) part was is
      → HandsBack (GivenIn deck number) (NoneIn deck number) (MalformedAt deck) (part_bytes deck []) part was is
  pub find_with_holds : (base expansion : List ℕ) (number : ℕ) (part was is : List ℕ) → Found (find_with base expansion number) part was is
      → HandsBack (GivenWith base expansion number) (NoneWith base expansion number) (EitherMalformed base expansion) (part_bytes base expansion) part was is
  -- the names for C
  pub judge_for_c : (deck : List ℕ) (a : OpenPanelAnswer) → a ≡ verdict_numbers (verdict_of (judged deck)) → BoxJudgeTells deck a
  pub find_for_c : (deck : List ℕ) (number : ℕ) (was is : List ℕ) (a : OpenPanelAnswer) → PartTold (located deck number) was is a
      → PartTells (GivenIn deck number) (NoneIn deck number) (MalformedAt deck) was is a
  pub find_with_for_c : (base expansion : List ℕ) (number : ℕ) (was is : List ℕ) (a : OpenPanelAnswer) → PartTold (located_with base expansion number) was is a
      → PartTells (GivenWith base expansion number) (NoneWith base expansion number) (EitherMalformed base expansion) was is a
  -- two results that keep one contract are the same
  pub unique : (said : Said (List ℕ)) (part₁ part₂ was is₁ is₂ : List ℕ) → Found said part₁ was is₁ → Found said part₂ was is₂
      → (part₁ ≡ part₂) × (is₁ ≡ is₂)
  pub unique_for_c : (said : Said Part) (was is₁ is₂ : List ℕ) (a₁ a₂ : OpenPanelAnswer) → PartTold said was is₁ a₁ → PartTold said was is₂ a₂
      → (a₁ ≡ a₂) × (is₁ ≡ is₂)
