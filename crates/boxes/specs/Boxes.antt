-- Where a card stands, and what a lookup hands back, in the code's values (document 02, 2026-02). Assumes nothing.
use Rattle.std.specs.Prelude.{ℕ, ◌≡◌, List, set, Result, Ok}
use Rattle.card.specs.declared.Refusal.{Refusal}
use Rattle.card.specs.Verdict.{Verdict, Refused, verdict_number, verdict_place}
use Rattle.deck_entries.specs.Verdicts.{verdict_of}
use Rattle.entry.specs.Said.{Said, says, refused}
use Rattle.entry.specs.Contract.{part_of}
use Rattle.deck.specs.Lookup.{Part}
use Rattle.boxes.specs.declared.Place.{Place}

abbrev pub placed : Said Part → Result Place Refusal
placed (says p) = Ok (record { which = p.which; offset = p.offset; size = p.size })
placed (refused number place) = Refused number place

-- a lent array whose first two numbers become a verdict's, 0 and 0 where nothing is refused
abbrev pub told : Verdict → List ℕ → List ℕ
told v was = set (set was 0 (verdict_number v)) 1 (verdict_place v)

-- a lookup's part, and its verdict in the lent array `was`, which becomes `is`: a refusal hands back an empty part
pub record Found (said : Said (List ℕ)) (part was is : List ℕ) : Type 0 where
  pub hands_back : part ≡ part_of said
  pub tells : is ≡ told (verdict_of said) was
