-- What a lookup answers, stage by stage in the order in which the decks are judged; and the part that it hands back. Assumes nothing.
use Prim.Native.Nat.{ℕ, ◌+◌, ◌≤◌, ◌<◌}
use mathlib.Core.Path.{◌≡◌, sym, ap, ◌∙◌}
use mathlib.Core.List.{List, []}
use lib.ListN.{length, drop, take}
use Rattle.card.specs.Limits.{expansion_from}
use lib.Dec.{eqb}
use Rattle.std.specs.Prelude.{Result, Ok, Err, MatchResult}
use Rattle.std.proofs.Common.{subst}
use Rattle.card.specs.Text.{when◌then◌else◌}
use Rattle.card.specs.declared.Refusal.{Refusal}
use Rattle.card.specs.Verdict.{verdict_in}
use Rattle.card.proofs.Verdicts.{ok≢refused, ok_is}
use Rattle.entry.specs.Said.{Said, saying}
use Rattle.deck.specs.Contents.{judged}
use Rattle.deck.specs.Lookup.{find, find_with, Part, the_expansion, located, located_with, part_bytes}
use Rattle.deck.specs.Given.{from_expansion, from_base}
use Rattle.deck.proofs.FirstWrong.{judged_refused, place_below}
use Rattle.deck.proofs.Lookups.{Looks, malformed, given, none, looks, find_located, LooksWith, bad_base, bad_expansion, given_with, none_with, looks_with, find_with_located}
use Rattle.deck_entries.specs.Verdicts.{verdict_of}
use Rattle.deck_entries.proofs.Laws.{verdict_refused}
use Rattle.boxes.specs.Boxes.{placed, told, Found}
use Rattle.boxes.specs.declared.Place.{Place}

-- ---- a deck that was judged

module _ (deck : List ℕ) where
  pub place_small : {r : Refusal} → Err r ≡ verdict_of (judged deck) → r.place < expansion_from
  place_small {r} v = place_below deck (judged_refused deck r.number r.place (verdict_refused (judged deck) (sym v))).1

-- ---- one deck

module _ (deck : List ℕ) (number : ℕ) where
  -- what is handed back of a lookup `x`, and told in the lent array `was`
  module _ {x : Result Place Refusal} (e : x ≡ placed (located deck number)) where
    pub part_inside : {p : Place} → x ≡ Ok p → p.offset + p.size ≤ length deck
    part_inside {p} k = go (located deck number) (looks deck number) (sym k ∙ e)
      where
        go : (y : Said Part) → Looks deck number y → Ok p ≡ placed y → p.offset + p.size ≤ length deck
        go y (malformed q m) f = ok≢refused f
        go y (given s i l) f = rw (ok_is f) (s.each i l.inside).ends
        go y (none s h) f = ok≢refused f

    pub find_found : {part was is : List ℕ} → MatchResult x (λ (p : Place). part ≡ take p.size (drop p.offset deck)) (λ (r : Refusal). part ≡ []) → is ≡ told (verdict_in x) was
        → Found (find deck number) part was is
    find_found {part} {was} {is} f g = rw (find_located deck number) (go (located deck number) (looks deck number) (subst (λ (z : Result Place Refusal). MatchResult z (λ (p : Place). part ≡ take p.size (drop p.offset deck)) (λ (r : Refusal). part ≡ [])) e f) (g ∙ ap (λ (z : Result Place Refusal). told (verdict_in z) was) e))
      where
        go : (y : Said Part) → Looks deck number y → MatchResult (placed y) (λ (p : Place). part ≡ take p.size (drop p.offset deck)) (λ (r : Refusal). part ≡ []) → is ≡ told (verdict_in (placed y)) was
            → Found (saying (part_bytes deck []) y) part was is
        go y (malformed p m) f g = record { hands_back = f; tells = g }
        go y (given s i l) f g = record { hands_back = f; tells = g }
        go y (none s h) f g = record { hands_back = f; tells = g }

-- ---- a deck and its expansion

-- the one in which a card stands
abbrev pub deck_of : (base expansion : List ℕ) → Place → List ℕ
deck_of base expansion p = when eqb p.which the_expansion then expansion else base

module _ (base expansion : List ℕ) (number : ℕ) where
  module _ {x : Result Place Refusal} (e : x ≡ placed (located_with base expansion number)) where
    pub part_inside_with : {p : Place} → x ≡ Ok p → p.offset + p.size ≤ length (deck_of base expansion p)
    part_inside_with {p} k = go (located_with base expansion number) (looks_with base expansion number) (sym k ∙ e)
      where
        go : (y : Said Part) → LooksWith base expansion number y → Ok p ≡ placed y → p.offset + p.size ≤ length (deck_of base expansion p)
        go y (bad_base q m) f = ok≢refused f
        go y (bad_expansion s q m) f = ok≢refused f
        go y (given_with s _ (from_expansion i l)) f = rw (ok_is f) (s.1.each i l.inside).ends
        go y (given_with s _ (from_base h i l)) f = rw (ok_is f) (s.0.each i l.inside).ends
        go y (none_with s h j) f = ok≢refused f

    abbrev hands : (part : List ℕ) → Result Place Refusal → Type 0
    hands part z = MatchResult z (λ (p : Place). part ≡ take p.size (drop p.offset (deck_of base expansion p))) (λ (r : Refusal). part ≡ [])

    pub find_found_with : {part was is : List ℕ} → hands part x → is ≡ told (verdict_in x) was → Found (find_with base expansion number) part was is
    find_found_with {part} {was} {is} f g = rw (find_with_located base expansion number) (go (located_with base expansion number) (looks_with base expansion number) (subst (hands part) e f) (g ∙ ap (λ (z : Result Place Refusal). told (verdict_in z) was) e))
      where
        go : (y : Said Part) → LooksWith base expansion number y → hands part (placed y) → is ≡ told (verdict_in (placed y)) was → Found (saying (part_bytes base expansion) y) part was is
        go y (bad_base p m) f g = record { hands_back = f; tells = g }
        go y (bad_expansion s q m) f g = record { hands_back = f; tells = g }
        go y (given_with s _ (from_expansion i l)) f g = record { hands_back = f; tells = g }
        go y (given_with s _ (from_base h i l)) f g = record { hands_back = f; tells = g }
        go y (none_with s h j) f g = record { hands_back = f; tells = g }
