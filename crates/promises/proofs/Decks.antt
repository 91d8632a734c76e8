-- The reading side of a box, by citing; and its entries, by what is said of where a card stands. Assumes nothing.
use Prim.Native.Nat.{ℕ}
use mathlib.Core.Path.{◌≡◌, refl, sym, ap, ◌∙◌, subst}
use mathlib.Core.Logic.{◌↔◌, ◌⊎◌, inl, inr}
use mathlib.Core.List.{List, [], ◌∷◌, map}
use native.Mathlib.Omega.{arith}
use lib.ListN.{length, set}
use Rattle.std.specs.Prelude.{Result}
use Rattle.card.specs.declared.Refusal.{Refusal}
use Rattle.card.specs.Refusals.{malformed_deck, no_live_card}
use Rattle.card.specs.Verdict.{verdict_number, verdict_place}
use Rattle.entry.specs.Said.{Said, says, refused, saying}
use Rattle.entry.specs.Contract.{part_of}
use Rattle.entry.proofs.Exactly.{◌↔∙◌}
use Rattle.entry.proofs.Stages.{says≢refused, same_number, same_place, last}
use Rattle.deck.specs.Contents.{Row, judged, rows_in}
use Rattle.deck.specs.Deck.{entry_of, deck_of}
use Rattle.deck.specs.Lookup.{find, Part, located, located_with, part_bytes}
use Rattle.deck.specs.Sound.{MalformedAt}
use Rattle.deck.specs.Given.{EitherMalformed}
use Rattle.deck.proofs.Judged.{judged_exactly}
use Rattle.deck.proofs.FirstWrong.{malformed_exactly, judged_refused}
use Rattle.deck.proofs.Written.{text_sound, text_back, text_injective}
use Rattle.deck.proofs.Looked.{one_number}
use Rattle.deck.proofs.ContentsOnly.{judged_same, located_same, located_with_same}
use Rattle.deck.proofs.DeckStages.{rows_stage, deck_stage}
use Rattle.deck.proofs.Lookups.{rows_malformed, located_here, located_nowhere, located_bad, located_one_of, located_exactly, located_none}
use Rattle.deck.proofs.Lookups.{located_malformed, located_numbers, find_located, find_with_located, find_exactly, find_none, find_malformed}
use Rattle.deck.proofs.Lookups.{find_numbers, with_exactly, with_none, with_malformed, with_numbers, gives_inside}
use Rattle.deck_entries.specs.Verdicts.{verdict_of}
use Rattle.deck_entries.proofs.Laws.{verdict_refused, verdict_fine}
use Rattle.boxes.specs.Boxes.{placed, told, Found}
use Rattle.boxes.specs.declared.Place.{Place}
use Rattle.answers.specs.declared.OpenPanelAnswer.{OpenPanelAnswer}
use Rattle.answers.specs.Numbered.{verdict_numbers}
use Rattle.answers.specs.Stands.{three_of}
use Rattle.tablet.specs.Parts.{PartTold}
use Rattle.entry_promises.specs.ForC.{Answers}
use Rattle.promises.specs.Decks.{Decks, Lookups, LookupsWith, Judges, GivenIn, NoneIn, GivenWith, NoneWith, Locates, HandsBack, PartTells, BoxJudgeTells}
use Rattle.promises.specs.Decks.{BoxEntries}

-- ---- bytes and decks

pub deck_malformed : (deck : List ℕ) (p : ℕ) → (deck_of deck ≡ refused malformed_deck p) ↔ MalformedAt deck p
deck_malformed deck p = last (rows_stage deck) (λ (rows : List Row). map (entry_of deck) rows) malformed_deck p ↔∙ rows_malformed deck p

deck_number : (deck : List ℕ) (r p : ℕ) → deck_of deck ≡ refused r p → r ≡ malformed_deck
deck_number deck r p e = go (judged deck) refl ((last (rows_stage deck) (λ (rows : List Row). map (entry_of deck) rows) r p).0 e)
  where
    go : (x : Said (Unit {0})) → judged deck ≡ x → rows_in deck ≡ refused r p → r ≡ malformed_deck
    go (says u) k h = says≢refused (sym ((rows_stage deck).found.each ((judged_exactly deck).0 k)) ∙ h)
    go (refused s q) k h =
        let z : rows_in deck ≡ refused s q = rw k in
        sym (same_number (sym z ∙ h)) ∙ (judged_refused deck s q k).0

pub decks : Decks
decks = record {
  taken = judged_exactly;
  holds = λ deck es. (λ e. (deck_stage deck).found.only es e, λ h. (deck_stage deck).found.each h.0 ∙ ap says (sym h.1));
  malformed = deck_malformed;
  no_other = deck_number;
  contents_only = judged_same;
  one_number = one_number;
  again = λ es w. (text_sound es w, text_back es w);
  one_text = text_injective;
}

-- ---- lookups

pub lookups : Lookups
lookups = record {
  found = find_exactly;
  none = find_none;
  malformed = find_malformed;
  no_other = find_numbers;
  contents_only = located_same;
}

pub lookups_with : LookupsWith
lookups_with = record {
  found = with_exactly;
  none = with_none;
  malformed = with_malformed;
  no_other = with_numbers;
  inside = λ base expansion number s p g. gives_inside base expansion number s g;
  contents_only = located_with_same;
}

-- ---- lent numbers: all of them are set

two_set : (x y : ℕ) (was : List ℕ) → length was ≡ 2 → set (set was 0 x) 1 y ≡ x ∷ y ∷ []
two_set x y [] h = absurd (omega (arith, h))
two_set x y (a ∷ []) h = absurd (omega (arith, h))
two_set x y (a ∷ b ∷ []) h = refl
two_set x y (a ∷ b ∷ c ∷ t) h = absurd (omega (arith, h))

three_set : (x y z : ℕ) (was : List ℕ) → length was ≡ 3 → set (set (set was 0 x) 1 y) 2 z ≡ x ∷ y ∷ z ∷ []
three_set x y z [] h = absurd (omega (arith, h))
three_set x y z (a ∷ []) h = absurd (omega (arith, h))
three_set x y z (a ∷ b ∷ []) h = absurd (omega (arith, h))
three_set x y z (a ∷ b ∷ c ∷ []) h = refl
three_set x y z (a ∷ b ∷ c ∷ d ∷ t) h = absurd (omega (arith, h))

-- ---- the entries: what is said of a part, with each case exactly

record Said12 (said : Said Part) (Given : Part → Type 0) (None : Type 0) (Bad : ℕ → Type 0) : Type 0 where
  pub found : (p : Part) → (said ≡ says p) ↔ Given p
  pub none : (place : ℕ) → (said ≡ refused no_live_card place) ↔ (None × (place ≡ 0))
  pub malformed : (place : ℕ) → (said ≡ refused malformed_deck place) ↔ Bad place
  pub numbers : (r p : ℕ) → said ≡ refused r p → (r ≡ malformed_deck) ⊎ (r ≡ no_live_card)

in_one : (deck : List ℕ) (number : ℕ) → Said12 (located deck number) (GivenIn deck number) (NoneIn deck number) (MalformedAt deck)
in_one deck number = record {
  found = located_here deck number;
  none = λ p. located_nowhere deck number p ↔∙ (λ h. ((h.0, h.1), h.2), λ h. (h.0.0, h.0.1, h.1));
  malformed = located_bad deck number;
  numbers = located_one_of deck number;
}

in_two : (base expansion : List ℕ) (number : ℕ)
    → Said12 (located_with base expansion number) (GivenWith base expansion number) (NoneWith base expansion number) (EitherMalformed base expansion)
in_two base expansion number = record {
  found = located_exactly base expansion number;
  none = λ p. located_none base expansion number p ↔∙ (λ h. ((h.0, h.1, h.2), h.3), λ h. (h.0.0, h.0.1, h.0.2, h.1));
  malformed = located_malformed base expansion number;
  numbers = located_numbers base expansion number;
}

module _ {said : Said Part} {Given : Part → Type 0} {None : Type 0} {Bad : ℕ → Type 0} (s : Said12 said Given None Bad) where
  -- one of the three
  cases : ((p : Part) × Given p) ⊎ None ⊎ ((place : ℕ) × Bad place)
  cases = go said refl
    where
      wrong : (r p : ℕ) → said ≡ refused r p → (r ≡ malformed_deck) ⊎ (r ≡ no_live_card) → ((p : Part) × Given p) ⊎ None ⊎ ((place : ℕ) × Bad place)
      wrong r p e (inl n) = inr (inr (p, (s.malformed p).0 (e ∙ ap (λ (k : ℕ). refused k p) n)))
      wrong r p e (inr n) = inr (inl ((s.none p).0 (e ∙ ap (λ (k : ℕ). refused k p) n)).0)

      go : (x : Said Part) → said ≡ x → ((p : Part) × Given p) ⊎ None ⊎ ((place : ℕ) × Bad place)
      go (says p) e = inl (p, (s.found p).0 e)
      go (refused r p) e = wrong r p e (s.numbers r p e)

  locates : (place : Result Place Refusal) → place ≡ placed said → Locates Given None Bad place
  locates place e = record {
    found = λ p g. e ∙ ap placed ((s.found p).1 g);
    none = λ h. e ∙ ap placed ((s.none 0).1 (h, refl));
    malformed = λ q h. e ∙ ap placed ((s.malformed q).1 h);
    one_of = cases;
  }

  hands_back : (bytes : Part → List ℕ) {part was is : List ℕ} → Found (saying bytes said) part was is → HandsBack Given None Bad bytes part was is
  hands_back bytes {part} {was} {is} f = record {
    found = λ p g. both (saying bytes said) (says (bytes p)) (ap (saying bytes) ((s.found p).1 g)) f;
    none = λ h. both (saying bytes said) (refused no_live_card 0) (ap (saying bytes) ((s.none 0).1 (h, refl))) f;
    malformed = λ q h. both (saying bytes said) (refused malformed_deck q) (ap (saying bytes) ((s.malformed q).1 h)) f;
    one_of = cases;
  }
    where
      both : (x y : Said (List ℕ)) → x ≡ y → Found x part was is
          → (part ≡ part_of y) × (length was ≡ 2 → is ≡ verdict_number (verdict_of y) ∷ verdict_place (verdict_of y) ∷ [])
      both x y e f = (
        f.hands_back ∙ ap part_of e,
        λ l. f.tells ∙ ap (λ (z : Said (List ℕ)). told (verdict_of z) was) e ∙ two_set (verdict_number (verdict_of y)) (verdict_place (verdict_of y)) was l,
      )

  part_tells : {was is : List ℕ} {a : OpenPanelAnswer} → PartTold said was is a → PartTells Given None Bad was is a
  part_tells {was} {is} {a} t = go said refl
    where
      number_is : (x : Said Part) → said ≡ x → a ≡ verdict_numbers (verdict_of x)
      number_is x e = t.answers ∙ ap (λ (y : Said Part). verdict_numbers (verdict_of y)) e

      part_is : (p : Part) → said ≡ says p → length was ≡ 3 → is ≡ p.which ∷ p.offset ∷ p.size ∷ []
      part_is p e l = t.leaves ∙ ap (λ (y : Said Part). three_of (placed y) was) e ∙ three_set p.which p.offset p.size was l

      none_is : (r q : ℕ) → said ≡ refused r q → length was ≡ 3 → is ≡ 0 ∷ 0 ∷ 0 ∷ []
      none_is r q e l = t.leaves ∙ ap (λ (y : Said Part). three_of (placed y) was) e ∙ three_set 0 0 0 was l

      go : (x : Said Part) → said ≡ x → PartTells Given None Bad was is a
      go (says p) e =
          let n : a.number ≡ 0 = ap (λ (b : OpenPanelAnswer). b.number) (number_is (says p) e) in
          let v : a.value ≡ 0 = ap (λ (b : OpenPanelAnswer). b.value) (number_is (says p) e) in
          record {
            found = λ value. (λ h. ((p, (s.found p).0 e), sym h.1 ∙ v), λ h. (n, v ∙ sym h.1));
            stands = λ q g. part_is q ((s.found q).1 g);
            none = λ q. (λ h. absurd (omega (arith, h.0, n)), λ h. says≢refused (sym e ∙ (s.none q).1 h));
            malformed = λ q. (λ h. absurd (omega (arith, h.0, n)), λ h. says≢refused (sym e ∙ (s.malformed q).1 h));
            no_other = inl n;
            zeros = λ z. absurd (z n);
          }
      go (refused r p) e =
          let n : a.number ≡ r = ap (λ (b : OpenPanelAnswer). b.number) (number_is (refused r p) e) in
          let v : a.value ≡ p = ap (λ (b : OpenPanelAnswer). b.value) (number_is (refused r p) e) in
          record {
            found = λ value. (λ h. no_zero (s.numbers r p e) (sym n ∙ h.0), λ h. says≢refused (sym ((s.found h.0.0).1 h.0.1) ∙ e));
            stands = λ q g. part_is q ((s.found q).1 g);
            none = λ q. (
              λ h. (s.none q).0 (e ∙ same r p no_live_card q (sym n ∙ h.0) (sym v ∙ h.1)),
              λ h. back no_live_card q (sym e ∙ (s.none q).1 h) n v,
            );
            malformed = λ q. (
              λ h. (s.malformed q).0 (e ∙ same r p malformed_deck q (sym n ∙ h.0) (sym v ∙ h.1)),
              λ h. back malformed_deck q (sym e ∙ (s.malformed q).1 h) n v,
            );
            no_other = inr (one_of (s.numbers r p e) n);
            zeros = λ z. none_is r p e;
          }
        where
          no_zero : {C : Type 0} → (r ≡ malformed_deck) ⊎ (r ≡ no_live_card) → r ≡ 0 → C
          no_zero (inl h) k = absurd (omega (arith, h, k))
          no_zero (inr h) k = absurd (omega (arith, h, k))

          same : (r p m q : ℕ) → r ≡ m → p ≡ q → ◌≡◌ {A = Said Part} (refused r p) (refused m q)
          same r p m q h k = rw (h, k)

          back : (m q : ℕ) → ◌≡◌ {A = Said Part} (refused r p) (refused m q) → a.number ≡ r → a.value ≡ p → Answers a m q
          back m q h n v = (n ∙ same_number h, v ∙ same_place h)

          one_of : (r ≡ malformed_deck) ⊎ (r ≡ no_live_card) → a.number ≡ r → (a.number ≡ malformed_deck) ⊎ (a.number ≡ no_live_card)
          one_of (inl h) n = inl (n ∙ h)
          one_of (inr h) n = inr (n ∙ h)

-- ---- judging

judges : (deck : List ℕ) → Judges deck (verdict_of (judged deck))
judges deck = record {
  taken = (λ e. (judged_exactly deck).0 (verdict_fine (judged deck) e), λ s. ap verdict_of ((judged_exactly deck).1 s));
  malformed = λ p. (λ e. (malformed_exactly deck p).0 (verdict_refused (judged deck) e), λ m. ap verdict_of ((malformed_exactly deck p).1 m));
  no_other = λ r p e. (judged_refused deck r p (verdict_refused (judged deck) e)).0;
}

judge_tells : (deck : List ℕ) → BoxJudgeTells deck (verdict_numbers (verdict_of (judged deck)))
judge_tells deck = go (judged deck) refl
  where
    go : (x : Said (Unit {0})) → judged deck ≡ x → BoxJudgeTells deck (verdict_numbers (verdict_of x))
    go (says u) e = record {
      fine = λ v. (λ h. ((judged_exactly deck).0 e, sym h.1), λ h. (refl, sym h.1));
      malformed = λ p. (λ h. absurd (omega (arith, h.0)), λ m. says≢refused (sym e ∙ (malformed_exactly deck p).1 m));
      no_other = inl refl;
    }
    go (refused r q) e =
        let n : r ≡ malformed_deck = (judged_refused deck r q e).0 in
        record {
          fine = λ v. (λ h. absurd (omega (arith, h.0, n)), λ h. says≢refused (sym ((judged_exactly deck).1 h.0) ∙ e));
          malformed = λ p. (λ h. (malformed_exactly deck p).0 (e ∙ rw (n, h.1)), λ m. let z = sym e ∙ (malformed_exactly deck p).1 m in (same_number z, same_place z));
          no_other = inr n;
        }

pub box_entries : BoxEntries
box_entries = record {
  judge = λ deck v e. subst (Judges deck) (sym e) (judges deck);
  locate = λ deck number. locates (in_one deck number);
  locate_with = λ base expansion number. locates (in_two base expansion number);
  find = λ deck number part was is f.
      hands_back (in_one deck number) (part_bytes deck []) (subst (λ (x : Said (List ℕ)). Found x part was is) (find_located deck number) f);
  find_with_holds = λ base expansion number part was is f.
      hands_back (in_two base expansion number) (part_bytes base expansion) (subst (λ (x : Said (List ℕ)). Found x part was is) (find_with_located base expansion number) f);
  judge_for_c = λ deck a e. subst (BoxJudgeTells deck) (sym e) (judge_tells deck);
  find_for_c = λ deck number was is a t. part_tells (in_one deck number) t;
  find_with_for_c = λ base expansion number was is a t. part_tells (in_two base expansion number) t;
  unique = λ said part₁ part₂ was is₁ is₂ f g. (f.hands_back ∙ sym g.hands_back, f.tells ∙ sym g.tells);
  unique_for_c = λ said was is₁ is₂ a₁ a₂ f g. (f.answers ∙ sym g.answers, f.leaves ∙ sym g.leaves);
}
