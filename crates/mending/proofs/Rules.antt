-- The fates computed are those by the rules, and no others are: each test is met exactly where its rule is obeyed. Assumes nothing.
use Prim.Native.Nat.{ℕ, suc}
use mathlib.Core.Path.{◌≡◌, refl, sym, ap, ◌∙◌}
use mathlib.Core.Bool.{Bool, true, false, true≢false}
use mathlib.Core.Logic.{◌↔◌}
use mathlib.Core.List.{List, [], ◌∷◌}
use lib.Dec.{eqb, leb}
use lib.ListN.{length}
use borrow.Author.Tests.{le-leb, leb-true, eq-eqb, eqb-true}
use Rattle.card.specs.Text.{when◌then◌else◌}
use Rattle.deck.specs.Contents.{Row, end_of, count_of, behind, contents_of}
use Rattle.deck.proofs.Judged.{flag_small, flag_either}
use Rattle.mending.specs.Mending.{flags_right, number_rises, range_lies, card_right, Fate, kept, dropped, fate_of, least_behind, last_behind, fates_from, fates_in}
use Rattle.mending.specs.Rules.{FlagsRight, NumberRises, RangeLies, CardRight, Breaks, one, two, three, four, Judged, ByRules}
use Rattle.mending.proofs.Kept.{card_right_law}
use Rattle.mending.proofs.Mended.{and_both, live_taken}

module _ (deck : List ℕ) (least last : ℕ) (r : Row) where
  -- the tests

  flags_exactly : (flags_right r ≡ true) ↔ FlagsRight r
  flags_exactly = (forth, λ h. rw (le-leb r.flag 1 (flag_small h.0), eq-eqb r.zero_byte 0 h.1))
    where
      forth : flags_right r ≡ true → FlagsRight r
      forth e = let (a, b) = and_both (leb r.flag 1) (eqb r.zero_byte 0) e in (flag_either r.flag (leb-true r.flag 1 a), eqb-true r.zero_byte 0 b)

  number_exactly : (number_rises least r ≡ true) ↔ NumberRises least r
  number_exactly = (leb-true least r.number, le-leb least r.number)

  range_exactly : (range_lies (length deck) last r ≡ true) ↔ RangeLies deck last r
  range_exactly = (forth, λ h. rw (le-leb last r.offset h.0, le-leb (end_of r) (length deck) h.1))
    where
      forth : range_lies (length deck) last r ≡ true → RangeLies deck last r
      forth e = let (a, b) = and_both (leb last r.offset) (leb (end_of r) (length deck)) e in (leb-true last r.offset a, leb-true (end_of r) (length deck) b)

  card_exactly : (card_right deck r ≡ true) ↔ CardRight deck r
  card_exactly = (λ e f. live_taken deck r e (eq-eqb r.flag 1 f), card_right_law deck r)

  -- by the tests, one after the other
  by_tests : (a b c d : Bool) → flags_right r ≡ a → number_rises least r ≡ b → range_lies (length deck) last r ≡ c → card_right deck r ≡ d
      → Judged deck least last r (when a then when b then when c then when d then kept else dropped 4 else dropped 3 else dropped 2 else dropped 1)
  by_tests false b c d ea eb ec ed = one (λ h. true≢false (sym (flags_exactly.1 h) ∙ ea))
  by_tests true false c d ea eb ec ed = two (flags_exactly.0 ea) (λ h. true≢false (sym (number_exactly.1 h) ∙ eb))
  by_tests true true false d ea eb ec ed = three (flags_exactly.0 ea) (number_exactly.0 eb) (λ h. true≢false (sym (range_exactly.1 h) ∙ ec))
  by_tests true true true false ea eb ec ed =
      four (flags_exactly.0 ea) (number_exactly.0 eb) (range_exactly.0 ec) (λ h. true≢false (sym (card_exactly.1 h) ∙ ed))
  by_tests true true true true ea eb ec ed =
      record { flags = flags_exactly.0 ea; number = number_exactly.0 eb; range = range_exactly.0 ec; card = card_exactly.0 ed }

  judged : Judged deck least last r (fate_of deck least last r)
  judged = by_tests (flags_right r) (number_rises least r) (range_lies (length deck) last r) (card_right deck r) refl refl refl refl

  -- and no other fate is
  failed : (b : Bool) → (b ≡ true → ⊥) → b ≡ false
  failed true h = absurd (h refl)
  failed false h = refl

  only_judged : (f : Fate) → Judged deck least last r f → fate_of deck least last r ≡ f
  only_judged kept h = rw (flags_exactly.1 h.flags, number_exactly.1 h.number, range_exactly.1 h.range, card_exactly.1 h.card)
  only_judged (dropped rule) h = go h
    where
      go : {k : ℕ} → Breaks deck least last r k → fate_of deck least last r ≡ dropped k
      go (one a) = rw (failed (flags_right r) (λ e. a (flags_exactly.0 e)))
      go (two a b) = rw (flags_exactly.1 a, failed (number_rises least r) (λ e. b (number_exactly.0 e)))
      go (three a b c) = rw (flags_exactly.1 a, number_exactly.1 b, failed (range_lies (length deck) last r) (λ e. c (range_exactly.0 e)))
      go (four a b c d) = rw (flags_exactly.1 a, number_exactly.1 b, range_exactly.1 c, failed (card_right deck r) (λ e. d (card_exactly.0 e)))

module _ (deck : List ℕ) where
  onward : (least last : ℕ) (r : Row) (rs : List Row) (f : Fate) → Judged deck least last r f
      → ByRules deck (least_behind f r least) (last_behind f r last) rs (fates_from deck (least_behind f r least) (last_behind f r last) rs)
      → ByRules deck least last (r ∷ rs) (f ∷ fates_from deck (least_behind f r least) (last_behind f r last) rs)
  onward least last r rs kept j h = (j, h)
  onward least last r rs (dropped rule) j h = (j, h)

  from_rules : (least last : ℕ) (rs : List Row) → ByRules deck least last rs (fates_from deck least last rs)
  from_rules least last [] = tt
  from_rules least last (r ∷ rs) =
      let f = fate_of deck least last r in
      onward least last r rs f (judged deck least last r) (from_rules (least_behind f r least) (last_behind f r last) rs)

  only_from : (least last : ℕ) (rs : List Row) (fs : List Fate) → ByRules deck least last rs fs → fs ≡ fates_from deck least last rs
  only_from least last [] [] h = refl
  only_from least last [] (f ∷ fs) h = absurd h
  only_from least last (r ∷ rs) [] h = absurd h
  only_from least last (r ∷ rs) (kept ∷ fs) h =
      ap (λ (l : List Fate). kept ∷ l) (only_from (suc r.number) (end_of r) rs fs h.1)
      ∙ ap (λ (g : Fate). g ∷ fates_from deck (least_behind g r least) (last_behind g r last) rs) (sym (only_judged deck least last r kept h.0))
  only_from least last (r ∷ rs) (dropped rule ∷ fs) h =
      ap (λ (l : List Fate). dropped rule ∷ l) (only_from least last rs fs h.1)
      ∙ ap (λ (g : Fate). g ∷ fates_from deck (least_behind g r least) (last_behind g r last) rs) (sym (only_judged deck least last r (dropped rule) h.0))

  pub by_rules : (fs : List Fate) → (fates_in deck ≡ fs) ↔ ByRules deck 0 (behind (count_of deck)) (contents_of deck) fs
  by_rules fs = (forth, λ h. sym (only_from 0 (behind (count_of deck)) (contents_of deck) fs h))
    where
      forth : fates_in deck ≡ fs → ByRules deck 0 (behind (count_of deck)) (contents_of deck) fs
      forth e = rw (← e) (from_rules 0 (behind (count_of deck)) (contents_of deck))
