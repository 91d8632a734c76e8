-- Reading a card means what document 01 says: it is taken exactly when it is a card, and each refusal 1 to 7 and 17 is given at a place exactly when
-- its row of the table says so. One pass over the definition of reading finds for every outcome its reason; and each reason leads to its
-- outcome. Assumes nothing.
use Prim.Native.Nat.{ℕ, zero, ◌≤◌, ◌<◌}
use mathlib.Core.Path.{◌≡◌, refl, sym, ap, ◌∙◌, subst}
use mathlib.Core.Logic.{◌⊎◌, inl, inr, ◌↔◌}
use mathlib.Core.Bool.{Bool, true, false, false≢true}
use mathlib.Core.List.{List, [], ◌∷◌, ◌++◌}
use mathlib.Core.Option.{Option, none, some}
use native.Mathlib.Omega.{arith}
use native.Mathlib.Decide.{dec_le}
use borrow.Author.Tests.{le-leb, lt-leb}
use lib.ListN.{length}
use Rattle.card.specs.Limits.{card_bytes}
use Rattle.card.specs.Refusals.{too_long, outside_rules, out_of_shape, past_limit, above_top, not_due, wrong_weight, decimal_weight}
use Rattle.card.specs.Text.{when◌then◌else◌}
use Rattle.card.specs.Card.{Card}
use Rattle.card.specs.Weight.{Rule, allowed}
use Rattle.marks_on_a_card.specs.Marks.{Mark, text, seat, process, number, decimal, outside, Placed, placed, marks_of, place_of}
use Rattle.reading.specs.Reader.{Place, at, Result, ok, stop}
use Rattle.reading.specs.Judgements.{Judgement, state, word, one_group, weight, sum, place_in, Verdict, fine, wrong, first_broken}
use Rattle.reading.specs.Shape.{CardShape, card}
use Rattle.reading.specs.Checks.{judged_card, seats_in, card_in}
use Rattle.reading.specs.Reading.{Outcome, taken, refused, is_outside, first_outside, judged, shaped, marked, read_under}
use Rattle.grammar.specs.Verdicts.{Inside, Clean, TooLong, OutsideRules, PastLimit, OutOfShape, Shaped, Broken, Accepted}
use Rattle.reading.proofs.Through.{none≢some}
use Rattle.reading.proofs.Rising.{Rises, marks_rise, rises_part, later_place}
use Rattle.grammar.proofs.Shaping.{shape_read, read_shape, stopped_past, past_stopped, stopped_unfit, unfit_stopped, stop_numbers}
use Rattle.grammar.proofs.Ruling.{refusal_of, breaks, broken_not_kept}
use Rattle.grammar.proofs.Along.{card_along, earliest, broken_first, none_broken, all_kept}

-- ---- outcomes

refused_number : {r i p q : ℕ} → refused r p ≡ refused i q → r ≡ i
refused_number e = cc

-- ---- marks outside the rules

outside_true : (m : Mark) → is_outside m ≡ true → m ≡ outside
outside_true (text s) e = absurd (false≢true e)
outside_true (seat i) e = absurd (false≢true e)
outside_true (process i) e = absurd (false≢true e)
outside_true (number v) e = absurd (false≢true e)
outside_true (decimal v n f) e = absurd (false≢true e)
outside_true outside e = refl

outside_false : (m : Mark) → (m ≡ outside → ⊥) → is_outside m ≡ false
outside_false (text s) h = refl
outside_false (seat i) h = refl
outside_false (process i) h = refl
outside_false (number v) h = refl
outside_false (decimal v n f) h = refl
outside_false outside h = absurd (h refl)

inside_not : (m : Mark) → is_outside m ≡ false → m ≡ outside → ⊥
inside_not m e z = false≢true (sym e ∙ ap is_outside z)

pub none_outside : (ms : List Placed) → first_outside ms ≡ none → Inside ms
none_outside [] e = tt
none_outside (placed m p ∷ ms) e = go (is_outside m) refl e (none_outside ms)
  where
    go : (b : Bool) → is_outside m ≡ b → (when b then some p else first_outside ms) ≡ none → (first_outside ms ≡ none → Inside ms) → Inside (placed m p ∷ ms)
    go true y e f = none≢some (sym e)
    go false y e f = (inside_not m y, f e)

pub inside_none : (ms : List Placed) → Inside ms → first_outside ms ≡ none
inside_none [] h = refl
inside_none (placed m p ∷ ms) h = rw (outside_false m h.0) (inside_none ms h.1)

pub first_outside_law : (ms : List Placed) (p : ℕ) → first_outside ms ≡ some p → (pre post : List Placed) × (ms ≡ pre ++ (placed outside p ∷ post)) × Inside pre
first_outside_law [] p e = none≢some e
first_outside_law (placed m q ∷ ms) p e = go (is_outside m) refl e (first_outside_law ms p)
  where
    go : (b : Bool) → is_outside m ≡ b → (when b then some q else first_outside ms) ≡ some p
        → (first_outside ms ≡ some p → (pre post : List Placed) × (ms ≡ pre ++ (placed outside p ∷ post)) × Inside pre)
        → (pre post : List Placed) × (placed m q ∷ ms ≡ pre ++ (placed outside p ∷ post)) × Inside pre
    go true y e f = let z : q ≡ p = cc in ([], ms, cc (outside_true m y), tt)
    go false y e f = let (pre, post, z, h) = f e in (placed m q ∷ pre, post, ap (λ x. placed m q ∷ x) z, (inside_not m y, h))

pub outside_first : (p : ℕ) (pre post : List Placed) → Inside pre → first_outside (pre ++ (placed outside p ∷ post)) ≡ some p
outside_first p [] post h = refl
outside_first p (placed m q ∷ pre) post h = rw (outside_false m h.0) (outside_first p pre post h.1)

-- ---- the steps of reading

module _ (decimals : Rule) (s : List ℕ) where
  read_long : card_bytes < length s → read_under decimals s ≡ refused too_long 0
  unfolding read_under
  read_long h = rw (lt-leb (length s) card_bytes h)

  read_short : length s ≤ card_bytes → read_under decimals s ≡ marked decimals (length s) (marks_of s) (first_outside (marks_of s))
  unfolding read_under
  read_short h = rw (le-leb (length s) card_bytes h)

  read_clean : Clean s → read_under decimals s ≡ shaped decimals (length s) (card (at (marks_of s) zero))
  read_clean c = read_short c.short ∙ ap (marked decimals (length s) (marks_of s)) (inside_none (marks_of s) c.inside)

  read_shaped : (h : Shaped s) → read_under decimals s ≡ judged (length s) (card_in h.shape) (first_broken (seats_in h.shape) (judged_card decimals h.shape))
  read_shaped h = let (n, e) = shape_read h.said h.within in read_clean h.clean ∙ ap (shaped decimals (length s)) e

  -- ---- each reason leads to its outcome

  taken_back : (c : Card) → Accepted decimals s c → read_under decimals s ≡ taken c
  taken_back c h =
      let d = h.shaped.shape in
      read_shaped h.shaped ∙ ap (judged (length s) (card_in d)) (all_kept (seats_in d) (length s) (judged_card decimals d) h.kept) ∙ ap taken (sym h.card)

  long_back : (p : ℕ) → TooLong s p → read_under decimals s ≡ refused too_long p
  long_back p h = read_long h.long ∙ ap (refused too_long) (sym h.place)

  outside_back : (p : ℕ) → OutsideRules s p → read_under decimals s ≡ refused outside_rules p
  outside_back p h =
      read_short h.short ∙ ap (marked decimals (length s) (marks_of s)) (ap first_outside h.split ∙ outside_first p h.before h.after h.inside)

  past_back : (p : ℕ) → PastLimit s p → read_under decimals s ≡ refused past_limit p
  past_back p h = read_clean h.clean ∙ ap (shaped decimals (length s)) (past_stopped (marks_of s) h.at h.past) ∙ ap (refused past_limit) h.place

  -- an earlier split has an earlier place
  earlier_place : (pre t : Place) → marks_of s ≡ pre ++ t → (m : Placed) (w r : Place) → t ≡ m ∷ (w ++ r) → place_of (length s) t < place_of (length s) r
  earlier_place pre t e m w r z =
      let (b, _, h) = rises_part 0 (length s) pre t (rw e at (marks_rise s)) in
      subst (λ x. place_of (length s) x < place_of (length s) r) (sym z) (later_place b (length s) m w r (subst (Rises b (length s)) z h))

  shape_back : (p : ℕ) → OutOfShape s p → read_under decimals s ≡ refused out_of_shape p
  shape_back p h = read_clean h.clean ∙ ap (shaped decimals (length s)) stopped ∙ ap (refused out_of_shape) h.place
    where
      stopped : card (at (marks_of s) zero) ≡ stop out_of_shape h.at
      stopped = unfit_stopped (marks_of s) h.at h.unfit λ t q m w z.
          let e = q.split ∙ ap (λ x. q.before ++ x) (sym q.place) in
          h.earlier (place_of (length s) t) (rw (← h.place) (earlier_place q.before t e m w h.at z)) (record { clean = h.clean; at = t; past = q; place = refl })

  broken_back : (r p : ℕ) → Broken decimals r s p → read_under decimals s ≡ refused r p
  broken_back r p h =
      let c = h.shaped.shape in
      let (z, d) = broken_not_kept (seats_in c) r h.judgement h.broken in
      let along = card_along decimals h.shaped.said in
      let e = broken_first (seats_in c) (length s) (marks_of s) [] 0 (judged_card decimals c) along (marks_rise s) h.judgement h.judged d
      (λ i y l. h.earlier i y (rw h.place at l)) in
      read_shaped h.shaped
      ∙ ap (judged (length s) (card_in c)) e
      ∙ ap (λ i. refused i (place_of (length s) (place_in h.judgement))) z ∙ ap (refused r) h.place

-- ---- and each outcome has its reason

data Why (decimals : Rule) (r : ℕ) (s : List ℕ) (p : ℕ) : Type 0 where
  long : r ≡ too_long → TooLong s p → Why decimals r s p
  foul : r ≡ outside_rules → OutsideRules s p → Why decimals r s p
  unfit : r ≡ out_of_shape → OutOfShape s p → Why decimals r s p
  excess : r ≡ past_limit → PastLimit s p → Why decimals r s p
  rule : above_top ≤ r → Broken decimals r s p → Why decimals r s p

abbrev Meaning : Rule → List ℕ → Outcome → Type 0
Meaning decimals s (taken c) = Accepted decimals s c
Meaning decimals s (refused r p) = Why decimals r s p

late_number : (j : Judgement) → above_top ≤ refusal_of j
late_number (state most v p) = omega arith
late_number (word d w p) = omega arith
late_number (one_group g) = omega arith
late_number (weight decimals w p) = go (allowed decimals w)
  where
    go : (b : Bool) → above_top ≤ (when b then wrong_weight else decimal_weight)
    go true = omega arith
    go false = omega arith
late_number (sum ws p) = omega arith

module _ (decimals : Rule) (s : List ℕ) where
  judged_means : (h : Shaped s) (v : Verdict) → first_broken (seats_in h.shape) (judged_card decimals h.shape) ≡ v
      → Meaning decimals s (judged (length s) (card_in h.shape) v)
  judged_means h fine e = record { shaped = h; kept = none_broken (seats_in h.shape) (length s) (judged_card decimals h.shape) e; card = refl }
  judged_means h (wrong r p) e =
      let c = h.shape in
      let w = earliest (seats_in c) (length s) (marks_of s) [] 0 (judged_card decimals c) (card_along decimals h.said) (marks_rise s) r p e in
      rule (rw (← w.number) (late_number w.judgement)) (record {
        shaped = h;
        judgement = w.judgement;
        judged = w.judged;
        broken = rw w.number at (breaks (seats_in c) w.judgement w.broken);
        place = ap (place_of (length s)) w.place;
        earlier = λ j y l. w.earlier j y (rw w.place l);
      })

  shaped_means : Clean s → (x : Result CardShape) → card (at (marks_of s) zero) ≡ x → Meaning decimals s (shaped decimals (length s) x)
  shaped_means c (ok d st) e =
      let (t, w) = read_shape (marks_of s) d st e in
      judged_means (record { clean = c; shape = d; said = t; within = w }) (first_broken (seats_in d) (judged_card decimals d)) refl
  shaped_means c (stop n r) e = go (stop_numbers (marks_of s) n r e)
    where
      go : (n ≡ out_of_shape) ⊎ (n ≡ past_limit) → Why decimals n s (place_of (length s) r)
      go (inl z) =
          unfit z (record {
            clean = c;
            at = r;
            unfit = stopped_unfit (marks_of s) r (e ∙ ap (λ i. stop i r) z);
            place = refl;
            earlier = λ q l h.
                let z₁ : past_limit ≡ n = refused_number (sym (past_back decimals s q h) ∙ read_clean decimals s c ∙ ap (shaped decimals (length s)) e) in
                absurd (omega arith);
          })
      go (inr z) = excess z (record { clean = c; at = r; past = stopped_past (marks_of s) r (e ∙ ap (λ i. stop i r) z); place = refl })

  marked_means : length s ≤ card_bytes → (o : Option ℕ) → first_outside (marks_of s) ≡ o → Meaning decimals s (marked decimals (length s) (marks_of s) o)
  marked_means h none e = shaped_means (record { short = h; inside = none_outside (marks_of s) e }) (card (at (marks_of s) zero)) refl
  marked_means h (some p) e =
      let (pre, post, z, i) = first_outside_law (marks_of s) p e in
      foul refl (record { short = h; before = pre; after = post; split = z; inside = i })

  means : Meaning decimals s (read_under decimals s)
  means = go (dec_le (length s) card_bytes)
    where
      go : Dec (length s ≤ card_bytes) → Meaning decimals s (read_under decimals s)
      go (yes h) = subst (Meaning decimals s) (sym (read_short decimals s h)) (marked_means h (first_outside (marks_of s)) refl)
      go (no h) = let l : card_bytes < length s = omega arith in subst (Meaning decimals s) (sym (read_long decimals s l)) (long refl (record { long = l; place = refl }))

  reason : (r p : ℕ) → read_under decimals s ≡ refused r p → Why decimals r s p
  reason r p e = subst (Meaning decimals s) e means

-- ---- the theorems, under every rule of a weight

-- a card is taken exactly when its marks have the shape within the limits and every rule is kept, and then as the card that it says
pub accepted : (decimals : Rule) (s : List ℕ) (c : Card) → read_under decimals s ≡ taken c ↔ Accepted decimals s c
accepted decimals s c = ((λ e. subst (Meaning decimals s) e (means decimals s)), taken_back decimals s c)

pub refusal_1 : (decimals : Rule) (s : List ℕ) (p : ℕ) → read_under decimals s ≡ refused too_long p ↔ TooLong s p
refusal_1 decimals s p = ((λ e. go (reason decimals s too_long p e)), long_back decimals s p)
  where
    go : Why decimals too_long s p → TooLong s p
    go (long z h) = h
    go (foul z h) = absurd (omega arith)
    go (unfit z h) = absurd (omega arith)
    go (excess z h) = absurd (omega arith)
    go (rule z h) = absurd (omega arith)

pub refusal_2 : (decimals : Rule) (s : List ℕ) (p : ℕ) → read_under decimals s ≡ refused outside_rules p ↔ OutsideRules s p
refusal_2 decimals s p = ((λ e. go (reason decimals s outside_rules p e)), outside_back decimals s p)
  where
    go : Why decimals outside_rules s p → OutsideRules s p
    go (long z h) = absurd (omega arith)
    go (foul z h) = h
    go (unfit z h) = absurd (omega arith)
    go (excess z h) = absurd (omega arith)
    go (rule z h) = absurd (omega arith)

pub refusal_3 : (decimals : Rule) (s : List ℕ) (p : ℕ) → read_under decimals s ≡ refused out_of_shape p ↔ OutOfShape s p
refusal_3 decimals s p = ((λ e. go (reason decimals s out_of_shape p e)), shape_back decimals s p)
  where
    go : Why decimals out_of_shape s p → OutOfShape s p
    go (long z h) = absurd (omega arith)
    go (foul z h) = absurd (omega arith)
    go (unfit z h) = h
    go (excess z h) = absurd (omega arith)
    go (rule z h) = absurd (omega arith)

pub refusal_4 : (decimals : Rule) (s : List ℕ) (p : ℕ) → read_under decimals s ≡ refused past_limit p ↔ PastLimit s p
refusal_4 decimals s p = ((λ e. go (reason decimals s past_limit p e)), past_back decimals s p)
  where
    go : Why decimals past_limit s p → PastLimit s p
    go (long z h) = absurd (omega arith)
    go (foul z h) = absurd (omega arith)
    go (unfit z h) = absurd (omega arith)
    go (excess z h) = h
    go (rule z h) = absurd (omega arith)

-- 5, 6 and 7
late : (r : ℕ) → above_top ≤ r → (decimals : Rule) (s : List ℕ) (p : ℕ) → read_under decimals s ≡ refused r p ↔ Broken decimals r s p
late r l decimals s p = ((λ e. go (reason decimals s r p e)), broken_back decimals s r p)
  where
    go : Why decimals r s p → Broken decimals r s p
    go (long z h) = absurd (omega arith)
    go (foul z h) = absurd (omega arith)
    go (unfit z h) = absurd (omega arith)
    go (excess z h) = absurd (omega arith)
    go (rule z h) = h

pub refusal_5 : (decimals : Rule) (s : List ℕ) (p : ℕ) → read_under decimals s ≡ refused above_top p ↔ Broken decimals above_top s p
refusal_5 = late above_top (omega arith)

pub refusal_6 : (decimals : Rule) (s : List ℕ) (p : ℕ) → read_under decimals s ≡ refused not_due p ↔ Broken decimals not_due s p
refusal_6 = late not_due (omega arith)

pub refusal_7 : (decimals : Rule) (s : List ℕ) (p : ℕ) → read_under decimals s ≡ refused wrong_weight p ↔ Broken decimals wrong_weight s p
refusal_7 = late wrong_weight (omega arith)

-- 17, where no decimal may be a weight
pub refusal_17 : (decimals : Rule) (s : List ℕ) (p : ℕ) → read_under decimals s ≡ refused decimal_weight p ↔ Broken decimals decimal_weight s p
refusal_17 = late decimal_weight (omega arith)
