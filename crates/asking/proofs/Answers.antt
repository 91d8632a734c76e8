-- Reading a question means what "2026-01" says: it is taken exactly when it is a question, and each refusal 21 to 26 is given at a place exactly
-- when its row says so. Each reason leads to its outcome, and each outcome has its reason. Assumes nothing.
use Prim.Native.Nat.{ℕ, zero, ◌≤◌, ◌<◌}
use mathlib.Core.Path.{◌≡◌, refl, sym, ap, ◌∙◌, subst}
use mathlib.Core.Logic.{◌⊎◌, inl, inr, ◌↔◌}
use mathlib.Core.List.{List, [], ◌∷◌, ◌++◌}
use mathlib.Core.Option.{Option, none, some}
use native.Mathlib.Omega.{arith}
use native.Mathlib.Decide.{dec_le}
use borrow.Author.Tests.{le-leb, lt-leb}
use lib.ListN.{length}
use Rattle.card.specs.Limits.{card_bytes}
use Rattle.card.specs.Refusals.{too_long, outside_rules, out_of_shape, past_limit, above_top, not_due}
use Rattle.card.specs.Card.{Formula}
use Rattle.marks_on_a_card.specs.Marks.{Placed, marks_of, place_of}
use Rattle.late.specs.Values.{shares, most_of}
use Rattle.reading.specs.Reader.{Place, at, Result, ok, stop}
use Rattle.reading.specs.Judgements.{Verdict, fine, wrong}
use Rattle.reading.specs.Reading.{first_outside}
use Rattle.grammar.specs.Verdicts.{Clean, TooLong, OutsideRules}
use Rattle.reading.proofs.Rising.{Rises, marks_rise, rises_part, later_place}
use Rattle.grammar.proofs.Reasons.{none_outside, inside_none, first_outside_law, outside_first}
use Rattle.asking.specs.Question.{Item, question}
use Rattle.asking.specs.Meant.{Question}
use Rattle.entry.specs.Said.{Said, says, refused}
use Rattle.asking.specs.Asking.{Claim, state, everyone, exactly, claim_at, due, claims, first_unfit, question_in, judged_as, shaped_as, marked_as, question_of}
use Rattle.asking.specs.Asking.{QuestionPastLimit, QuestionOutOfShape, QuestionShaped, QuestionBroken, QuestionAccepted, in_question}
use Rattle.asking.proofs.Asked.{question_read, question_within, question_past, question_stopped_unfit, question_unfit_stopped, question_stops}
use Rattle.asking.proofs.Claims.{question_claims, none_unfit, all_fit, first_unfit_law, unfit_first}

refused_number : {r i p q : ℕ} → ◌≡◌ {A = Said Question} (refused r p) (refused i q) → r ≡ i
refused_number e = cc

module _ (n k values : ℕ) where
  module _ (s : List ℕ) where
    read_long : card_bytes < length s → question_of n k values s ≡ refused (in_question too_long) 0
    unfolding question_of
    read_long h = rw (lt-leb (length s) card_bytes h)

    read_short : length s ≤ card_bytes → question_of n k values s ≡ marked_as n k values (length s) (marks_of s) (first_outside (marks_of s))
    unfolding question_of
    read_short h = rw (le-leb (length s) card_bytes h)

    read_clean : Clean s → question_of n k values s ≡ shaped_as n k values (length s) (question (shares values) (at (marks_of s) zero))
    read_clean c = read_short c.short ∙ ap (marked_as n k values (length s) (marks_of s)) (inside_none (marks_of s) c.inside)

    read_shaped : (h : QuestionShaped values s) → question_of n k values s ≡ judged_as (length s) (question_in h.shape) (first_unfit n (claims k (most_of values) h.shape))
    read_shaped h = let (i, e) = (question_read (shares values) (marks_of s) h.shape).1 (h.said, h.within) in read_clean h.clean ∙ ap (shaped_as n k values (length s)) e

    -- ---- each reason leads to its outcome

    taken_back : (q : Question) → QuestionAccepted n k values s q → question_of n k values s ≡ says q
    taken_back q h =
        let g = h.shaped.shape in
        read_shaped h.shaped ∙ ap (judged_as (length s) (question_in g)) (all_fit n (claims k (most_of values) g) h.kept) ∙ ap says (sym h.question)

    long_back : (p : ℕ) → TooLong s p → question_of n k values s ≡ refused (in_question too_long) p
    long_back p h = read_long h.long ∙ ap (refused (in_question too_long)) (sym h.place)

    outside_back : (p : ℕ) → OutsideRules s p → question_of n k values s ≡ refused (in_question outside_rules) p
    outside_back p h =
        read_short h.short ∙ ap (marked_as n k values (length s) (marks_of s)) (ap first_outside h.split ∙ outside_first p h.before h.after h.inside)

    past_back : (p : ℕ) → QuestionPastLimit values s p → question_of n k values s ≡ refused (in_question past_limit) p
    past_back p h = read_clean h.clean ∙ ap (shaped_as n k values (length s)) ((question_past (shares values) (marks_of s) h.at).1 h.past) ∙ ap (refused (in_question past_limit)) h.place

    -- an earlier split has an earlier place
    earlier_place : (pre t : Place) → marks_of s ≡ pre ++ t → (m : Placed) (w r : Place) → t ≡ m ∷ (w ++ r) → place_of (length s) t < place_of (length s) r
    earlier_place pre t e m w r z =
        let (b, _, h) = rises_part 0 (length s) pre t (rw e at (marks_rise s)) in
        subst (λ x. place_of (length s) x < place_of (length s) r) (sym z) (later_place b (length s) m w r (subst (Rises b (length s)) z h))

    shape_back : (p : ℕ) → QuestionOutOfShape values s p → question_of n k values s ≡ refused (in_question out_of_shape) p
    shape_back p h = read_clean h.clean ∙ ap (shaped_as n k values (length s)) stopped ∙ ap (refused (in_question out_of_shape)) h.place
      where
        stopped : question (shares values) (at (marks_of s) zero) ≡ stop out_of_shape h.at
        stopped = question_unfit_stopped (shares values) (marks_of s) h.at h.unfit λ t q m w z.
            let e = q.split ∙ ap (λ x. q.before ++ x) (sym q.place) in
            h.earlier (place_of (length s) t) (rw (← h.place) (earlier_place q.before t e m w h.at z)) (record { clean = h.clean; at = t; past = q; place = refl })

    broken_back : (r p : ℕ) → QuestionBroken n k values r s p → question_of n k values s ≡ refused (in_question r) p
    broken_back r p h =
        let g = h.shaped.shape in
        let along = question_claims k (most_of values) h.shaped.said in
        let e = unfit_first n (length s) (marks_of s) [] 0 (claims k (most_of values) g) along (marks_rise s) h.claim h.judged h.broken
        (λ i y l. h.earlier i y (rw h.place at l)) in
        read_shaped h.shaped
        ∙ ap (judged_as (length s) (question_in g)) e
        ∙ ap (λ i. refused (in_question i) (place_of (length s) (claim_at h.claim))) h.number ∙ ap (refused (in_question r)) h.place

  -- ---- and each outcome has its reason

  data Why (r : ℕ) (s : List ℕ) (p : ℕ) : Type 0 where
    long : r ≡ in_question too_long → TooLong s p → Why r s p
    foul : r ≡ in_question outside_rules → OutsideRules s p → Why r s p
    unfit : r ≡ in_question out_of_shape → QuestionOutOfShape values s p → Why r s p
    excess : r ≡ in_question past_limit → QuestionPastLimit values s p → Why r s p
    rule : (i : ℕ) → r ≡ in_question i → above_top ≤ i → QuestionBroken n k values i s p → Why r s p

  abbrev Meaning : List ℕ → Said Question → Type 0
  Meaning s (says q) = QuestionAccepted n k values s q
  Meaning s (refused r p) = Why r s p

  late_number : (j : Claim) → above_top ≤ due j
  late_number (state most v p) = omega arith
  late_number (everyone g) = omega arith
  late_number (exactly p ts) = omega arith

  last_number : (j : Claim) → due j ≤ not_due
  last_number (state most v p) = omega arith
  last_number (everyone g) = omega arith
  last_number (exactly p ts) = omega arith

  module _ (s : List ℕ) where
    judged_means : (h : QuestionShaped values s) (v : Verdict) → first_unfit n (claims k (most_of values) h.shape) ≡ v
        → Meaning s (judged_as (length s) (question_in h.shape) v)
    judged_means h fine e = record { shaped = h; kept = none_unfit n (claims k (most_of values) h.shape) e; question = refl }
    judged_means h (wrong r p) e =
        let w = first_unfit_law n (length s) (marks_of s) [] 0 (claims k (most_of values) h.shape) (question_claims k (most_of values) h.said) (marks_rise s) r p e in
        rule r refl (rw (← w.number) (late_number w.claim)) (record {
          shaped = h;
          claim = w.claim;
          judged = w.judged;
          number = w.number;
          broken = w.broken;
          place = ap (place_of (length s)) w.place;
          earlier = λ j y l. w.earlier j y (rw w.place l);
        })

    shaped_means : Clean s → (x : Result (Formula Item)) → question (shares values) (at (marks_of s) zero) ≡ x → Meaning s (shaped_as n k values (length s) x)
    shaped_means c (ok g st) e =
        let (t, w) = question_within (shares values) (marks_of s) g st e in
        judged_means (record { clean = c; shape = g; said = t; within = w }) (first_unfit n (claims k (most_of values) g)) refl
    shaped_means c (stop i r) e = go (question_stops (shares values) (marks_of s) i r e)
      where
        go : (i ≡ out_of_shape) ⊎ (i ≡ past_limit) → Why (in_question i) s (place_of (length s) r)
        go (inl z) =
            unfit (ap in_question z) (record {
              clean = c;
              at = r;
              unfit = question_stopped_unfit (shares values) (marks_of s) r (e ∙ ap (λ i. stop i r) z);
              place = refl;
              earlier = λ q l h.
                  let z₁ : in_question past_limit ≡ in_question i = refused_number (sym (past_back s q h) ∙ read_clean s c ∙ ap (shaped_as n k values (length s)) e) in
                  absurd (omega arith);
            })
        go (inr z) = excess (ap in_question z) (record { clean = c; at = r; past = (question_past (shares values) (marks_of s) r).0 (e ∙ ap (λ i. stop i r) z); place = refl })

    marked_means : length s ≤ card_bytes → (o : Option ℕ) → first_outside (marks_of s) ≡ o → Meaning s (marked_as n k values (length s) (marks_of s) o)
    marked_means h none e = shaped_means (record { short = h; inside = none_outside (marks_of s) e }) (question (shares values) (at (marks_of s) zero)) refl
    marked_means h (some p) e =
        let (pre, post, z, i) = first_outside_law (marks_of s) p e in
        foul refl (record { short = h; before = pre; after = post; split = z; inside = i })

    means : Meaning s (question_of n k values s)
    means = go (dec_le (length s) card_bytes)
      where
        go : Dec (length s ≤ card_bytes) → Meaning s (question_of n k values s)
        go (yes h) = subst (Meaning s) (sym (read_short s h)) (marked_means h (first_outside (marks_of s)) refl)
        go (no h) = let l : card_bytes < length s = omega arith in subst (Meaning s) (sym (read_long s l)) (long refl (record { long = l; place = refl }))

    reason : (r p : ℕ) → question_of n k values s ≡ refused r p → Why r s p
    reason r p e = subst (Meaning s) e means

    -- ---- the theorems

    pub accepted : (q : Question) → question_of n k values s ≡ says q ↔ QuestionAccepted n k values s q
    accepted q = ((λ e. subst (Meaning s) e means), taken_back s q)

    pub refusal_21 : (p : ℕ) → question_of n k values s ≡ refused (in_question too_long) p ↔ TooLong s p
    refusal_21 p = ((λ e. go (reason (in_question too_long) p e)), long_back s p)
      where
        go : Why (in_question too_long) s p → TooLong s p
        go (long z h) = h
        go (foul z h) = absurd (omega arith)
        go (unfit z h) = absurd (omega arith)
        go (excess z h) = absurd (omega arith)
        go (rule i z l h) = absurd (omega arith)

    pub refusal_22 : (p : ℕ) → question_of n k values s ≡ refused (in_question outside_rules) p ↔ OutsideRules s p
    refusal_22 p = ((λ e. go (reason (in_question outside_rules) p e)), outside_back s p)
      where
        go : Why (in_question outside_rules) s p → OutsideRules s p
        go (long z h) = absurd (omega arith)
        go (foul z h) = h
        go (unfit z h) = absurd (omega arith)
        go (excess z h) = absurd (omega arith)
        go (rule i z l h) = absurd (omega arith)

    pub refusal_23 : (p : ℕ) → question_of n k values s ≡ refused (in_question out_of_shape) p ↔ QuestionOutOfShape values s p
    refusal_23 p = ((λ e. go (reason (in_question out_of_shape) p e)), shape_back s p)
      where
        go : Why (in_question out_of_shape) s p → QuestionOutOfShape values s p
        go (long z h) = absurd (omega arith)
        go (foul z h) = absurd (omega arith)
        go (unfit z h) = h
        go (excess z h) = absurd (omega arith)
        go (rule i z l h) = absurd (omega arith)

    pub refusal_24 : (p : ℕ) → question_of n k values s ≡ refused (in_question past_limit) p ↔ QuestionPastLimit values s p
    refusal_24 p = ((λ e. go (reason (in_question past_limit) p e)), past_back s p)
      where
        go : Why (in_question past_limit) s p → QuestionPastLimit values s p
        go (long z h) = absurd (omega arith)
        go (foul z h) = absurd (omega arith)
        go (unfit z h) = absurd (omega arith)
        go (excess z h) = h
        go (rule i z l h) = absurd (omega arith)

    -- 25 and 26
    late : (r p : ℕ) → above_top ≤ r → question_of n k values s ≡ refused (in_question r) p ↔ QuestionBroken n k values r s p
    late r p l = ((λ e. go (reason (in_question r) p e)), broken_back s r p)
      where
        go : Why (in_question r) s p → QuestionBroken n k values r s p
        go (long z h) = absurd (omega arith)
        go (foul z h) = absurd (omega arith)
        go (unfit z h) = absurd (omega arith)
        go (excess z h) = absurd (omega arith)
        go (rule i z l h) = let q : i ≡ r = omega arith in rw q at h

    pub refusal_25 : (p : ℕ) → question_of n k values s ≡ refused (in_question above_top) p ↔ QuestionBroken n k values above_top s p
    refusal_25 p = late above_top p (omega arith)

    pub refusal_26 : (p : ℕ) → question_of n k values s ≡ refused (in_question not_due) p ↔ QuestionBroken n k values not_due s p
    refusal_26 p = late not_due p (omega arith)

    -- and there is no other refusal
    pub numbered : (r p : ℕ) → question_of n k values s ≡ refused r p → (in_question too_long ≤ r) × (r ≤ in_question not_due)
    numbered r p e = go (reason r p e)
      where
        go : Why r s p → (in_question too_long ≤ r) × (r ≤ in_question not_due)
        go (long z h) = (omega arith, omega arith)
        go (foul z h) = (omega arith, omega arith)
        go (unfit z h) = (omega arith, omega arith)
        go (excess z h) = (omega arith, omega arith)
        go (rule i z l h) = let m : i ≤ not_due = rw (← h.number) (last_number h.claim) in (omega arith, omega arith)
