-- What is kept while a question is read is its first claim that does not fit: settling after one claim more is settling before it or else
-- that claim's own refusal. Where all fit, the leaves among the nodes are the question's. Assumes nothing.
use Prim.Native.Nat.{ℕ, zero, suc, ◌≤◌}
use mathlib.Core.Path.{◌≡◌, refl, sym, ap, ◌∙◌}
use mathlib.Core.Bool.{Bool, true, false, ◌&&◌}
use mathlib.Core.List.{List, [], ◌∷◌, ◌++◌}
use native.Mathlib.Omega.{arith}
use borrow.Author.Tests.{eqb-true, ne_eqb, le-leb}
use lib.Dec.{eqb, leb}
use lib.ListN.{length}
use Rattle.card.specs.Limits.{most_seats}
use Rattle.card.specs.Refusals.{above_top, not_due}
use Rattle.card.specs.Text.{when◌then◌else◌}
use Rattle.card.specs.Card.{everyone, group, Formula, atom, neg, and, or}
use Rattle.card.specs.Formulas.{over}
use Rattle.marks_on_a_card.specs.Marks.{place_of}
use Rattle.reading.specs.Reader.{Place}
use Rattle.reading.specs.Group.{Literal}
use Rattle.reading.specs.Judgements.{has, has_from, alike, Verdict, fine, wrong}
use Rattle.late.specs.Late.{Late, none_yet, up_to_most, kind_by, group_by, grouped as grouped_late}
use Rattle.late.specs.Values.{most_of}
use Rattle.std.specs.Prelude.{Ok, Err}
use Rattle.card.proofs.Verdicts.{ok≢refused}
use Rattle.late.specs.Settled.{refusal, Due, or_next, settled, verdict}
use Rattle.late.proofs.Symmetric.{and_both}
use Rattle.late.proofs.Settling.{or_assoc, settled_fine, settled_blamed, settled_grouped}
use Rattle.asking.specs.Question.{Item, a_group, exactly_one, a_test}
use Rattle.asking.specs.Meant.{leaf_for}
use Rattle.asking.specs.Asking.{Claim, state, everyone as everyone_of, exactly, claim_at, due, first_d, claims_of, claims, is_everyone, is_terms, term_d, is_exactly_one, fits, first_unfit, first_relation, literal_d, atom_in, question_in}
use Rattle.term_literals.specs.Wanted.{want_of_terms}
use Rattle.items.specs.Language.{want_of_all, judge_claim, claim_all, item_by, questions, leaves_of, judged_of}

-- ---- what an item wants is the number of seats for which it is as said

-- m is wanted if it is a number of seats and b holds
up_to_most_law : (m n : ℕ) (b c : Bool) → 1 ≤ n → n ≤ most_seats → (m ≡ n → b ≡ c) → eqb (up_to_most m b) n ≡ (eqb m n && c)
up_to_most_law m n b c least most h = go (eqb m n) refl b refl
  where
    small : m ≡ n → (leb m most_seats ≡ true)
    small e = le-leb m most_seats (omega (arith, e))

    none : eqb 0 n ≡ false
    none = ne_eqb 0 n (λ z. omega (arith, z))

    go : (t : Bool) → eqb m n ≡ t → (a : Bool) → b ≡ a → eqb (when leb m most_seats && a then m else 0) n ≡ (t && c)
    go true e true f = rw (small (eqb-true m n e), e) (sym f ∙ h (eqb-true m n e))
    go true e false f = rw (small (eqb-true m n e), none) (sym f ∙ h (eqb-true m n e))
    go false e true f = other (leb m most_seats)
      where
        other : (u : Bool) → eqb (when u && true then m else 0) n ≡ false
        other true = e
        other false = none
    go false e false f = other (leb m most_seats)
      where
        other : (u : Bool) → eqb (when u && false then m else 0) n ≡ false
        other true = none
        other false = none

module _ (n : ℕ) (least : 1 ≤ n) (most : n ≤ most_seats) where
  pub terms_want : (ts : List (List Literal)) → is_exactly_one n ts ≡ eqb (want_of_terms ts) n
  terms_want ts = sym (up_to_most_law (length ts) n (is_terms (length ts) (term_d ts) 1 ts) (is_terms n (term_d ts) 1 ts) least most (λ e. ap (λ m. is_terms m (term_d ts) 1 ts) e))

  none_wanted : eqb 0 n ≡ false
  none_wanted = ne_eqb 0 n (λ z. omega (arith, z))

  -- without seat 1 it is none of everyone
  no_first : (m : ℕ) (ls : List Literal) → 1 ≤ m → has 1 ls ≡ false → has_from 1 m ls ≡ false
  no_first zero ls l e = absurd (omega arith)
  no_first (suc m) ls l e = rw e

  and_none : (a b : Bool) → (a && (b && false)) ≡ false
  and_none true true = refl
  and_none true false = refl
  and_none false b = refl

  pub everyone_want : (ls : List Literal) → is_everyone n ls ≡ eqb (want_of_all ls) n
  everyone_want [] = sym none_wanted
  everyone_want (l ∷ ls) = go (has 1 (l ∷ ls)) refl (alike l ls)
    where
      all : List Literal
      all = l ∷ ls

      go : (b : Bool) → has 1 all ≡ b → (a : Bool)
          → (a && (eqb (length all) n && has_from 1 n all))
          ≡ eqb (when b then (when a then (when b then up_to_most (length all) (has_from 1 (length all) all) else up_to_most (suc (length all)) (has_from 2 (length all) all)) else 0) else 0) n
      go true e true = sym (up_to_most_law (length all) n (has_from 1 (length all) all) (has_from 1 n all) least most (λ z. ap (λ m. has_from 1 m all) z))
      go true e false = sym none_wanted
      go false e a = rw (no_first n all least e) (and_none a (eqb (length all) n) ∙ sym none_wanted)

-- ---- the first claim that does not fit

module _ (e n : ℕ) (least : 1 ≤ n) (most : n ≤ most_seats) where
  abbrev own : Claim → Due
  own c = when fits n c then Ok tt else Err (refusal (due c) (place_of e (claim_at c)))

  settled_want : (x : Late) (m p : ℕ) (b : Bool) → b ≡ eqb m n → settled n (grouped_late m p x) ≡ or_next (settled n x) (when b then Ok tt else Err (refusal not_due p))
  settled_want x m p b h = rw h (settled_grouped n m p x least)

  settled_claim : (c : Claim) (x : Late) → settled n (judge_claim e c x) ≡ or_next (settled n x) (own c)
  settled_claim (state bound v p) x = settled_blamed n x (leb v bound) above_top (place_of e p) refl
  settled_claim (everyone_of g) x = settled_want x (want_of_all g.literals) (place_of e g.place) (is_everyone n g.literals) (everyone_want n least most g.literals)
  settled_claim (exactly p ts) x = settled_want x (want_of_terms ts) (place_of e p) (is_exactly_one n ts) (terms_want n least most ts)

  one_more : (c : Claim) (v : Verdict) → or_next (own c) (verdict e v) ≡ verdict e (when fits n c then v else wrong (due c) (claim_at c))
  one_more c v = go (fits n c)
    where
      go : (b : Bool) → or_next (when b then Ok tt else Err (refusal (due c) (place_of e (claim_at c)))) (verdict e v) ≡ verdict e (when b then v else wrong (due c) (claim_at c))
      go true = refl
      go false = refl

  settled_all : (cs : List Claim) (x : Late) → settled n (claim_all e cs x) ≡ or_next (settled n x) (verdict e (first_unfit n cs))
  unfolding claim_all
  settled_all [] x = settled_fine n x
  settled_all (c ∷ cs) x =
      settled_all cs (judge_claim e c x)
      ∙ ap (λ a. or_next a (verdict e (first_unfit n cs))) (settled_claim c x)
      ∙ or_assoc (settled n x) (own c) (verdict e (first_unfit n cs))
      ∙ ap (or_next (settled n x)) (one_more c (first_unfit n cs))

  claim_append : (xs ys : List Claim) (x : Late) → claim_all e (xs ++ ys) x ≡ claim_all e ys (claim_all e xs x)
  unfolding claim_all
  claim_append [] ys x = refl
  claim_append (c ∷ cs) ys x = claim_append cs ys (judge_claim e c x)

  module _ (k v : ℕ) where
    claims_judged : (g : Formula Item) (x : Late) → judged_of (questions v) k e g x ≡ claim_all e (claims k (most_of v) g) x
    claims_judged (atom a) x = refl
    claims_judged (neg g) x = claims_judged g x
    claims_judged (and g h) x =
        let gs = claims k (most_of v) g in
        let hs = claims k (most_of v) h in
        ap (judged_of (questions v) k e h) (claims_judged g x) ∙ claims_judged h (claim_all e gs x) ∙ sym (claim_append gs hs x)
    claims_judged (or g h) x =
        let gs = claims k (most_of v) g in
        let hs = claims k (most_of v) h in
        ap (judged_of (questions v) k e h) (claims_judged g x) ∙ claims_judged h (claim_all e gs x) ∙ sym (claim_append gs hs x)

    -- what is settled in the end
    pub settled_question : (g : Formula Item) → settled n (judged_of (questions v) k e g none_yet) ≡ verdict e (first_unfit n (claims k (most_of v) g))
    settled_question g = ap (settled n) (claims_judged g none_yet) ∙ settled_all (claims k (most_of v) g) none_yet

  -- where nothing is due all claims fit
  pub none_unfit : (v : Verdict) → Ok tt ≡ verdict e v → v ≡ fine
  none_unfit fine h = refl
  none_unfit (wrong r p) h = ok≢refused h

-- a claim that does not fit has a number
pub unfit_some : (n : ℕ) (cs : List Claim) {r : ℕ} {p : Place} → first_unfit n cs ≡ wrong r p → r ≡ 0 → ⊥
unfit_some n [] h z = let y : ◌≡◌ {A = ℕ} 0 1 = cc in omega arith
unfit_some n (c ∷ cs) {r} {p} h z = go (unfit_some n cs) (fits n c) h
  where
    some_due : (c : Claim) → due c ≡ 0 → ⊥
    some_due (state bound v p) y = omega arith
    some_due (everyone_of g) y = omega arith
    some_due (exactly p ts) y = omega arith

    go : (first_unfit n cs ≡ wrong r p → r ≡ 0 → ⊥) → (b : Bool) → (when b then first_unfit n cs else wrong (due c) (claim_at c)) ≡ wrong r p → ⊥
    go more true k = more k z
    go more false k = let e : due c ≡ r = cc in some_due c (e ∙ z)

-- ---- where all fit

module _ (n k v : ℕ) (least : 1 ≤ n) where
  fine_cons : (c : Claim) (cs : List Claim) → first_unfit n (c ∷ cs) ≡ fine → (fits n c ≡ true) × (first_unfit n cs ≡ fine)
  fine_cons c cs h = go (fits n c) h
    where
      go : (b : Bool) → (when b then first_unfit n cs else wrong (due c) (claim_at c)) ≡ fine → (b ≡ true) × (first_unfit n cs ≡ fine)
      go true z = (refl, z)
      go false z = let y : ◌≡◌ {A = ℕ} 0 1 = cc in absurd (omega arith)

  fine_append : (xs ys : List Claim) → first_unfit n (xs ++ ys) ≡ fine → (first_unfit n xs ≡ fine) × (first_unfit n ys ≡ fine)
  fine_append [] ys h = (refl, h)
  fine_append (c ∷ cs) ys h =
      let both = fine_cons c (cs ++ ys) h in
      let rest = fine_append cs ys both.1 in
      (rw both.0 rest.0, rest.1)

  -- a group of everyone has seat 1
  first_seat : (m : ℕ) (ls : List Literal) → 1 ≤ m → has_from 1 m ls ≡ true → has 1 ls ≡ true
  first_seat zero ls l h = absurd (omega arith)
  first_seat (suc m) ls l h = (and_both (has 1 ls) (has_from 2 m ls) h).0

  everyone_kind : (l : Literal) (ls : List Literal) → is_everyone n (l ∷ ls) ≡ true → kind_by (l ∷ ls) ≡ everyone
  everyone_kind l ls h =
      let once = (and_both (alike l ls) (eqb (length (l ∷ ls)) n && has_from 1 n (l ∷ ls)) h).1 in
      let seats = (and_both (eqb (length (l ∷ ls)) n) (has_from 1 n (l ∷ ls)) once).1 in
      rw (first_seat n (l ∷ ls) least seats) refl

  item_leaf : (x : Item) → first_unfit n (claims_of k (most_of v) x) ≡ fine → item_by x ≡ leaf_for (atom_in x)
  item_leaf (a_group g) h = go g.literals (fine_cons (everyone_of g) (first_d k g.literals) h).0
    where
      go : (ls : List Literal) → is_everyone n ls ≡ true → group_by g.sign ls ≡ group everyone g.sign (first_relation ls) (literal_d ls)
      go [] z = refl
      go (l ∷ ls) z = ap (λ kind. group kind g.sign l.relation l.d) (everyone_kind l ls z)
  item_leaf (exactly_one p ts) h = refl
  item_leaf (a_test x) h = refl

  pub same_leaves : (g : Formula Item) → first_unfit n (claims k (most_of v) g) ≡ fine → leaves_of (questions v) g ≡ over leaf_for (question_in g)
  same_leaves (atom x) h = ap atom (item_leaf x h)
  same_leaves (neg g) h = ap neg (same_leaves g h)
  same_leaves (and g i) h = let both = fine_append (claims k (most_of v) g) (claims k (most_of v) i) h in rw (same_leaves g both.0, same_leaves i both.1)
  same_leaves (or g i) h = let both = fine_append (claims k (most_of v) g) (claims k (most_of v) i) h in rw (same_leaves g both.0, same_leaves i both.1)
