-- What is kept on the way is the first broken judgement: settling after one judgement more is settling before it or else that
-- judgement's own refusal, and this folds over the list. Where nothing is broken, the groups kept by what they want are the card's.
use Prim.Native.Nat.{ℕ, ◌≤◌}
use mathlib.Core.Path.{◌≡◌, refl, sym, ap, ◌∙◌}
use mathlib.Core.Bool.{Bool, true, false, ◌&&◌}
use mathlib.Core.List.{List, [], ◌∷◌, ◌++◌}
use mathlib.Core.Option.{Option as Maybe, none, some}
use Rattle.std.specs.Prelude.{Option}
use Rattle.std.specs.Option.{option_or}
use Rattle.std.specs.Prelude.{Ok, Err, Some, None, is_some}
use native.Mathlib.Omega.{arith}
use borrow.Author.Tests.{eqb-true, eqb-false, eq-eqb, ne_eqb}
use lib.Dec.{eqb, leb}
use Rattle.card.specs.Limits.{most_seats, unit}
use Rattle.card.specs.Refusals.{above_top, not_due, wrong_weight, decimal_weight}
use Rattle.card.specs.Text.{when◌then◌else◌}
use Rattle.card.specs.Card.{Sign, group, Formula, atom, neg, and, or}
use Rattle.card.specs.Weight.{units_of, allowed, weight_refusal}
use Rattle.marks_on_a_card.specs.Marks.{place_of}
use Rattle.reading.specs.Reader.{Place}
use Rattle.reading.specs.Guard.{is_some as is_some_of}
use Rattle.reading.specs.Group.{Literal, Tested, of_seats, of_shared}
use Rattle.reading.specs.Judgements.{Judgement, state, word, one_group, weight, sum, place_in, symmetric, unless, broken, Verdict, fine, or_else, first_broken, total_units, first_state, judged_test, judged_guard, group_in, leaf_in, guard_in}
use Rattle.late.specs.declared.state.Groups.{Groups}
use Rattle.late.specs.Late.{Late, want_of, none_yet, blame, blame_any, with_group, wants, grouped, blamed, blamed_any, judge, judge_all, group_by, leaf_by, guard_by}
use Rattle.late.specs.Settled.{Refusal, refusal, Due, or_next, second_due, group_due, kept_due, settled, verdict}
use Rattle.late.proofs.Symmetric.{symmetric_want, symmetric_kind}

-- the judgements of two lists, one after the other
pub judge_append : (e : ℕ) (xs ys : List Judgement) (x : Late) → judge_all e (xs ++ ys) x ≡ judge_all e ys (judge_all e xs x)
unfolding judge_all
judge_append e [] ys x = refl
judge_append e (j ∷ js) ys x = judge_append e js ys (judge e j x)

-- ---- the first of two refusals

pub or_assoc : (a b c : Due) → or_next (or_next a b) c ≡ or_next a (or_next b c)
or_assoc (Ok u) b c = refl
or_assoc (Err e) b c = refl

or_fine : (a : Due) → a ≡ or_next a (Ok tt)
or_fine (Ok u) = refl
or_fine (Err e) = refl

-- ---- one judgement more, for n seats

-- the first that is kept
kept_more : (o : Option Refusal) (e : Refusal) → kept_due (option_or o (Some e)) ≡ or_next (kept_due o) (Err e)
kept_more None e = refl
kept_more (Some d) e = refl

second_more : (o : Option ℕ) (p : ℕ) → second_due (option_or o (Some p)) ≡ or_next (second_due o) (Err (refusal not_due p))
second_more None p = refl
second_more (Some q) p = refl

module _ (n : ℕ) (x : Late) where
  settled_blame_any : (r p : ℕ) → settled n (blame_any r p x) ≡ or_next (settled n x) (Err (refusal r p))
  settled_blame_any r p = rw kept_more (sym (or_assoc (group_due n x.groups) (kept_due x.refusal) (Err (refusal r p))))

  settled_blame : (r p : ℕ) → eqb r 0 ≡ false → settled n (blame r p x) ≡ or_next (settled n x) (Err (refusal r p))
  settled_blame r p h = rw h (settled_blame_any r p)

  pub settled_fine : settled n x ≡ or_next (settled n x) (Ok tt)
  settled_fine = or_fine (settled n x)

  pub settled_blamed : (b : Bool) (r p : ℕ) → eqb r 0 ≡ false → settled n (blamed (unless b r) p x) ≡ or_next (settled n x) (when b then Ok tt else Err (refusal r p))
  settled_blamed true r p h = settled_fine
  settled_blamed false r p h = settled_blame r p h

  -- the number 0 is no refusal
  pub settled_blamed_zero : (b : Bool) (p : ℕ) → settled n (blamed (unless b 0) p x) ≡ settled n x
  settled_blamed_zero true p = refl
  settled_blamed_zero false p = refl

  pub settled_blamed_any : (b : Bool) (r p : ℕ) → settled n (blamed_any (unless b r) p x) ≡ or_next (settled n x) (when b then Ok tt else Err (refusal r p))
  settled_blamed_any true r p = settled_fine
  settled_blamed_any false r p = settled_blame_any r p

module _ (n m p : ℕ) where
  abbrev own : Due
  own = when eqb m n then Ok tt else Err (refusal not_due p)

  -- a group after the first: the first is wrong, or it is right
  group_more : (o : Option Groups) → group_due n (Some (with_group m p o)) ≡ or_next (group_due n o) own
  group_more None = refl
  group_more (Some g) = go (eqb g.want m) refl (eqb g.want n) refl
    where
      right : eqb g.want m ≡ true → eqb g.want n ≡ true → own ≡ Ok tt
      right i k = rw (eq-eqb m n (sym (eqb-true g.want m i) ∙ eqb-true g.want n k))

      bad : eqb g.want m ≡ false → eqb g.want n ≡ true → own ≡ Err (refusal not_due p)
      bad i k = rw (ne_eqb m n (λ z. eqb-false g.want m i (eqb-true g.want n k ∙ sym z)))

      go : (t : Bool) → eqb g.want m ≡ t → (u : Bool) → eqb g.want n ≡ u
          → group_due n (Some (when t then g else record g { second = option_or g.second (Some p) })) ≡ or_next (group_due n (Some g)) own
      go true i true k = rw (right i k, k) (or_fine (second_due g.second))
      go true i false k = rw k
      go false i true k = rw (bad i k, k) (second_more g.second p)
      go false i false k = rw k

  settled_wants : (x : Late) → settled n (wants m p x) ≡ or_next (settled n x) own
  settled_wants x = go x.refusal refl
    where
      go : (o : Option Refusal) → x.refusal ≡ o → settled n (when is_some o then x else record x { groups = Some (with_group m p x.groups) }) ≡ or_next (settled n x) own
      go None e = rw (e, group_more x.groups) (or_assoc (group_due n x.groups) own (Ok tt) ∙ ap (or_next (group_due n x.groups)) (sym (or_fine own)) ∙ sym (or_assoc (group_due n x.groups) (Ok tt) own))
      go (Some d) e = rw e (sym (or_assoc (group_due n x.groups) (Err d) own))

  pub settled_grouped : (x : Late) → 1 ≤ n → settled n (grouped m p x) ≡ or_next (settled n x) own
  settled_grouped x least = go (eqb m 0) refl
    where
      go : (t : Bool) → eqb m 0 ≡ t → settled n (when t then blame not_due p x else wants m p x) ≡ or_next (settled n x) own
      go true e = rw (ne_eqb m n (λ z. omega (arith, eqb-true m 0 e))) (settled_blame n x not_due p refl)
      go false e = settled_wants x

some_refusal : (b : Bool) → eqb (when b then wrong_weight else decimal_weight) 0 ≡ false
some_refusal true = refl
some_refusal false = refl

module _ (e n : ℕ) (least : 1 ≤ n) (most : n ≤ most_seats) where
  abbrev one : Judgement → Due
  one j = verdict e (or_else (broken n j) (place_in j) fine)

  one_test : (b : Bool) (r : ℕ) (j : Judgement) → broken n j ≡ unless b r → (when b then Ok tt else Err (refusal r (place_of e (place_in j)))) ≡ one j
  one_test true r j h = rw h
  one_test false r j h = rw h

  settled_judge : (j : Judgement) (x : Late) → settled n (judge e j x) ≡ or_next (settled n x) (one j)
  settled_judge (state bound v p) x = settled_blamed n x (leb v bound) above_top (place_of e p) refl ∙ ap (or_next (settled n x)) (one_test (leb v bound) above_top (state bound v p) refl)
  settled_judge (word due was p) x = settled_blamed n x (eqb was due) not_due (place_of e p) refl ∙ ap (or_next (settled n x)) (one_test (eqb was due) not_due (word due was p) refl)
  settled_judge (one_group g) x =
      settled_grouped n (want_of g.literals) (place_of e g.place) x least
      ∙ ap (or_next (settled n x)) (one_test (eqb (want_of g.literals) n) not_due (one_group g) (ap (λ b. unless b not_due) (symmetric_want n g.literals least most)))
  settled_judge (weight decimals w p) x =
      let fits = allowed decimals w && is_some_of (units_of w) in
      settled_blamed n x fits (weight_refusal decimals w) (place_of e p) (some_refusal (allowed decimals w)) ∙ ap (or_next (settled n x)) (one_test fits (weight_refusal decimals w) (weight decimals w p) refl)
  settled_judge (sum ws p) x =
      settled_blamed n x (eqb (total_units ws) unit) wrong_weight (place_of e p) refl ∙ ap (or_next (settled n x)) (one_test (eqb (total_units ws) unit) wrong_weight (sum ws p) refl)

  one_more : (j : Judgement) (v : Verdict) → or_next (one j) (verdict e v) ≡ verdict e (or_else (broken n j) (place_in j) v)
  one_more j v = go (broken n j)
    where
      go : (o : Maybe ℕ) → or_next (verdict e (or_else o (place_in j) fine)) (verdict e v) ≡ verdict e (or_else o (place_in j) v)
      go none = refl
      go (some r) = refl

  settled_all : (js : List Judgement) (x : Late) → settled n (judge_all e js x) ≡ or_next (settled n x) (verdict e (first_broken n js))
  unfolding judge_all
  settled_all [] x = settled_fine n x
  settled_all (j ∷ js) x =
      settled_all js (judge e j x)
      ∙ ap (λ a. or_next a (verdict e (first_broken n js))) (settled_judge j x)
      ∙ or_assoc (settled n x) (one j) (verdict e (first_broken n js))
      ∙ ap (or_next (settled n x)) (one_more j (first_broken n js))

  -- what is settled in the end is the first broken judgement
  pub settled_first : (js : List Judgement) → settled n (judge_all e js none_yet) ≡ verdict e (first_broken n js)
  settled_first js = settled_all js none_yet

-- ---- where nothing is broken

module _ (n : ℕ) where
  fine_tail : (b : Maybe ℕ) (p : Place) (v : Verdict) → or_else b p v ≡ fine → (b ≡ none) × (v ≡ fine)
  fine_tail none p v h = (refl, h)
  fine_tail (some r) p v h = let z : ◌≡◌ {A = ℕ} 0 1 = cc in absurd (omega arith)

  pub fine_cons : (j : Judgement) (js : List Judgement) → first_broken n (j ∷ js) ≡ fine → (broken n j ≡ none) × (first_broken n js ≡ fine)
  fine_cons j js h = fine_tail (broken n j) (place_in j) (first_broken n js) h

  pub fine_append : (xs ys : List Judgement) → first_broken n (xs ++ ys) ≡ fine → (first_broken n xs ≡ fine) × (first_broken n ys ≡ fine)
  fine_append [] ys h = (refl, h)
  fine_append (j ∷ js) ys h =
      let both = fine_cons j (js ++ ys) h in
      let rest = fine_append js ys both.1 in
      (rw both.0 rest.0, rest.1)

  not_broken : (b : Bool) (r : ℕ) → unless b r ≡ none → b ≡ true
  not_broken true r h = refl
  not_broken false r h = let z : ◌≡◌ {A = ℕ} 0 1 = cc in absurd (omega arith)

  -- the groups by what they want are the groups for n seats
  same_group : (s : Sign) (ls : List Literal) → symmetric n ls ≡ true → group_by s ls ≡ group_in n s ls
  same_group s [] h = refl
  same_group s (l ∷ ls) h = ap (λ kind. group kind s l.relation l.d) (symmetric_kind n l ls h)

  same_leaf : (k m : ℕ) (x : Tested) → first_broken n (judged_test k m x) ≡ fine → leaf_by x ≡ leaf_in n x
  same_leaf k m (of_seats g) h =
      same_group g.sign g.literals (not_broken (symmetric n g.literals) not_due (fine_cons (one_group g) (first_state k g.literals) h).0)
  same_leaf k m (of_shared x) h = refl

  pub same_guard : (k m : ℕ) (g : Formula Tested) → first_broken n (judged_guard k m g) ≡ fine → guard_by g ≡ guard_in n g
  same_guard k m (atom x) h = ap atom (same_leaf k m x h)
  same_guard k m (neg g) h = ap neg (same_guard k m g h)
  same_guard k m (and g i) h =
      let both = fine_append (judged_guard k m g) (judged_guard k m i) h in
      rw (same_guard k m g both.0, same_guard k m i both.1)
  same_guard k m (or g i) h =
      let both = fine_append (judged_guard k m g) (judged_guard k m i) h in
      rw (same_guard k m g both.0, same_guard k m i both.1)
