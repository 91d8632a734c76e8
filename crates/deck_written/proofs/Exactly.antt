-- What writing says, exactly: a deck where contents and bodies are fine, and 11 where they are not, at the place that the first of count, fields
-- and bodies names. Each stage passes or stops; that there is no third way carries both directions. Assumes nothing.
use Prim.Native.Nat.{ℕ, zero, suc, ◌+◌, ◌*◌, ◌%◌, ◌<◌, ◌≤◌}
use mathlib.Core.Path.{◌≡◌, refl, sym, ap, ◌∙◌, subst}
use mathlib.Core.Bool.{true}
use mathlib.Core.Logic.{◌↔◌, ◌⊎◌}
use mathlib.Core.List.{List}
use native.Mathlib.Decide.{dec_le, dec_lt, ℕ_discrete}
use native.Mathlib.Omega.{arith}
use lib.Dec.{leb, eqb}
use borrow.Author.Tests.{leb-true, le-leb, eqb-true, eq-eqb}
use lib.ListN.{length}
use Rattle.card.specs.Limits.{deck_bytes, most_cards}
use Rattle.card.specs.Refusals.{malformed_deck}
use Rattle.entry.specs.Said.{Said, says, refused, ◌>>◌}
use Rattle.entry.specs.Numbers.{only, Among}
use Rattle.entry.specs.Stage.{Stage}
use Rattle.entry.proofs.Stages.{says≢refused, same_said, same_place, among_refused}
use Rattle.deck.specs.Contents.{rows_of, behind, Field, number_field, offset_field, size_field, flag_field, zero_field}
use Rattle.deck.specs.Deck.{deck_text}
use Rattle.deck.specs.Sound.{row_at}
use Rattle.deck.proofs.Judged.{flag_small, flag_either}
use Rattle.deck_written.specs.WriteDeckSaid.{count_in, lines, count_said, lines_said, sizes, bodies_said, entries_said, write_deck_said}
use Rattle.deck_written.specs.Fine.{Count, RightIn, place_in, AllRight, FirstWrongIn, Fitting, Fine, RefusedAt, wrong_count, wrong_field, not_fitting}
use Rattle.deck_written.proofs.InOrder.{First, None, InOrder, passed, stopped, order_passes, order_refuses}
use Rattle.deck_written.proofs.OnePlace.{OnePlace, holds, fails, one_test, one_then, one_as, one_passes, one_refuses}
use Rattle.deck_written.proofs.Fields.{WrongAt, fields_order}

-- ---- the count

pub counts : {contents : List ℕ} {c : ℕ} → Count contents c → count_in contents ≡ c
counts k = omega (arith, k.long)

count_order : (contents : List ℕ) → OnePlace malformed_deck (length contents) (count_said contents) ((c : ℕ) × Count contents c)
count_order contents =
    one_as
    (one_then (one_test (eqb (length contents % 8) 0) malformed_deck (length contents))
    (one_then (one_test (leb 1 (count_in contents)) malformed_deck (length contents)) (one_test (leb (count_in contents) most_cards) malformed_deck (length contents))))
    to of
  where
    Tests : Type 0
    Tests = (eqb (length contents % 8) 0 ≡ true) × ((leb 1 (count_in contents) ≡ true) × (leb (count_in contents) most_cards ≡ true))

    to : Tests → (c : ℕ) × Count contents c
    to h = (
      count_in contents,
      record {
        long = omega (arith, eqb-true (length contents % 8) 0 h.0);
        some = leb-true 1 (count_in contents) h.1.0;
        few = leb-true (count_in contents) most_cards h.1.1;
      },
    )

    of : (c : ℕ) × Count contents c → Tests
    of w = (
      eq-eqb (length contents % 8) 0 (omega (arith, w.1.long)),
      (le-leb 1 (count_in contents) (omega (arith, w.1.long, w.1.some)), le-leb (count_in contents) most_cards (omega (arith, w.1.long, w.1.few))),
    )

pub count_right : (contents : List ℕ) → count_said contents ≡ says tt → Count contents (count_in contents)
count_right contents e = go (count_order contents)
  where
    go : OnePlace malformed_deck (length contents) (count_said contents) ((c : ℕ) × Count contents c) → Count contents (count_in contents)
    go (holds f w) = subst (Count contents) (sym (counts w.1)) w.1
    go (fails f n) = says≢refused (sym e ∙ f)

-- ---- the fields

module _ (contents : List ℕ) where
  right_or_not : (i : ℕ) (f : Field) → Dec (RightIn contents i f)
  right_or_not zero number_field = yes tt
  right_or_not (suc i) number_field = dec_lt (row_at contents i).number (row_at contents (suc i)).number
  right_or_not i offset_field = yes tt
  right_or_not i size_field = yes tt
  right_or_not i flag_field = go (dec_le (row_at contents i).flag 1)
    where
      go : Dec ((row_at contents i).flag ≤ 1) → Dec (((row_at contents i).flag ≡ 0) ⊎ ((row_at contents i).flag ≡ 1))
      go (yes l) = yes (flag_either _ l)
      go (no l) = no (λ h. l (flag_small h))
  right_or_not i zero_field = ℕ_discrete (row_at contents i).zero_byte 0

field_places : (i : ℕ) (f : Field) → (8 * i ≤ place_in i f) × (place_in i f < 8 * i + 8)
field_places i number_field = (omega arith, omega arith)
field_places i offset_field = (omega arith, omega arith)
field_places i size_field = (omega arith, omega arith)
field_places i flag_field = (omega arith, omega arith)
field_places i zero_field = (omega arith, omega arith)

module _ {contents : List ℕ} {c : ℕ} where
  all_right : None (WrongAt contents c) → AllRight contents c
  all_right n i h f = go (right_or_not contents i f)
    where
      go : Dec (RightIn contents i f) → RightIn contents i f
      go (yes r) = r
      go (no w) = absurd (n (place_in i f) (record { entry = i; field = f; inside = h; place = refl; wrong = w }))

  none_wrong : AllRight contents c → None (WrongAt contents c)
  none_wrong a q w = w.wrong (a w.entry w.inside w.field)

  first_wrong : {p : ℕ} (f : First (WrongAt contents c) p) → FirstWrongIn contents c f.there.entry f.there.field
  first_wrong {p} f = record { inside = f.there.inside; wrong = f.there.wrong; before = before }
    where
      before : (j : ℕ) (g : Field) → place_in j g < place_in f.there.entry f.there.field → RightIn contents j g
      before j g l = go (right_or_not contents j g)
        where
          go : Dec (RightIn contents j g) → RightIn contents j g
          go (yes r) = r
          go (no w) = absurd (f.none_before (place_in j g) (omega (arith, f.there.place)) (record {
            entry = j;
            field = g;
            inside = omega (arith, f.there.inside, (field_places j g).0, (field_places f.there.entry f.there.field).1);
            place = refl;
            wrong = w;
          }))

  is_first : {i : ℕ} {f : Field} → FirstWrongIn contents c i f → First (WrongAt contents c) (place_in i f)
  is_first {i} {f} h = record {
    there = record { entry = i; field = f; inside = h.inside; place = refl; wrong = h.wrong };
    none_before = λ q l w. w.wrong (h.before w.entry w.field (omega (arith, w.place)));
  }

  pub lines_in_order : Count contents c → InOrder malformed_deck (lines_said 0 0 (lines contents)) (WrongAt contents c)
  lines_in_order k = subst (λ (n : ℕ). InOrder malformed_deck (lines_said 0 0 (rows_of n contents)) (WrongAt contents c)) (sym (counts k)) (fields_order contents c)

  pub fields_said : Count contents c → AllRight contents c → lines_said 0 0 (lines contents) ≡ says tt
  fields_said k a = order_passes (lines_in_order k) (none_wrong a)

  pub fields_right : Count contents c → lines_said 0 0 (lines contents) ≡ says tt → AllRight contents c
  fields_right k e = go (lines_in_order k)
    where
      go : InOrder malformed_deck (lines_said 0 0 (lines contents)) (WrongAt contents c) → AllRight contents c
      go (passed f n) = all_right n
      go (stopped p f w) = says≢refused (sym e ∙ f)

-- ---- the bodies

pub bodies_order : (contents bodies : List ℕ) (c : ℕ) → Count contents c → OnePlace malformed_deck (length contents) (bodies_said contents bodies) (Fitting contents bodies)
bodies_order contents bodies c k =
    one_as
    (one_then (one_test (eqb (sizes (lines contents)) (length bodies)) malformed_deck (length contents))
    (one_test (leb (behind (count_in contents) + length bodies) deck_bytes) malformed_deck (length contents)))
    (λ h. record {
      whole = eqb-true (sizes (lines contents)) (length bodies) h.0;
      short = omega (arith, leb-true (behind (count_in contents) + length bodies) deck_bytes h.1, k.long);
    })
    (λ h. (eq-eqb (sizes (lines contents)) (length bodies) h.whole, le-leb (behind (count_in contents) + length bodies) deck_bytes (omega (arith, h.short, k.long))))

-- ---- all of it

module _ {A : Type 0} {x : Said (Unit {0})} (y : Said A) where
  passing : x ≡ says tt → x >> y ≡ y
  passing e = ap (λ (z : Said (Unit {0})). z >> y) e

  stopping : {r p : ℕ} → x ≡ refused r p → x >> y ≡ refused r p
  stopping e = ap (λ (z : Said (Unit {0})). z >> y) e

module _ (contents bodies : List ℕ) where
  -- what is said of fine contents and bodies
  abbrev pub text : List ℕ
  text = deck_text (entries_said contents bodies)

  behind_fields : Said (List ℕ)
  behind_fields = bodies_said contents bodies >> says text

  behind_count : Said (List ℕ)
  behind_count = lines_said 0 0 (lines contents) >> behind_fields

  -- one of the two
  pub data Outcome : Type 0 where
    written : Fine contents bodies → write_deck_said contents bodies ≡ says text → Outcome
    stopped_at : (p : ℕ) → RefusedAt contents bodies p → write_deck_said contents bodies ≡ refused malformed_deck p → Outcome

  pub said_count : ((c : ℕ) → Count contents c → ⊥) → write_deck_said contents bodies ≡ refused malformed_deck (length contents)
  unfolding write_deck_said behind_fields behind_count
  said_count n = stopping behind_count (one_refuses (count_order contents) (λ w. n w.0 w.1))

  module _ {c : ℕ} (k : Count contents c) where
    past_count : write_deck_said contents bodies ≡ behind_count
    unfolding write_deck_said behind_fields behind_count
    past_count = passing behind_count (one_passes (count_order contents) (c, k))

    pub said_field : {i : ℕ} {f : Field} → FirstWrongIn contents c i f → write_deck_said contents bodies ≡ refused malformed_deck (place_in i f)
    unfolding behind_count
    said_field {i} {f} w = past_count ∙ stopping behind_fields (order_refuses (lines_in_order k) (place_in i f) (is_first w))

    module _ (a : AllRight contents c) where
      past_fields : write_deck_said contents bodies ≡ behind_fields
      unfolding behind_count
      past_fields = past_count ∙ passing behind_fields (fields_said k a)

      pub said_bodies : (Fitting contents bodies → ⊥) → write_deck_said contents bodies ≡ refused malformed_deck (length contents)
      unfolding behind_fields
      said_bodies n = past_fields ∙ stopping (says text) (one_refuses (bodies_order contents bodies c k) n)

      said_deck : Fitting contents bodies → write_deck_said contents bodies ≡ says text
      unfolding behind_fields
      said_deck h = past_fields ∙ passing (says text) (one_passes (bodies_order contents bodies c k) h)

  pub outcome : Outcome
  outcome = go (count_order contents)
    where
      bodies_way : (c : ℕ) → Count contents c → AllRight contents c → OnePlace malformed_deck (length contents) (bodies_said contents bodies) (Fitting contents bodies) → Outcome
      bodies_way c k a (holds e h) = written (record { count = c; counted = k; fields = a; fitting = h }) (said_deck k a h)
      bodies_way c k a (fails e n) = stopped_at (length contents) (not_fitting c k a n) (said_bodies k a n)

      fields_way : (c : ℕ) → Count contents c → InOrder malformed_deck (lines_said 0 0 (lines contents)) (WrongAt contents c) → Outcome
      fields_way c k (passed e n) = bodies_way c k (all_right n) (bodies_order contents bodies c k)
      fields_way c k (stopped p e f) = stopped_at _ (wrong_field c f.there.entry f.there.field k (first_wrong f)) (said_field k (first_wrong f))

      go : OnePlace malformed_deck (length contents) (count_said contents) ((c : ℕ) × Count contents c) → Outcome
      go (holds e w) = fields_way w.0 w.1 (lines_in_order w.1)
      go (fails e n) = stopped_at (length contents) (wrong_count (λ c k. n (c, k))) (said_count (λ c k. n (c, k)))

  -- a deck is said exactly of fine contents and bodies
  pub said_fine : Fine contents bodies → write_deck_said contents bodies ≡ says text
  said_fine h = said_deck h.counted h.fields h.fitting

  pub fine_said : (t : List ℕ) → write_deck_said contents bodies ≡ says t → Fine contents bodies × (t ≡ text)
  fine_said t e = go outcome
    where
      go : Outcome → Fine contents bodies × (t ≡ text)
      go (written h k) = (h, same_said (sym e ∙ k))
      go (stopped_at p w k) = says≢refused (sym e ∙ k)

  pub refused_said : (p : ℕ) → RefusedAt contents bodies p → write_deck_said contents bodies ≡ refused malformed_deck p
  refused_said p (wrong_count n) = said_count n
  refused_said p (wrong_field c i f k w) = said_field k w
  refused_said p (not_fitting c k a n) = said_bodies k a n

  pub said_refused : (p : ℕ) → write_deck_said contents bodies ≡ refused malformed_deck p → RefusedAt contents bodies p
  said_refused p e = go outcome
    where
      go : Outcome → RefusedAt contents bodies p
      go (written h k) = says≢refused (sym k ∙ e)
      go (stopped_at q w k) = subst (RefusedAt contents bodies) (same_place (sym k ∙ e)) w

  -- 11 exactly at these places
  pub refused_exactly : (p : ℕ) → (write_deck_said contents bodies ≡ refused malformed_deck p) ↔ RefusedAt contents bodies p
  refused_exactly p = (said_refused p, refused_said p)

  -- and no other number
  pub numbers : Among (only malformed_deck) (write_deck_said contents bodies)
  numbers = go outcome
    where
      go : Outcome → Among (only malformed_deck) (write_deck_said contents bodies)
      go (written h k) = subst (Among (only malformed_deck)) (sym k) (record { number = λ r p e. says≢refused e })
      go (stopped_at p w k) = subst (Among (only malformed_deck)) (sym k) (among_refused malformed_deck p)

  pub stage : Stage (write_deck_said contents bodies) (only malformed_deck) (Fine contents bodies) (λ _. text)
  stage = record { numbers = numbers; found = record { each = said_fine; only = fine_said } }
