-- A literal from behind its seat word on: the relation's sign, then d. Each way out of the code is a way through the definition,
-- whatever place of the card the part begins at.
use Prim.Native.Nat.{ℕ}
use mathlib.Core.Path.{◌≡◌, refl, sym, ap, ◌∙◌}
use mathlib.Core.Bool.{Bool, true, false}
use mathlib.Core.List.{List, ◌∷◌}
use native.Mathlib.Omega.{arith}
use borrow.Author.Tests.{eqb-true}
use lib.Dec.{eqb}
use Rattle.card.specs.Refusals.{out_of_shape}
use Rattle.card.specs.Text.{when◌then◌else◌}
use Rattle.card.specs.Card.{Relation, is as eq, isnt as ne}
use Rattle.card.specs.Laid.{relation_number, either}
use Rattle.marks_on_a_card.specs.Marks.{placed, seat}
use Rattle.marks_on_a_card.specs.Kinds.{k_end, k_number, kind}
use Rattle.marks.specs.Step.{step_at, marks_at}
use Rattle.marks.specs.declared.Step.{Step}
use Rattle.marks.proofs.Next.{meet}
use Rattle.reading.specs.Reader.{at, Result, ok, stop, bind, return, the, number_of}
use Rattle.reading.specs.Group.{Literal, literal_of, relation_of, literal}
use Rattle.literals_due.specs.declared.Tail.{Tail}
use Rattle.std.specs.Prelude.{Option, Some, None, Result as Answer, Ok, Err}
use Rattle.group.specs.Found.{Stopped}
use Rattle.group.specs.LiteralRead.{relation_by, LiteralRead}
use Rattle.group.proofs.Ahead.{fits, unfit, the_number, the_relation, place_next, place_within, one_less, number_small}

-- ---- the relation

abbrev relation_in : ℕ → Relation
relation_in v = either eq ne v

module _ (o : ℕ) (s : List ℕ) (i n : ℕ) where
  abbrev sign : Step
  sign = step_at s i

  no_sign : relation_by sign.mark.kind ≡ None → the relation_of (at (marks_at o s i) n) ≡ stop out_of_shape (marks_at o s i)
  no_sign h = the_relation o s sign (marks_at o s i) n (meet o s i) ∙ go (eqb sign.mark.kind (kind "=")) (eqb sign.mark.kind (kind "!=")) h
    where
      go : (a b : Bool) → (when a then Some (relation_number eq) else (when b then Some (relation_number ne) else None)) ≡ None
          → (when a then ok eq (at (marks_at o s sign.next.at) n) else (when b then ok ne (at (marks_at o s sign.next.at) n) else stop out_of_shape (marks_at o s i))) ≡ stop out_of_shape (marks_at o s i)
      go true b e = absurd cc
      go false true e = absurd cc
      go false false e = refl

  -- the relation that its number says, and more marks than behind it
  record Related (v : ℕ) : Type 0 where
    number : v ≡ relation_number (relation_in v)
    found : the relation_of (at (marks_at o s i) n) ≡ ok (relation_in v) (at (marks_at o s sign.next.at) n)
    kind : sign.mark.kind ≡ k_end → ⊥

  related : (v : ℕ) → relation_by sign.mark.kind ≡ Some v → Related v
  related v e = go (eqb sign.mark.kind (kind "=")) refl (eqb sign.mark.kind (kind "!=")) refl e
    where
      go : (a : Bool) → eqb sign.mark.kind (kind "=") ≡ a → (b : Bool) → eqb sign.mark.kind (kind "!=") ≡ b
          → (when a then Some (relation_number eq) else (when b then Some (relation_number ne) else None)) ≡ Some v → Related v
      go true p b q e = let f : v ≡ relation_number eq = cc in rw f (record {
        number = refl;
        found = the_relation o s sign (marks_at o s i) n (meet o s i) ∙ rw p;
        kind = λ z. omega (arith, eqb-true sign.mark.kind (kind "=") p);
      })
      go false p true q e = let f : v ≡ relation_number ne = cc in rw f (record {
        number = refl;
        found = the_relation o s sign (marks_at o s i) n (meet o s i) ∙ rw (p, q);
        kind = λ z. omega (arith, eqb-true sign.mark.kind (kind "!=") q);
      })
      go false p false q e = absurd cc

-- ---- the literal

abbrev pub Reads : List ℕ → ℕ → Answer Tail ℕ → Type 0
Reads s from t = (o n i x : ℕ) → LiteralRead o s from n i (literal (at (placed (seat i) x ∷ marks_at o s from) n)) t

-- a part is out of shape where the mark ahead does not fit
pub stops_here : (o : ℕ) (s : List ℕ) (c : ℕ) → Stopped o s out_of_shape (marks_at o s c) (step_at s c).mark.place
stops_here o s c = record {
  number = refl;
  place = place_next o s (step_at s c) (marks_at o s c) (meet o s c);
  within = place_within o s (step_at s c) (marks_at o s c) (meet o s c);
}

module _ (s : List ℕ) (from : ℕ) where
  read_as : (o n i : ℕ) {a b : Result Literal} (t : Answer Tail ℕ) → a ≡ b → LiteralRead o s from n i b t → LiteralRead o s from n i a t
  read_as o n i t e h = rw e h

  no_relation : relation_by (step_at s from).mark.kind ≡ None → Reads s from (Err (step_at s from).mark.place)
  no_relation h o n i x =
      read_as o n i (Err (step_at s from).mark.place) (ap (λ y. bind y (λ q b. bind (the number_of b) (λ d. return (literal_of i q d b.marks)))) (no_sign o s from n h))
      (stops_here o s from)

  module _ (r : ℕ) (rel : relation_by (step_at s from).mark.kind ≡ Some r) where
    abbrev behind : ℕ
    behind = (step_at s from).next.at

    abbrev number : Step
    number = step_at s behind

    behind_sign : (o n i x : ℕ) → literal (at (placed (seat i) x ∷ marks_at o s from) n) ≡ bind (the number_of (at (marks_at o s behind) n)) (λ d. return (literal_of i (relation_in r) d (marks_at o s behind)))
    behind_sign o n i x = ap (λ y. bind y (λ q b. bind (the number_of b) (λ d. return (literal_of i q d b.marks)))) (related o s from n r rel).found

    no_number : (number.mark.kind ≡ k_number → ⊥) → Reads s from (Err number.mark.place)
    no_number h o n i x =
        read_as o n i (Err number.mark.place)
        (behind_sign o n i x ∙ ap (λ y. bind y (λ d. return (literal_of i (relation_in r) d (marks_at o s behind)))) (the_number o s number (marks_at o s behind) n (meet o s behind) ∙ unfit number.mark.value o s number (marks_at o s behind) n k_number h))
        (stops_here o s behind)

    whole : number.mark.kind ≡ k_number → Reads s from (Ok (record { next = number.next.at; relation = r; d = number.mark.value; first = number.mark.place }))
    whole h o n i x =
        read_as o n i _
        (behind_sign o n i x ∙ ap (λ y. bind y (λ d. return (literal_of i (relation_in r) d (marks_at o s behind)))) (the_number o s number (marks_at o s behind) n (meet o s behind) ∙ fits number.mark.value o s number (marks_at o s behind) n k_number h))
        (record {
          rest = refl;
          seat = refl;
          relation = (related o s from n r rel).number;
          d = refl;
          small = number_small o s number (marks_at o s behind) (meet o s behind) h;
          first = place_next o s number (marks_at o s behind) (meet o s behind);
          first_within = place_within o s number (marks_at o s behind) (meet o s behind);
          fewer = omega (arith, one_less o s (step_at s from) (marks_at o s from) (meet o s from) (related o s from n r rel).kind, one_less o s number (marks_at o s behind) (meet o s behind) (λ z. omega arith));
        })

-- the same of what the code has: a and b are its steps
module _ (s : List ℕ) (from : ℕ) where
  pub literal_sign : (a : Step) → a ≡ step_at s from → relation_by a.mark.kind ≡ None → Reads s from (Err a.mark.place)
  literal_sign a e = rw e (no_relation s from)

  pub literal_number : (r : ℕ) (a b : Step) → a ≡ step_at s from → b ≡ step_at s a.next.at → relation_by a.mark.kind ≡ Some r
      → (b.mark.kind ≡ k_number → ⊥) → Reads s from (Err b.mark.place)
  literal_number r a b e = rw e (λ f. rw f (no_number s from r))

  pub literal_whole : (r : ℕ) (a b : Step) → a ≡ step_at s from → b ≡ step_at s a.next.at → relation_by a.mark.kind ≡ Some r
      → b.mark.kind ≡ k_number → Reads s from (Ok (record { next = b.next.at; relation = r; d = b.mark.value; first = b.mark.place }))
  literal_whole r a b e = rw e (λ f. rw f (whole s from r))
