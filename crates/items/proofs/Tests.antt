-- A test is read as a literal is behind its seat word, and then its bracket: so the literal's answer is the test's but for the bracket.
-- Assumes nothing.
use Prim.Native.Nat.{ℕ, ◌<◌, min}
use mathlib.Core.Path.{◌≡◌, refl, ap, ap₂, ◌∙◌}
use mathlib.Core.List.{List, ◌∷◌}
use native.Mathlib.Omega.{arith}
use Rattle.card.specs.Limits.{numbers}
use Rattle.card.specs.Card.{Relation, is, isnt}
use Rattle.card.specs.Laid.{relation_number, shared_kind, pack_group}
use Rattle.marks_on_a_card.specs.Marks.{placed, seat}
use Rattle.marks_on_a_card.specs.Kinds.{kind}
use Rattle.marks.specs.Step.{step_at, marks_at}
use Rattle.marks.specs.declared.Step.{Step}
use Rattle.marks.proofs.Next.{meet}
use Rattle.literals_due.specs.declared.Tail.{Tail}
use Rattle.reading.specs.Reader.{Place, State, at, Result, ok, stop, Reader, bind, ◌>>◌, return, the, sign, number_of}
use Rattle.reading.specs.Group.{Literal, relation_of, literal, SharedTest, shared_test}
use Rattle.grammar.specs.Grammar.{sign_at, valued}
use Rattle.group.specs.declared.Grouped.{Grouped}
use Rattle.std.specs.Prelude.{Result as Answer, Ok, Err}
use Rattle.group.specs.LiteralRead.{ReadLiteral, LiteralRead}
use Rattle.group.proofs.Signs.{Known}
use Rattle.group.proofs.Ahead.{fits, unfit, sign_next, next_within, next_past}
use Rattle.group.proofs.Literals.{Reads, stops_here}
use Rattle.group.proofs.Groups.{found_as}
use Rattle.items.specs.SharedRead.{ReadTest, TestRead}

close_known : Known ")"
close_known = record { above = omega arith; alone = refl; same = refl }

-- the test that a literal's relation and number make, with the bracket behind it
abbrev closes : Literal → Reader SharedTest
closes l = sign ")" >> return (record { relation = l.relation; value = valued l.d l.place })

by_literal : (ms : Place) (n x i y : ℕ) → shared_test (at (sign_at "g" x ∷ ms) n) ≡ bind (literal (at (placed (seat i) y ∷ ms) n)) closes
by_literal ms n x i y = related (the relation_of (at ms n))
  where
    numbered : (q : Relation) (p : Place) (z : Result ℕ)
        → bind (bind z (λ v. return (valued v p))) (λ w s. bind (sign ")" s) (λ u. return (record { relation = q; value = w })))
        ≡ bind (bind z (λ d. return (record { seat = i; relation = q; d = d; place = p }))) closes
    numbered q p (ok v s) = refl
    numbered q p (stop m r) = refl

    related : (z : Result Relation)
        → bind z (λ q s. bind (bind (the number_of s) (λ v. return (valued v s.marks))) (λ w s₁. bind (sign ")" s₁) (λ u. return (record { relation = q; value = w }))))
        ≡ bind (bind z (λ q s. bind (the number_of s) (λ d. return (record { seat = i; relation = q; d = d; place = s.marks })))) closes
    related (ok q s) = numbered q s.marks (the number_of s)
    related (stop m r) = refl

relation_small : (q : Relation) → min (relation_number q) 1 ≡ relation_number q
relation_small is = refl
relation_small isnt = refl

-- ---- as the code finds it

abbrev pub Answers : List ℕ → ℕ → Answer Grouped ℕ → Type 0
Answers s from r = (o n x : ℕ) → TestRead o s n (shared_test (at (sign_at "g" x ∷ marks_at o s from) n)) r

module _ (s : List ℕ) (from : ℕ) where
  pub literal_wrong : (e : ℕ) → Reads s from (Err e) → Answers s from (Err e)
  literal_wrong e reads o n x =
      found_as (ReadTest o s n) o s (Err e) (by_literal (marks_at o s from) n x 0 0) (go (literal (at (placed (seat 0) 0 ∷ marks_at o s from) n)) (reads o n 0 0))
    where
      go : (y : Result Literal) → LiteralRead o s from n 0 y (Err e) → TestRead o s n (bind y closes) (Err e)
      go (ok l b) h = absurd h
      go (stop m q) h = h

  module _ (t : Tail) (reads : Reads s from (Ok t)) (c : Step) (step : c ≡ step_at s t.next) where
    behind : (r : Answer Grouped ℕ) → ((o n : ℕ) (l : Literal) (b : State) → ReadLiteral o s from n 0 l b t → TestRead o s n (closes l (at (marks_at o s t.next) n)) r) → Answers s from r
    behind r k o n x =
        found_as (ReadTest o s n) o s r (by_literal (marks_at o s from) n x 0 0) (go (literal (at (placed (seat 0) 0 ∷ marks_at o s from) n)) (reads o n 0 0))
      where
        go : (y : Result Literal) → LiteralRead o s from n 0 y (Ok t) → TestRead o s n (bind y closes) r
        go (ok l b) h = found_as (ReadTest o s n) o s r (ap (closes l) h.rest) (k o n l b h)
        go (stop m q) h = absurd h

    pub stays_open : (c.mark.kind ≡ kind ")" → ⊥) → Answers s from (Err c.mark.place)
    stays_open h = rw step (behind (Err (step_at s t.next).mark.place) λ o n l b r.
        let i = meet o s t.next in
        let e = sign_next o s ")" close_known (step_at s t.next) (marks_at o s t.next) n i ∙ unfit tt o s (step_at s t.next) (marks_at o s t.next) n (kind ")") (rw step at h) in
        rw e (stops_here o s t.next))

    pub closed : c.mark.kind ≡ kind ")" → (node : ℕ) → node ≡ pack_group shared_kind 0 (min t.relation 1) (min t.d numbers)
        → Answers s from (Ok (record { next = c.next.at; want = 0; kind = shared_kind; node = node; d = t.d; first = t.first }))
    closed h node packed = rw step (behind _ λ o n l b r.
        let i = meet o s t.next in
        let e = sign_next o s ")" close_known (step_at s t.next) (marks_at o s t.next) n i ∙ fits tt o s (step_at s t.next) (marks_at o s t.next) n (kind ")") (rw step at h) in
        rw e (record {
          rest = refl;
          left = refl;
          kind = refl;
          node = packed ∙ ap₂ (pack_group shared_kind 0) (ap (λ v. min v 1) r.relation ∙ relation_small l.relation) (small r.small ∙ r.d);
          d = r.d;
          first = r.first;
          past = next_past o s (step_at s t.next) (marks_at o s t.next) i (λ z. omega (arith, rw step at h));
          next_within = next_within o s (step_at s t.next) (marks_at o s t.next) i;
          first_within = r.first_within;
        }))
      where
        small : {v : ℕ} → v < numbers → min v numbers ≡ v
        small l = omega arith
