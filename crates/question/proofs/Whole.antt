-- The whole question: too long, a stop, marks behind it, or a shape whose claims decide. Assumes nothing.
use Prim.Native.Nat.{ℕ, zero, ◌-◌, ◌≤◌, ◌<◌}
use mathlib.Core.Path.{◌≡◌, refl, sym, ap, ◌∙◌, subst}
use mathlib.Core.Bool.{true}
use mathlib.Core.List.{List, []}
use mathlib.Core.Option.{Option, none, some}
use native.Mathlib.Omega.{arith}
use borrow.Author.Tests.{le-leb, lt-leb}
use lib.ListN.{length}
use Rattle.card.specs.Limits.{card_bytes, most_seats, most_nodes, most_depth}
use Rattle.card.specs.Refusals.{too_long, outside_rules, out_of_shape}
use Rattle.card.specs.Card.{Leaf, Formula}
use Rattle.card.specs.Valid.{size}
use Rattle.card.specs.Laid.{below, cells}
use Rattle.card.specs.Stored.{stored}
use Rattle.card.proofs.Atoms.{size_over}
use Rattle.card.proofs.Storing.{size_below}
use Rattle.marks_on_a_card.specs.Marks.{place_of}
use Rattle.marks_on_a_card.specs.Kinds.{k_end}
use Rattle.marks.specs.Step.{step_at, marks_at}
use Rattle.marks.specs.declared.Step.{Step}
use Rattle.marks.proofs.Next.{marks_whole}
use Rattle.marks_on_a_card.proofs.KindLaws.{kind_some}
use Rattle.reading.specs.Reader.{Place, State, at, Result, ok, stop, bind, return}
use Rattle.reading.specs.Guard.{expression}
use Rattle.reading.specs.Judgements.{Verdict, fine, wrong}
use Rattle.reading.specs.Shape.{ended, the_end}
use Rattle.reading.specs.Reading.{first_outside}
use Rattle.late.specs.Values.{shares, most_of}
use Rattle.late.specs.Late.{none_yet}
use Rattle.late.specs.Settled.{Refusal, Due, settled, verdict}
use Rattle.parts.proofs.Answers.{went_on}
use Rattle.late.specs.declared.state.State.{State as Carried}
use Rattle.late.specs.State.{NextPlace, at_first, left_in, free_in, late_in, After, after}
use Rattle.parts.proofs.Steps.{Next, end, one, next_at, place_seen}
use Rattle.search.specs.Search.{searched}
use Rattle.card.proofs.Verdicts.{refusal_is, ok≢refused}
use Rattle.search.proofs.Passed.{Held}
use Rattle.search.proofs.Places.{Reached, reached_first, reached_next, outside_behind}
use Rattle.entry.specs.Said.{Said, refused}
use Rattle.asking.specs.Question.{Item, asked, question}
use Rattle.asking.specs.Meant.{Question}
use Rattle.asking.specs.Asking.{claims, first_unfit, question_in, in_question, judged_as, shaped_as, marked_as, question_of}
use Rattle.languages.specs.declared.Language.{Language as Spoken}
use Rattle.items.specs.Language.{Language, questions, language_of, leaves_of}
use Rattle.items.proofs.Answers.{question_language}
use Rattle.items.specs.GuardRead.{Read, GuardRead}
use Rattle.items.specs.Pieces.{unary_in}
use Rattle.std.specs.Prelude.{Ok, Err}
use Rattle.card.specs.Verdict.{refusal_at, Refused}
use Rattle.question.specs.QuestionRead.{QuestionRead}
use Rattle.question.proofs.Claims.{settled_question, none_unfit, unfit_some, same_leaves}
use Rattle.question.proofs.Passing.{question_p}

-- what the code has read, in the language that it was told; and the same as a question on a card with so many values
abbrev ReadHere : List ℕ → ℕ → Spoken → List ℕ → List ℕ → State → After → Type 0
ReadHere s k l was is b r = GuardRead (language_of l) s k was is 0 none_yet (expression (unary_in (language_of l) most_depth) b) r

abbrev Asks : ℕ → Spoken → Type 0
Asks v l = (l.question ≡ true) × (l.values ≡ v)

as_question : (s : List ℕ) (k v : ℕ) (l : Spoken) (was is : List ℕ) (b : State) (r : After) → Asks v l → ReadHere s k l was is b r → GuardRead (questions v) s k was is 0 none_yet (asked (shares v) b) r
as_question s k v l was is b r asks h = subst (λ (L : Language). GuardRead L s k was is 0 none_yet (expression (unary_in L most_depth) b) r) (question_language l asks) h

-- a stop, once what is left was searched for a mark outside the rules
abbrev or_outside : ℕ → ℕ → Option ℕ → Said Question
or_outside m q none = refused (in_question m) q
or_outside m q (some o) = refused (in_question outside_rules) o

module _ (s : List ℕ) (n k v : ℕ) (was is : List ℕ) where
  pub too_long_law : card_bytes < length s → QuestionRead (question_of n k v s) was is (Refused too_long 0)
  unfolding question_of
  too_long_law h = rw (lt-leb (length s) card_bytes h) (record { number = too_long; refusal = refl; told = refl; some = λ z. omega arith })

  module _ (short : length s ≤ card_bytes) where
    abbrev shape : Result (Formula Item)
    shape = question (shares v) (at (marks_at 0 s 0) zero)

    abbrev begun : State
    begun = at (marks_at 0 s 0) most_nodes

    read_short : question_of n k v s ≡ marked_as n k v (length s) (marks_at 0 s 0) (first_outside (marks_at 0 s 0))
    unfolding question_of
    read_short = rw (le-leb (length s) card_bytes short, ← marks_whole s)

    held : Held (Reached s) (reached_next s) shape
    held = question_p (Reached s) (reached_next s) (shares v) (at (marks_at 0 s 0) zero) (reached_first s)

    -- ---- a stop

    by_search : (m : ℕ) (p : Place) (o : Option ℕ) → shape ≡ stop m p → marked_as n k v (length s) (marks_at 0 s 0) o ≡ or_outside m (place_of (length s) p) o
    by_search m p none e = ap (shaped_as n k v (length s)) e
    by_search m p (some q) e = refl

    stop_told : (m q : ℕ) (o : Option ℕ) → (m ≡ 0 → ⊥) → QuestionRead (or_outside m q o) was is (Err (searched m q o))
    stop_told m q none f = record { number = m; refusal = refl; told = refl; some = f }
    stop_told m q (some o) f = record { number = outside_rules; refusal = refl; told = refl; some = λ z. omega arith }

    stopped : (m : ℕ) (p : Place) → shape ≡ stop m p
        → QuestionRead (question_of n k v s) was is (Err (searched m (place_of (length s) p) (first_outside (marks_at 0 s (place_of (length s) p)))))
    stopped m p e =
        let h : Held (Reached s) (reached_next s) {A = Formula Item} (stop m p) = subst (λ (x : Result (Formula Item)). Held (Reached s) (reached_next s) x) e held in
        rw (read_short ∙ ap (marked_as n k v (length s) (marks_at 0 s 0)) (outside_behind s p h.0) ∙ by_search m p (first_outside (marks_at 0 s (place_of (length s) p))) e)
        (stop_told m (place_of (length s) p) (first_outside (marks_at 0 s (place_of (length s) p))) h.1)

    -- the formula stopped, or it was read
    module _ (state : Carried) (l : Spoken) (asks : Asks v l) where
      said_here : (next : NextPlace) → ReadHere s k l was is begun (after state next) → GuardRead (questions v) s k was is 0 none_yet (asked (shares v) begun) (after state next)
      said_here next said = as_question s k v l was is begun (after state next) asks said

      -- the code has read from its first state on
      pub from_first : (first : Carried) (next : NextPlace) → first ≡ at_first most_nodes
          → GuardRead (language_of l) s k was is (free_in first) (late_in first) (expression (unary_in (language_of l) most_depth) (at (marks_at 0 s 0) (left_in first))) (after state next)
          → ReadHere s k l was is begun (after state next)
      from_first first next e said =
          subst (λ (x : Carried). GuardRead (language_of l) s k was is (free_in x) (late_in x) (expression (unary_in (language_of l) most_depth) (at (marks_at 0 s 0) (left_in x))) (after state next)) e said

      pub formula_stops : (z : Refusal) → ReadHere s k l was is begun (after state (Err z))
          → QuestionRead (question_of n k v s) was is (Err (searched z.number z.place (first_outside (marks_at 0 s z.place))))
      formula_stops z said = go (asked (shares v) begun) refl (said_here (Err z) said)
        where
          go : (x : Result (Formula Item)) → asked (shares v) begun ≡ x → GuardRead (questions v) s k was is 0 none_yet x (after state (Err z))
              → QuestionRead (question_of n k v s) was is (Err (searched z.number z.place (first_outside (marks_at 0 s z.place))))
          go (ok g b) e y = absurd y.rest
          go (stop m p) e y =
              subst (λ (x : Refusal). QuestionRead (question_of n k v s) was is (Err (searched x.number x.place (first_outside (marks_at 0 s x.place))))) (sym (refusal_is y.refused))
              (stopped m p (ap (λ y. bind y (λ g s₁. bind (the_end s₁) (λ _. return g))) e))

      module _ (next : ℕ) (said : ReadHere s k l was is begun (after state (Ok next))) where
        abbrev Formed : Type 0
        Formed = (g : Formula Item) × ((b : State) × ((asked (shares v) begun ≡ ok g b) × Read (questions v) s k was is 0 none_yet g b (after state (Ok next))))

        formula : Formed
        formula = go (asked (shares v) begun) refl (said_here (Ok next) said)
          where
            go : (x : Result (Formula Item)) → asked (shares v) begun ≡ x → GuardRead (questions v) s k was is 0 none_yet x (after state (Ok next)) → Formed
            go (ok g b) e y = (g, (b, (e, y)))
            go (stop m p) e y = went_on y

        read : Read (questions v) s k was is 0 none_yet formula.0 formula.1.0 (after state (Ok next))
        read = formula.1.1.1

        -- a node stands there
        pub some_node : 1 ≤ free_in state
        some_node = omega (arith, read.free, size_below formula.0)

        behind : (b : State) → marks_at 0 s next ≡ b.marks → (g : Formula Item) → asked (shares v) begun ≡ ok g b
            → shape ≡ bind (ended (marks_at 0 s next) b.nodes) (λ _. return g)
        behind b e g f = ap (λ y. bind y (λ g s₁. bind (the_end s₁) (λ _. return g))) f ∙ ap (λ ms. bind (ended ms b.nodes) (λ _. return g)) (sym e)

        -- something stands behind it
        pub unended : (x : Step) → x ≡ step_at s next → (x.mark.kind ≡ k_end → ⊥)
            → QuestionRead (question_of n k v s) was is (Err (searched out_of_shape x.mark.place (first_outside (marks_at 0 s x.mark.place))))
        unended x step z = go x (next_at s next x step) z
          where
            go : (x : Step) → Next s next x → (x.mark.kind ≡ k_end → ⊥)
                → QuestionRead (question_of n k v s) was is (Err (searched out_of_shape x.mark.place (first_outside (marks_at 0 s x.mark.place))))
            go _ (end e) z = absurd (z refl)
            go y (one m p onto l e) z =
                let q : y.mark.place ≡ place_of (length s) (marks_at 0 s next) = place_seen s next y (one m p onto l e) in
                let f : shape ≡ stop out_of_shape (marks_at 0 s next) =
                behind formula.1.0 read.rest formula.0 formula.1.1.0 ∙ ap (λ ms. bind (ended ms formula.1.0.nodes) (λ _. return formula.0)) e ∙ ap (stop out_of_shape) (sym e) in
                rw q (stopped out_of_shape (marks_at 0 s next) f)

        -- nothing does
        module _ (x : Step) (step : x ≡ step_at s next) (ends : x.mark.kind ≡ k_end) where
          at_end : marks_at 0 s next ≡ []
          at_end = go x (next_at s next x step) ends
            where
              go : (x : Step) → Next s next x → x.mark.kind ≡ k_end → marks_at 0 s next ≡ []
              go _ (end e) z = e
              go _ (one m p onto l e) z = absurd (kind_some m z)

          shaped : shape ≡ ok formula.0 (at [] formula.1.0.nodes)
          shaped = behind formula.1.0 read.rest formula.0 formula.1.1.0 ∙ ap (λ ms. bind (ended ms formula.1.0.nodes) (λ _. return formula.0)) at_end

          judged : question_of n k v s ≡ judged_as (length s) (question_in formula.0) (first_unfit n (claims k (most_of v) formula.0))
          judged =
              let y : Reached s [] = subst (λ (x : Result (Formula Item)). Held (Reached s) (reached_next s) x) shaped held in
              let o : first_outside (marks_at 0 s 0) ≡ none = sym y.2 in
              read_short ∙ ap (marked_as n k v (length s) (marks_at 0 s 0)) o ∙ ap (shaped_as n k v (length s)) shaped

          module _ (least : 1 ≤ n) (most : n ≤ most_seats) (last : Due) (settles : last ≡ settled n (late_in state)) where
            tells : last ≡ verdict (length s) (first_unfit n (claims k (most_of v) formula.0))
            tells = settles ∙ ap (settled n) read.late ∙ settled_question (length s) n least most k v formula.0

            pub broken : {z : Refusal} → last ≡ Err z → QuestionRead (question_of n k v s) was is (Err z)
            broken {z} d = rw judged (go (first_unfit n (claims k (most_of v) formula.0)) refl tells)
              where
                go : (w : Verdict) → first_unfit n (claims k (most_of v) formula.0) ≡ w → last ≡ verdict (length s) w → QuestionRead (judged_as (length s) (question_in formula.0) w) was is (Err z)
                go fine f e = ok≢refused (sym e ∙ d)
                go (wrong m p) f e = record {
                  number = z.number;
                  refusal = ap (λ (x : Refusal). Err (refusal_at z.number x.place)) (refusal_is (sym d ∙ e));
                  told = ap (λ (x : Refusal). in_question x.number) (sym (refusal_is (sym d ∙ e)));
                  some = λ y. unfit_some n (claims k (most_of v) formula.0) f (ap (λ (x : Refusal). x.number) (sym (refusal_is (sym d ∙ e))) ∙ y);
                }

            pub understood : Ok tt ≡ last → QuestionRead (question_of n k v s) was is (Ok (free_in state - 1))
            understood z =
                let all : first_unfit n (claims k (most_of v) formula.0) ≡ fine = none_unfit (length s) n least most (first_unfit n (claims k (most_of v) formula.0)) (z ∙ tells) in
                let same = same_leaves n k v least formula.0 all in
                rw (judged ∙ ap (judged_as (length s) (question_in formula.0)) all) (record {
                  root = ap (λ (i : ℕ). Ok i) (root_is (leaves_of (questions v) formula.0) (omega (arith, read.free, size_over (questions v).leaf formula.0)) ∙ ap below same);
                  nodes = read.nodes ∙ ap (λ g. stored was 0 (cells g 0)) same;
                })
              where
                root_is : (g : Formula Leaf) → free_in state ≡ size g → free_in state - 1 ≡ below g
                root_is g e = omega (arith, size_below g, e)
