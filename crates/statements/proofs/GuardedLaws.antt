-- A guard with the arrow behind it, or the arrow alone. Assumes nothing.
use Prim.Native.Nat.{ℕ, suc, ◌+◌, ◌-◌, ◌≤◌}
use mathlib.Core.Path.{◌≡◌, refl, sym, ap, ◌∙◌, subst}
use mathlib.Core.Bool.{false}
use mathlib.Core.List.{List}
use mathlib.Core.Option.{Option, none, some}
use native.Mathlib.Omega.{arith}
use lib.ListN.{length}
use Rattle.card.specs.Limits.{most_nodes, most_depth, node_places}
use Rattle.card.specs.Refusals.{out_of_shape}
use Rattle.card.specs.Card.{Formula, atom, neg, and, or}
use Rattle.card.specs.Valid.{size}
use Rattle.card.specs.Laid.{cells}
use Rattle.card.specs.Stored.{stored}
use Rattle.card.proofs.Storing.{stored_none}
use Rattle.marks_on_a_card.specs.Kinds.{kind}
use Rattle.marks.specs.declared.Step.{Step}
use Rattle.reading.specs.Reader.{Result, ok, stop, Reader, bind, return, sign}
use Rattle.reading.specs.Guard.{conjunction, unary}
use Rattle.reading.specs.Group.{Tested, tested}
use Rattle.reading.specs.Judgements.{judged_guard}
use Rattle.reading.specs.Shape.{guard}
use Rattle.late.specs.Late.{Late, judge_all, guard_by}
use Rattle.late.specs.Values.{shares, most_of}
use Rattle.std.specs.Prelude.{Ok, Err}
use Rattle.late.specs.declared.state.State.{State as Carried}
use Rattle.late.specs.Settled.{Refusal, refusal}
use Rattle.late.specs.State.{NextPlace, late_in, left_in, After, after}
use Rattle.languages.specs.declared.Language.{Language as Spoken}
use Rattle.items.specs.Language.{Language, cards, language_of}
use Rattle.items.specs.KeptItems.{Ready}
use Rattle.items.proofs.Answers.{card_judged, card_language}
use Rattle.guard.proofs.Spent.{Each, Spent, tested_keeps, unary_spends, conjunction_spends}
use Rattle.items.specs.GuardRead.{GuardRead}
use Rattle.items.specs.Pieces.{unary_in}
use Rattle.parts.specs.Parts.{from, Answers, Told}
use Rattle.statements.specs.StatementHead.{guarded, GuardedRead, GuardedFrom}
use Rattle.parts.proofs.Steps.{Next, told}
use Rattle.parts.proofs.Answers.{stopped, went_on, onward, halted, if_so, if_not}
use Rattle.parts.proofs.Lines.{assoc, sign_took, sign_fits, sign_misses}

-- ---- a guard

record GuardIs (s : List ℕ) (k values : ℕ) (before : Late) (was is : List ℕ) (used n : ℕ) (g : Formula Tested) (state : Carried) : Type 0 where
  left : size g + left_in state ≡ n
  late : late_in state ≡ judge_all (length s) (judged_guard k (most_of values) g) before
  nodes : is ≡ stored was used (cells (guard_by g) used)

-- as many nodes are left as the guard has not spent
guard_answers : (s : List ℕ) (k values : ℕ) (before : Late) (was is : List ℕ) (used n : ℕ) (x : Result (Formula Tested)) (r : After)
    → Each (Spent n) x → GuardRead (cards values) s k was is used before x r → Answers s (GuardIs s k values before was is used n) x r
guard_answers s k values before was is used n (ok g b) r h y = record { rest = y.rest; told = record { left = omega (arith, h, y.left); late = y.late ∙ card_judged values k (length s) g before; nodes = y.nodes } }
guard_answers s k values before was is used n (stop m p) r h y = y

size_by : (g : Formula Tested) → size (guard_by g) ≡ size g
size_by (atom a) = refl
size_by (neg g) = ap suc (size_by g)
size_by (and g h) = rw (size_by g, size_by h)
size_by (or g h) = rw (size_by g, size_by h)

abbrev read_guard : ℕ → Reader (Formula Tested)
read_guard values = conjunction (unary (shares values) tested most_depth)

ampersand : Told "&"
ampersand = told "&" (omega arith)

arrow : Told "->"
arrow = told "->" (omega arith)

-- the nodes that are left, and where the first one goes, are written into the state
abbrev begun : Carried → ℕ → Carried
begun state used = record state { left = most_nodes; free = used }

pub guard_ready : (state : Carried) (used : ℕ) → used + most_nodes ≤ node_places → Ready (begun state used)
guard_ready state used h = record { fits = h; most = omega arith }

module _ (s : List ℕ) (k values i : ℕ) (was is : List ℕ) (used : ℕ) (x : Step) (v : Next s i x) where
  module _ (d : x.mark.kind ≡ kind "&" → ⊥) where
    no_guard : (n : ℕ) → guard (shares values) (from s i n) ≡ ok none (from s i n)
    unfolding guard
    no_guard n = if_not "&" ampersand s i x v d _ (return none) n

    pub none_read : x.mark.kind ≡ kind "->" → is ≡ was → (state : Carried) → GuardedFrom s i k values (late_in state) was is used (after (record state { value = 0 }) (Ok x.next.at))
    unfolding judge_all
    none_read e a state = record {
      answers = rw (no_guard most_nodes) (sign_fits "->" arrow s i _ x v most_nodes _ _ e
          (record { rest = refl; told = record { went = record { value = refl; late = refl }; array = a ∙ sym (stored_none was used) } }));
    }

    pub none_stops : (x.mark.kind ≡ kind "->" → ⊥) → {before : Late} (state : Carried) → GuardedFrom s i k values before was is used (after state (Err (refusal out_of_shape x.mark.place)))
    none_stops e state = record { answers = rw (no_guard most_nodes) (sign_misses "->" arrow s i _ x v most_nodes _ _ e (stopped state)) }

  module _ (e : x.mark.kind ≡ kind "&") (state : Carried) (a : Carried) (l : Spoken) (cards-number : (l.question ≡ false) × (l.values ≡ values)) where
    -- what the guard's reader leaves behind it
    abbrev ConjunctionRead : NextPlace → Type 0
    ConjunctionRead g = GuardRead (language_of l) s k was is used (late_in state) (conjunction (unary_in (language_of l) most_depth) (from s x.next.at most_nodes)) (after a g)

    -- in a card's language
    answered : (g : NextPlace) → ConjunctionRead g → Answers s (GuardIs s k values (late_in state) was is used most_nodes) (read_guard values (from s x.next.at most_nodes)) (after a g)
    answered g hg = guard_answers s k values (late_in state) was is used most_nodes (read_guard values (from s x.next.at most_nodes)) (after a g)
        (conjunction_spends (unary (shares values) tested most_depth) (unary_spends (cards values) tested_keeps most_depth) (from s x.next.at most_nodes))
        (subst (λ (L : Language). GuardRead L s k was is used (late_in state) (conjunction (unary_in L most_depth) (from s x.next.at most_nodes)) (after a g)) (card_language l cards-number) hg)

    pub left_few : (g : ℕ) → ConjunctionRead (Ok g) → left_in a ≤ most_nodes
    left_few g hg = go (read_guard values (from s x.next.at most_nodes)) (answered (Ok g) hg)
      where
        go : (y : Result (Formula Tested)) → Answers s (GuardIs s k values (late_in state) was is used most_nodes) y (after a (Ok g)) → left_in a ≤ most_nodes
        go (ok f b) y = omega (arith, y.told.left)
        go (stop m p) y = went_on y

    some_guard : guarded (shares values) (from s i most_nodes) ≡ bind (read_guard values (from s x.next.at most_nodes)) (λ f s₁. bind (sign "->" s₁) (λ u. return (some f)))
    unfolding guard
    some_guard =
        ap (λ (y : Result (Option (Formula Tested))). bind y (λ f s₁. bind (sign "->" s₁) (λ u. return f))) (if_so "&" ampersand s i x v e _ (return none) most_nodes)
        ∙ ap (λ (y : Result (Unit {0})). bind (bind y (λ u s₁. bind (read_guard values s₁) (λ f. return (some f)))) (λ f s₁. bind (sign "->" s₁) (λ u. return f))) (sign_took "&" ampersand s i x v e most_nodes)
        ∙ assoc (read_guard values (from s x.next.at most_nodes)) (λ f. return (some f)) (λ f s₁. bind (sign "->" s₁) (λ u. return f))

    pub some_stops : (z : Refusal) → ConjunctionRead (Err z) → GuardedFrom s i k values (late_in state) was is used (after a (Err z))
    some_stops z hg = record { answers = rw some_guard (halted s _ _ (read_guard values (from s x.next.at most_nodes)) _ a z (answered (Err z) hg)) }

    module _ (g : ℕ) (hg : ConjunctionRead (Ok g)) {y : Step} (z : Next s g y) where
      behind_guard : (r : After) → ((h : Formula Tested) (m : ℕ) → GuardIs s k values (late_in state) was is used most_nodes h a
          → GuardedRead s k values (late_in state) was is used (bind (sign "->" (from s g m)) (λ u. return (some h))) r) → GuardedRead s k values (late_in state) was is used (guarded (shares values) (from s i most_nodes)) r
      behind_guard r j = rw some_guard (onward s _ _ (read_guard values (from s x.next.at most_nodes)) _ a g r (answered (Ok g) hg) j)

      pub arrow_stops : (y.mark.kind ≡ kind "->" → ⊥) → GuardedFrom s i k values (late_in state) was is used (after a (Err (refusal out_of_shape y.mark.place)))
      arrow_stops d = record { answers = behind_guard _ λ h m j. sign_misses "->" arrow s g _ y z m _ _ d (stopped a) }

      pub some_read : y.mark.kind ≡ kind "->" → GuardedFrom s i k values (late_in state) was is used (after (record a { value = most_nodes - left_in a }) (Ok y.next.at))
      some_read d = record {
        answers = behind_guard _ λ h m j. sign_fits "->" arrow s g _ y z m _ _ d
            (record { rest = refl; told = record { went = record { value = omega (arith, j.left, size_by h); late = j.late }; array = j.nodes } });
      }
