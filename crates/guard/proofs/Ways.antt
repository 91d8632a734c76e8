-- The ways through the definition of a guard, opened one mark at a time: each way out of the code is one of them. What a bracket starts is
-- told in proofs/Opening.antt of items.
use Prim.Native.Nat.{ℕ, zero, suc, ◌-◌}
use mathlib.Core.Path.{◌≡◌, refl, sym, ap, ◌∙◌}
use mathlib.Core.Bool.{false}
use mathlib.Core.List.{List}
use native.Mathlib.Numerals.{sub-one}
use native.Mathlib.Omega.{arith}
use lib.ListN.{length}
use Rattle.card.specs.Refusals.{out_of_shape, past_limit}
use Rattle.card.specs.Card.{Formula}
use Rattle.marks_on_a_card.specs.Marks.{place_of}
use Rattle.marks_on_a_card.specs.Kinds.{kind}
use Rattle.marks.specs.Step.{step_at, marks_at}
use Rattle.marks.specs.declared.Step.{Step}
use Rattle.reading.specs.Reader.{Place, State, at, Result, ok, stop, bind, ◌>>=◌, ◌>>◌, return, refuse_at, sign, spend}
use Rattle.reading.specs.Guard.{expression, grouped}
use Rattle.late.specs.Late.{Late}
use Rattle.std.specs.Prelude.{Ok}
use Rattle.late.specs.declared.state.State.{State as Carried}
use Rattle.late.specs.State.{left_in, free_in, late_in, After, after, Halted}
use Rattle.group.proofs.Signs.{Known}
use Rattle.items.specs.Language.{Language}
use Rattle.items.specs.GuardRead.{GuardRead}
use Rattle.items.specs.Pieces.{unary_in, then_not, then_close, Onward, NoItem}
use Rattle.items.proofs.Opening.{place_here, sign_fits, sign_unfit, next_yes, not_known, open_known, kind_here, unkind_here, place_there, spent, none_left, ahead_no, read_as, bracket_of, Bracketed, unary_other, reads_bracket}
use Rattle.guard.proofs.Building.{went_well}

-- a state by its marks and nodes
pub state_is : (b : State) (ms : Place) (n : ℕ) → ms ≡ b.marks → n ≡ b.nodes → b ≡ at ms n
state_is b ms n e f = rw (e, f)

-- reading stopped at the mark ahead
halted_at : (s : List ℕ) (i m : ℕ) (r : After) → Halted m (step_at s i).mark.place r → Halted m (place_of (length s) (marks_at 0 s i)) r
halted_at s i m r h = rw (place_here s i) h

close_known : Known ")"
close_known = record { above = omega arith; alone = refl; same = refl }

module _ (L : Language) where
  -- ---- the closing bracket

  -- behind what was read so far, at the place q and the nodes left
  module _ (s : List ℕ) (st : Carried) (i : ℕ) (a : Step) (step : a ≡ step_at s i) where
    closing : (f : Formula L.Item) (b : State) (x : Result (Formula L.Item)) → x ≡ ok f b → marks_at 0 s i ≡ b.marks
        → bind x then_close ≡ bind (sign ")" (at (marks_at 0 s i) b.nodes)) (λ _. return f)
    closing f b x e rest = ap (λ y. bind y then_close) e ∙ ap (λ y. bind (sign ")" y) (λ _. return f)) (state_is b (marks_at 0 s i) b.nodes rest refl)

    pub close_wrong : (a.mark.kind ≡ kind ")" → ⊥) → (r : After) → Halted out_of_shape a.mark.place r → (k : ℕ) (nodes : List ℕ) → Onward L s k nodes nodes (after st (Ok i)) then_close r
    close_wrong h r halted k nodes was used before x e =
        went_well L s k was nodes used before st i x e
        (λ f b j d. read_as L s k was nodes used before r
        (closing f b x j d.rest ∙ ap (λ y. bind y (λ _. return f)) (sign_unfit ")" close_known s i b.nodes (λ u. h (ap (λ (m : Step). m.mark.kind) step ∙ u))))
        (halted_at s i out_of_shape r (rw step at halted)))

    pub close_well : a.mark.kind ≡ kind ")" → (k : ℕ) (nodes : List ℕ) → Onward L s k nodes nodes (after st (Ok i)) then_close (after st (Ok a.next.at))
    close_well h k nodes was used before x e =
        went_well L s k was nodes used before st i x e
        (λ f b j d. read_as L s k was nodes used before (after st (Ok a.next.at))
        (closing f b x j d.rest ∙ ap (λ y. bind y (λ _. return f)) (sign_fits ")" close_known s i b.nodes (ap (λ (m : Step). m.mark.kind) (sym step) ∙ h)
        ∙ ap (λ (m : Step). ok tt (at (marks_at 0 s m.next.at) b.nodes)) (sym step)))
        (record { rest = refl; free = d.free; left = d.left; late = d.late; nodes = d.nodes }))

  -- ---- a unary

  module _ (s : List ℕ) (i depth n : ℕ) where
    abbrev start : State
    start = at (marks_at 0 s i) n

    abbrev mark : Step
    mark = step_at s i

    unary_unfit : (mark.mark.kind ≡ kind "(" → ⊥) → (mark.mark.kind ≡ kind "!" → ⊥) → unary_in L depth start ≡ stop out_of_shape (marks_at 0 s i)
    unary_unfit h k = unary_other L s i depth n k ∙ ap (λ y. bind y (λ _. bracket_of L depth (marks_at 0 s i))) (sign_unfit "(" open_known s i n h)

    unary_deep : mark.mark.kind ≡ kind "!" → depth ≡ 0 → unary_in L depth start ≡ stop past_limit (marks_at 0 s i)
    unary_deep h e = ap (λ d. unary_in L d start) e ∙ rw (next_yes "!" not_known s i n h)

    unary_deeper : mark.mark.kind ≡ kind "!" → (depth ≡ 0 → ⊥) → unary_in L depth start ≡ bind (spend (marks_at 0 s i) (marks_at 0 s i) n) (λ _. sign "!" >> (unary_in L (depth - 1) >>= then_not))
    unary_deeper h f = go depth f
      where
        go : (d : ℕ) → (d ≡ 0 → ⊥) → unary_in L d start ≡ bind (spend (marks_at 0 s i) (marks_at 0 s i) n) (λ _. sign "!" >> (unary_in L (d - 1) >>= then_not))
        go zero f = absurd (f refl)
        go (suc d) f = rw (next_yes "!" not_known s i n h, sub-one (suc d))

    unary_full : mark.mark.kind ≡ kind "!" → (depth ≡ 0 → ⊥) → n ≡ 0 → unary_in L depth start ≡ stop past_limit (marks_at 0 s i)
    unary_full h f e = unary_deeper h f ∙ none_left (marks_at 0 s i) (marks_at 0 s i) n (sign "!" >> (unary_in L (depth - 1) >>= then_not)) e

    unary_not : mark.mark.kind ≡ kind "!" → (depth ≡ 0 → ⊥) → (n ≡ 0 → ⊥) → unary_in L depth start ≡ bind (unary_in L (depth - 1) (at (marks_at 0 s mark.next.at) (n - 1))) then_not
    unary_not h f e =
        unary_deeper h f ∙ spent (marks_at 0 s i) (marks_at 0 s i) n (sign "!" >> (unary_in L (depth - 1) >>= then_not)) e
        ∙ ap (λ y. bind y (λ _. unary_in L (depth - 1) >>= then_not)) (sign_fits "!" not_known s i (n - 1) h)

  -- ---- a bracket

  module _ (s : List ℕ) (q n : ℕ) (p : Place) where
    abbrev behind : State
    behind = at (marks_at 0 s q) n

    bracket_deep : (depth : ℕ) → L.starts (marks_at 0 s q) ≡ false → depth ≡ 0 → bracket_of L depth p behind ≡ stop past_limit p
    bracket_deep zero h e = ahead_no (grouped L.item p) (refuse_at past_limit p) behind L.starts h
    bracket_deep (suc d) h e = absurd (omega (arith, e))

    bracket_inner : (depth : ℕ) → L.starts (marks_at 0 s q) ≡ false → (depth ≡ 0 → ⊥) → bracket_of L depth p behind ≡ bind (expression (unary_in L (depth - 1)) behind) then_close
    bracket_inner zero h f = absurd (f refl)
    bracket_inner (suc d) h f =
        ahead_no (grouped L.item p) (expression (unary_in L d) >>= then_close) behind L.starts h
        ∙ ap (λ e. bind (expression (unary_in L e) behind) then_close) (sym (sub-one (suc d)))

  -- a bracket that starts no item
  module _ (s : List ℕ) (q p left depth k : ℕ) (was is : List ℕ) (used : ℕ) (before : Late) (none : L.starts (marks_at 0 s q) ≡ false) where
    bracket_stops : depth ≡ 0 → (r : After) → Halted past_limit p r → Bracketed L s q p left depth k was is used before r
    bracket_stops e r halted bracket f = read_as L s k was is used before r (bracket_deep s q left bracket depth none e) (rw f halted)

    bracket_closes : (depth ≡ 0 → ⊥) → (b r : After) → GuardRead L s k was is used before (expression (unary_in L (depth - 1)) (at (marks_at 0 s q) left)) b
        → ((top : ℕ) (nodes : List ℕ) → Onward L s top nodes nodes b then_close r) → Bracketed L s q p left depth k was is used before r
    bracket_closes e b r d onward bracket f =
        read_as L s k was is used before r (bracket_inner s q left bracket depth none e)
        (onward k is was used before (expression (unary_in L (depth - 1)) (at (marks_at 0 s q) left)) d)

  -- ---- a unary, as the code has it

  module _ (s : List ℕ) (i left depth k : ℕ) (was is : List ℕ) (used : ℕ) (before : Late) (a : Step) (step : a ≡ step_at s i) where
    abbrev Reads : After → Type 0
    Reads r = GuardRead L s k was is used before (unary_in L depth (at (marks_at 0 s i) left)) r

    stops : (m : ℕ) (r : After) → unary_in L depth (at (marks_at 0 s i) left) ≡ stop m (marks_at 0 s i) → Halted m a.mark.place r → Reads r
    stops m r e halted = read_as L s k was is used before r e (rw (place_there s i a step) halted)

    module _ (h : a.mark.kind ≡ kind "(") (no_item : NoItem L s i) where
      none_there : L.starts (marks_at 0 s a.next.at) ≡ false
      none_there = ap (λ (u : Step). L.starts (marks_at 0 s u.next.at)) step ∙ no_item (kind_here s i a step (kind "(") h)

      pub reads_closed : depth ≡ 0 → (r : After) → Halted past_limit a.mark.place r → Reads r
      reads_closed e r halted = reads_bracket L s i left depth k was is used before a step h r (bracket_stops s a.next.at a.mark.place left depth k was is used before none_there e r halted)

      pub reads_inner : (depth ≡ 0 → ⊥) → (b r : After) → GuardRead L s k was is used before (expression (unary_in L (depth - 1)) (at (marks_at 0 s a.next.at) left)) b
          → ((top : ℕ) (nodes : List ℕ) → Onward L s top nodes nodes b then_close r) → Reads r
      reads_inner e b r d onward = reads_bracket L s i left depth k was is used before a step h r (bracket_closes s a.next.at a.mark.place left depth k was is used before none_there e b r d onward)

    pub reads_unfit : (a.mark.kind ≡ kind "(" → ⊥) → (a.mark.kind ≡ kind "!" → ⊥) → (r : After) → Halted out_of_shape a.mark.place r → Reads r
    reads_unfit h e r halted = stops out_of_shape r (unary_unfit s i depth left (unkind_here s i a step (kind "(") h) (unkind_here s i a step (kind "!") e)) halted

    module _ (h : a.mark.kind ≡ kind "!") where
      pub reads_deep : depth ≡ 0 → (r : After) → Halted past_limit a.mark.place r → Reads r
      reads_deep e r halted = stops past_limit r (unary_deep s i depth left (kind_here s i a step (kind "!") h) e) halted

      pub reads_full : (depth ≡ 0 → ⊥) → left ≡ 0 → (r : After) → Halted past_limit a.mark.place r → Reads r
      reads_full f e r halted = stops past_limit r (unary_full s i depth left (kind_here s i a step (kind "!") h) f e) halted

      pub reads_not : (depth ≡ 0 → ⊥) → (left ≡ 0 → ⊥) → (mid : List ℕ) (g r : After)
          → GuardRead L s k was mid used before (unary_in L (depth - 1) (at (marks_at 0 s a.next.at) (left - 1))) g
          → ((t : List ℕ) (top : ℕ) → Onward L t top mid is g then_not r) → Reads r
      reads_not f e mid g r d onward =
          read_as L s k was is used before r
          (unary_not s i depth left (kind_here s i a step (kind "!") h) f e ∙ ap (λ (u : Step). bind (unary_in L (depth - 1) (at (marks_at 0 s u.next.at) (left - 1))) then_not) (sym step))
          (onward s k was used before (unary_in L (depth - 1) (at (marks_at 0 s a.next.at) (left - 1))) d)

  -- what was read from arrays that are as they were
  pub read_from : (s : List ℕ) (i k depth : ℕ) (was mid is : List ℕ) (state behind : Carried) (r : After) → mid ≡ was → behind ≡ state
      → GuardRead L s k mid is (free_in behind) (late_in behind) (unary_in L depth (at (marks_at 0 s i) (left_in behind))) r
      → GuardRead L s k was is (free_in state) (late_in state) (unary_in L depth (at (marks_at 0 s i) (left_in state))) r
  read_from s i k depth was mid is state behind r e f d = rw (← e, ← f) d
