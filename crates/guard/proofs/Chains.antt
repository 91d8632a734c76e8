-- A chain of operands: what was read so far, and the chain behind it. Its fuel is never met: each sign spends a node, and there are
-- no more of them than fuel. And what was read leaves room in the array for what may follow.
use Prim.Native.Nat.{ℕ, zero, suc, ◌+◌, ◌-◌, ◌≤◌, ◌<◌, min}
use mathlib.Core.Path.{◌≡◌, refl, sym, ap, ◌∙◌}
use mathlib.Core.Bool.{Bool, true, false}
use mathlib.Core.List.{List}
use native.Mathlib.Omega.{arith}
use lib.ListN.{drop, set}
use Rattle.card.specs.Limits.{node_places, most_nodes}
use Rattle.card.specs.Refusals.{past_limit}
use Rattle.card.specs.Card.{Formula}
use Rattle.card.specs.Laid.{op_or, pack_node}
use Rattle.card.proofs.Storing.{size_below}
use Rattle.marks_on_a_card.specs.Kinds.{kind}
use Rattle.marks.specs.Step.{step_at, marks_at}
use Rattle.marks.specs.Parts.{bare_of}
use Rattle.marks_on_a_card.specs.Quick.{sign_ahead}
use Rattle.marks.specs.declared.Step.{Step}
use Rattle.looks.proofs.Quick.{sign_step}
use Rattle.reading.specs.Reader.{State, at, Result, ok, stop, Reader, bind, ◌>>=◌, ◌>>◌, return, sign}
use Rattle.reading.specs.Guard.{chain, conjunction, expression}
use Rattle.late.specs.Late.{Late}
use Rattle.std.specs.Prelude.{Ok, Err}
use Rattle.card.specs.declared.Refusal.{Refusal}
use Rattle.late.specs.declared.state.State.{State as Carried}
use Rattle.late.specs.State.{left_in, free_in, late_in, After, after, Halted}
use Rattle.items.specs.Language.{Language}
use Rattle.items.specs.KeptItems.{Ready, grown}
use Rattle.items.specs.Items.{operator_of}
use Rattle.items.specs.GuardRead.{Read, GuardRead}
use Rattle.items.specs.Pieces.{join_of, joiner, unary_in, operand_of, chained, Begun, Onward}
use Rattle.group.proofs.Groups.{joint_known}
use Rattle.items.proofs.Opening.{place_here, sign_fits, next_yes, next_no, spent, none_left, read_as}
use Rattle.guard.proofs.Spent.{Each, Keeping, Spent, Spends, unary_spends, conjunction_spends}
use Rattle.guard.proofs.Building.{goes_wrong, went_well, joined}
use Rattle.guard.proofs.Ways.{state_is}

-- a bracket right behind what was read joins nothing to it
no_joint : (a : Bool) → kind ")" ≡ kind (joiner a) → ⊥
no_joint false e = let z : ◌≡◌ {A = ℕ} 41 38 = e in omega arith
no_joint true e = let z : ◌≡◌ {A = ℕ} 41 124 = e in omega arith

module _ (L : Language) (keeps : Keeping L) where
  -- ---- room

  -- where a guard was read: what is left fits behind it, and is no more than before
  pub room : (s : List ℕ) (k : ℕ) (was is : List ℕ) (used : ℕ) (before : Late) (x : Result (Formula L.Item)) (n : ℕ) (st : Carried) (i : ℕ)
      → Each (Spent n) x → GuardRead L s k was is used before x (after st (Ok i)) → (free_in st + left_in st ≡ used + n) × (used < free_in st) × (left_in st ≤ n)
  room s k was is used before (ok g b) n st i h d = (omega (arith, h, d.free, d.left), omega (arith, d.free, size_below g), omega (arith, h, d.left))
  room s k was is used before (stop m p) n st i h d = let e = d.refused in absurd cc

  -- ---- the operands

  pub operand_spends : (a : Bool) (depth : ℕ) → Spends (operand_of L a depth)
  operand_spends false depth = unary_spends L keeps depth
  operand_spends true depth = conjunction_spends (unary_in L depth) (unary_spends L keeps depth)

  abbrev chain_of : Bool → ℕ → ℕ → Formula L.Item → Reader (Formula L.Item)
  chain_of a depth fuel g = chain (joiner a) (join_of a) (operand_of L a depth) fuel g

  -- ---- one turn

  module _ (a : Bool) (depth : ℕ) (s : List ℕ) (i n : ℕ) (g : Formula L.Item) where
    abbrev start : State
    start = at (marks_at 0 s i) n

    chain_ends : (fuel : ℕ) → ((step_at s i).mark.kind ≡ kind (joiner a) → ⊥) → chain_of a depth fuel g start ≡ ok g start
    chain_ends zero h = rw (next_no (joiner a) (joint_known a) s i n h)
    chain_ends (suc fuel) h = rw (next_no (joiner a) (joint_known a) s i n h)

    -- the operand behind the sign, and the chain behind that
    abbrev further : ℕ → Formula L.Item → Reader (Formula L.Item)
    further fuel h = chain_of a depth fuel (join_of a g h)

    module _ (joined : (step_at s i).mark.kind ≡ kind (joiner a)) where
      chain_full : (fuel : ℕ) → n ≡ 0 → chain_of a depth fuel g start ≡ stop past_limit (marks_at 0 s i)
      chain_full zero e = rw (next_yes (joiner a) (joint_known a) s i n joined)
      chain_full (suc fuel) e = rw (next_yes (joiner a) (joint_known a) s i n joined) (none_left (marks_at 0 s i) (marks_at 0 s i) n (sign (joiner a) >> (operand_of L a depth >>= further fuel)) e)

      chain_more : (fuel : ℕ) → (n ≡ 0 → ⊥) → chain_of a depth (suc fuel) g start ≡ bind (operand_of L a depth (at (marks_at 0 s (step_at s i).next.at) (n - 1))) (further fuel)
      chain_more fuel e =
          rw (next_yes (joiner a) (joint_known a) s i n joined)
          (spent (marks_at 0 s i) (marks_at 0 s i) n (sign (joiner a) >> (operand_of L a depth >>= further fuel)) e
          ∙ ap (λ y. bind y (λ _. operand_of L a depth >>= further fuel)) (sign_fits (joiner a) (joint_known a) s i (n - 1) joined))

  -- ---- what the loop keeps

  -- x is what the first operand was read as, y what has been read since
  pub record Linked (s : List ℕ) (k : ℕ) (now : List ℕ) (depth : ℕ) (a : Bool) (st : Carried) (next : ℕ) (was : List ℕ) (used : ℕ) (before : Late) (x : Result (Formula L.Item)) : Type 0 where
    pub y : Result (Formula L.Item)
    pub read : GuardRead L s k was now used before y (after st (Ok next))
    pub fuel : ℕ
    pub enough : left_in st ≤ fuel
    pub goes : bind x (chained L a depth) ≡ bind y (chain_of a depth fuel)

  pub record Chaining (s : List ℕ) (k : ℕ) (mid now : List ℕ) (depth : ℕ) (a : Bool) (st₀ : Carried) (first : ℕ) (st : Carried) (next : ℕ) : Type 0 where
    pub begun : Begun st
    pub fewer : left_in st ≤ left_in st₀
    pub link : (was : List ℕ) (used : ℕ) (before : Late) (x : Result (Formula L.Item)) → GuardRead L s k was mid used before x (after st₀ (Ok first)) → Linked s k now depth a st next was used before x

  module _ (s : List ℕ) (k : ℕ) (mid : List ℕ) (depth : ℕ) (a : Bool) (st₀ : Carried) (first : ℕ) where
    pub chain_begins : Begun st₀ → Chaining s k mid mid depth a st₀ first st₀ first
    chain_begins begun = record {
      begun = begun;
      fewer = omega arith;
      link = λ was used before x d. record { y = x; read = d; fuel = most_nodes; enough = begun.ready.most; goes = refl };
    }

    abbrev On : List ℕ → After → Type 0
    On is r = Onward L s k mid is (after st₀ (Ok first)) (chained L a depth) r

    module _ (now : List ℕ) (st : Carried) (next : ℕ) (so : Chaining s k mid now depth a st₀ first st next) (mark : Step) (step : mark ≡ step_at s next) (j : ℕ) (sign-is : j ≡ kind (joiner a)) where
      -- the guard so far, from its own marks on
      opened : (was : List ℕ) (used : ℕ) (before : Late) (x : Result (Formula L.Item)) (i : Linked s k now depth a st next was used before x) (f : Formula L.Item) (b : State) → i.y ≡ ok f b → Read L s k was now used before f b (after st (Ok next))
          → bind x (chained L a depth) ≡ chain_of a depth i.fuel f (at (marks_at 0 s next) (left_in st))
      opened was used before x i f b e d = i.goes ∙ ap (λ y. bind y (chain_of a depth i.fuel)) e ∙ ap (chain_of a depth i.fuel f) (state_is b (marks_at 0 s next) (left_in st) d.rest d.left)

      pub chain_done : (mark.mark.kind ≡ j → ⊥) → On now (after st (Ok next))
      chain_done h was used before x d =
          let i = so.link was used before x d in
          went_well L s k was now used before st next i.y i.read
          (λ f b e n. read_as L s k was now used before (after st (Ok next))
          (opened was used before x i f b e n
          ∙ chain_ends a depth s next (left_in st) f i.fuel (λ u. h (ap (λ (m : Step). m.mark.kind) step ∙ u ∙ sym sign-is))
          ∙ ap (ok f) (sym (state_is b (marks_at 0 s next) (left_in st) n.rest n.left)))
          n)

      module _ (joins : mark.mark.kind ≡ j) where
        joins_there : (step_at s next).mark.kind ≡ kind (joiner a)
        joins_there = ap (λ (m : Step). m.mark.kind) (sym step) ∙ joins ∙ sign-is

        pub chain_stops : left_in st ≡ 0 → (r : After) → Halted past_limit mark.mark.place r → On now r
        chain_stops e r halted was used before x d =
            let i = so.link was used before x d in
            went_well L s k was now used before st next i.y i.read
            (λ f b h n. read_as L s k was now used before r
            (opened was used before x i f b h n ∙ chain_full a depth s next (left_in st) f joins_there i.fuel e)
            (rw (place_here s next, ← step) halted))

        module _ (some : left_in st ≡ 0 → ⊥) where
          abbrev one : Result (Formula L.Item)
          one = operand_of L a depth (at (marks_at 0 s mark.next.at) (left_in st - 1))

          one_spends : Each (Spent (left_in st - 1)) one
          one_spends = operand_spends a depth (at (marks_at 0 s mark.next.at) (left_in st - 1))

          -- the operand joined, and the chain behind it
          step_on : (was : List ℕ) (used : ℕ) (before : Late) (x : Result (Formula L.Item)) (i : Linked s k now depth a st next was used before x) (f : Formula L.Item) (b : State) → i.y ≡ ok f b → Read L s k was now used before f b (after st (Ok next))
              → bind x (chained L a depth) ≡ bind (bind one (λ u. return (join_of a f u))) (chain_of a depth (i.fuel - 1))
          step_on was used before x i f b e n =
              opened was used before x i f b e n
              ∙ ap (λ m. chain_of a depth m f (at (marks_at 0 s next) (left_in st))) (more_fuel i.fuel (omega (arith, i.enough)))
              ∙ chain_more a depth s next (left_in st) f joins_there (i.fuel - 1) some
              ∙ ap (λ (m : Step). bind (operand_of L a depth (at (marks_at 0 s m.next.at) (left_in st - 1))) (further a depth s next (left_in st) f (i.fuel - 1))) (sym step)
              ∙ sym (bind_joined one f (i.fuel - 1))
            where
              more_fuel : (m : ℕ) → 1 ≤ m → m ≡ suc (m - 1)
              more_fuel m l = omega arith

              bind_joined : (y : Result (Formula L.Item)) (f : Formula L.Item) (m : ℕ) → bind (bind y (λ u. return (join_of a f u))) (chain_of a depth m) ≡ bind y (λ u. chain_of a depth m (join_of a f u))
              bind_joined (ok u c) f m = refl
              bind_joined (stop r p) f m = refl

          -- the operand was not read
          pub chain_wrong : (now2 : List ℕ) (st₂ : Carried) (e : Refusal) → GuardRead L s k now now2 (free_in st) (late_in st) one (after st₂ (Err e)) → On now2 (after st₂ (Err e))
          chain_wrong now2 st₂ e operand was used before x d =
              let i = so.link was used before x d in
              went_well L s k was now used before st next i.y i.read
              (λ f b g n. read_as L s k was now2 used before (after st₂ (Err e)) (step_on was used before x i f b g n ∙ bind_both one f (i.fuel - 1))
              (goes_wrong L s k now now2 (free_in st) (late_in st) was now2 used before st₂ e (λ u. chain_of a depth (i.fuel - 1) (join_of a f u)) one operand))
            where
              bind_both : (y : Result (Formula L.Item)) (f : Formula L.Item) (m : ℕ) → bind (bind y (λ u. return (join_of a f u))) (chain_of a depth m) ≡ bind y (λ u. chain_of a depth m (join_of a f u))
              bind_both (ok u c) f m = refl
              bind_both (stop r p) f m = refl

          module _ (now2 : List ℕ) (st₂ : Carried) (next₂ : ℕ) (operand : GuardRead L s k now now2 (free_in st) (late_in st) one (after st₂ (Ok next₂))) where
            abbrev Roomy : Type 0
            Roomy = (free_in st₂ + left_in st₂ ≡ free_in st + (left_in st - 1)) × (free_in st < free_in st₂) × (left_in st₂ ≤ left_in st - 1)

            pub roomy : Roomy
            roomy = room s k now now2 (free_in st) (late_in st) one (left_in st - 1) st₂ next₂ one_spends operand

            pub store_room : free_in st₂ < node_places
            store_room = omega (arith, roomy.0, so.begun.ready.fits)

            pub chain_falls : left_in (grown st₂) < left_in st
            chain_falls = omega (arith, roomy.2)

            pub chain_turns : (op v : ℕ) → op ≡ operator_of a → v ≡ pack_node (min op op_or) (min (free_in st - 1) (node_places - 1)) (min (free_in st₂ - 1) (node_places - 1))
                → Chaining s k mid (set now2 (free_in st₂) v) depth a st₀ first (grown st₂) next₂
            chain_turns op v same pack = record {
              begun = record {
                ready = record { fits = omega (arith, roomy.0, so.begun.ready.fits); most = omega (arith, roomy.2, so.begun.ready.most) };
                stored = omega arith;
              };
              fewer = omega (arith, roomy.2, so.fewer);
              link = λ was used before x d.
                  let i = so.link was used before x d in
                  went_well L s k was now used before st next i.y i.read
                  (λ f b e n. record {
                    y = bind one (λ u. return (join_of a f u));
                    read =
                        went_well L s k now now2 (free_in st) (late_in st) st₂ next₂ one operand
                        (λ u c o m. read_as L s k was (set now2 (free_in st₂) v) used before (after (grown st₂) (Ok next₂)) (ap (λ y. bind y (λ u. return (join_of a f u))) o)
                        (joined L s k was now used before (after st (Ok next)) now2 (after st₂ (Ok next₂)) f u b c n m a v (omega (arith, so.begun.ready.fits)) (omega (arith, store_room))
                        (pack ∙ ap (λ o. pack_node (min o op_or) (min (free_in st - 1) (node_places - 1)) (min (free_in st₂ - 1) (node_places - 1))) same)));
                    fuel = i.fuel - 1;
                    enough = omega (arith, roomy.2, i.enough);
                    goes = step_on was used before x i f b e n;
                  });
            }

  chain_none : (s : List ℕ) (k : ℕ) (now : List ℕ) (depth : ℕ) (a : Bool) (st : Carried) (next : ℕ) → Begun st → sign_ahead (kind ")") (drop next s) ≡ true
      → Onward L s k now now (after st (Ok next)) (chained L a depth) (after st (Ok next))
  chain_none s k now depth a st next begun closes =
      chain_done s k now depth a st next now st next (chain_begins s k now depth a st next begun) (bare_of (kind ")") next (next + 1)) (sym (sign_step s next (kind ")") closes)) (kind (joiner a)) refl (no_joint a)

  -- ---- what the code's calls ask

  -- behind a first operand the chain of its sign, and none where a bracket is right behind it
  module _ (s : List ℕ) (k : ℕ) (was is : List ℕ) (state : Carried) (ready : Ready state) (i depth : ℕ) (st : Carried) (next : ℕ) where
    abbrev Reads : Reader (Formula L.Item) → List ℕ → After → Type 0
    Reads p now all = GuardRead L s k was now (free_in state) (late_in state) (p (at (marks_at 0 s i) (left_in state))) all

    -- as the chain asks it, and no more nodes are left than before
    begun_by : (p : Reader (Formula L.Item)) → Spends p → Reads p is (after st (Ok next)) → Begun st × (left_in st ≤ left_in state)
    begun_by p spends d =
        let q = room s k was is (free_in state) (late_in state) (p (at (marks_at 0 s i) (left_in state))) (left_in state) st next (spends (at (marks_at 0 s i) (left_in state))) d in
        (record { ready = record { fits = omega (arith, q.0, ready.fits); most = omega (arith, q.2, ready.most) }; stored = omega (arith, q.1) }, q.2)

    pub unary_begun : Reads (unary_in L depth) is (after st (Ok next)) → Begun st × (left_in st ≤ left_in state)
    unary_begun = begun_by (unary_in L depth) (unary_spends L keeps depth)

    pub conjunction_begun : Reads (conjunction (unary_in L depth)) is (after st (Ok next)) → Begun st × (left_in st ≤ left_in state)
    conjunction_begun = begun_by (conjunction (unary_in L depth)) (conjunction_spends (unary_in L depth) (unary_spends L keeps depth))

    pub unary_alone : sign_ahead (kind ")") (drop next s) ≡ true → Reads (unary_in L depth) is (after st (Ok next)) → Reads (conjunction (unary_in L depth)) is (after st (Ok next))
    unary_alone closes d = chain_none s k is depth false st next (unary_begun d).0 closes was (free_in state) (late_in state) (unary_in L depth (at (marks_at 0 s i) (left_in state))) d

    pub conjunction_alone : sign_ahead (kind ")") (drop next s) ≡ true → Reads (conjunction (unary_in L depth)) is (after st (Ok next)) → Reads (expression (unary_in L depth)) is (after st (Ok next))
    conjunction_alone closes d = chain_none s k is depth true st next (conjunction_begun d).0 closes was (free_in state) (late_in state) (conjunction (unary_in L depth) (at (marks_at 0 s i) (left_in state))) d

  -- behind a `!`: the operand's root, and room for one node more
  module _ (s : List ℕ) (k : ℕ) (was is : List ℕ) (state : Carried) (ready : Ready state) (some : left_in state ≡ 0 → ⊥) (i depth : ℕ) (st : Carried) (next : ℕ) where
    pub behind_not : GuardRead L s k was is (free_in state) (late_in state) (unary_in L depth (at (marks_at 0 s i) (left_in state - 1))) (after st (Ok next))
        → (0 < free_in st) × (free_in st < node_places)
    behind_not d =
        let q = room s k was is (free_in state) (late_in state) (unary_in L depth (at (marks_at 0 s i) (left_in state - 1))) (left_in state - 1) st next (unary_spends L keeps depth (at (marks_at 0 s i) (left_in state - 1))) d in
        (omega (arith, q.1), omega (arith, q.0, ready.fits, some))
