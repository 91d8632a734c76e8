-- A statement, read behind its `[`. Assumes nothing.
use Prim.Native.Nat.{ℕ, ◌+◌, ◌-◌, ◌*◌}
use mathlib.Core.Path.{◌≡◌, refl, sym, ap, ◌∙◌}
use mathlib.Core.List.{List, [], ◌∷◌}
use mathlib.Core.Option.{Option}
use native.Mathlib.Omega.{arith}
use lib.ListN.{length, set}
use Rattle.card.specs.Limits.{row_numbers, most_nodes, most_branches}
use Rattle.card.specs.Card.{Formula}
use Rattle.card.specs.Laid.{guard_size}
use Rattle.card.specs.Stored.{stored}
use Rattle.card.specs.Rows.{rows_of}
use Rattle.card.specs.Lent.{Lent, lent}
use Rattle.reading.specs.Reader.{Place, State, Result, ok, Reader, bind, return, sign, number_of, Numbered, numbered, Item, exactly, seat_word, line}
use Rattle.reading.specs.Group.{Tested}
use Rattle.reading.specs.Shape.{StatementShape, more_branches, guard}
use Rattle.reading.specs.Checks.{judged_state, judged_words, judged_or}
use Rattle.late.specs.Late.{Late, judge, judge_all}
use Rattle.late.specs.Values.{shares, most_of}
use Rattle.std.specs.Prelude.{Ok, Err}
use Rattle.late.specs.declared.state.State.{State as Carried}
use Rattle.late.specs.Settled.{Refusal}
use Rattle.late.specs.State.{NextPlace, late_in, value_in, After, after}
use Rattle.late.proofs.Settling.{judge_append}
use Rattle.parts.specs.Parts.{from, Kept, Went, NumberFrom, Sure, LineRead}
use Rattle.branches.specs.declared.Bounds.{Bounds}
use Rattle.branches.specs.Branches.{BranchesShape, branch_by, branches, judged_branches, BranchesFrom}
use Rattle.statements.specs.StatementHead.{statement_due, OwnFrom, guarded, guard_or_by, GuardedFrom}
use Rattle.statements.specs.OneStatement.{row_by, statement_by, StatementRead, StatementFrom}
use Rattle.parts.proofs.Steps.{told}
use Rattle.parts.proofs.Answers.{onward, halted}
use Rattle.parts.proofs.Lines.{assoc}

pub statement_sure : Sure statement_due
statement_sure = (told "]" (omega arith), (told "=" (omega arith), tt))

abbrev pub statement_rest : List Item
statement_rest = exactly "]" ∷ seat_word ∷ exactly "=" ∷ []

abbrev stated : List Numbered → Numbered → Option (Formula Tested) → BranchesShape → StatementShape
stated ws j g x = record { words = ws; own = j; guard = g; branches = x.branches; close = x.close }

-- the guard with the arrow, then the branches with the `;`
in_parts : {A B C X Y : Type 0} (x : Result A) (p q : Reader (Unit {0})) (b : Reader B) (more : Reader C) (f : B → C → Place → X) (h : A → X → Y)
    → bind x (λ g s₁. bind (p s₁) (λ u s₂. bind (b s₂) (λ y s₃. bind (more s₃) (λ ys s₄. bind (q s₄) (λ w. return (h g (f y ys s₄.marks)))))))
    ≡ bind (bind x (λ g s₁. bind (p s₁) (λ u. return g))) (λ g s₁. bind (bind (b s₁) (λ y s₃. bind (more s₃) (λ ys s₄. bind (q s₄) (λ w. return (f y ys s₄.marks))))) (λ z. return (h g z)))
in_parts x p q b more f h = simp assoc

from_guard : (bounds : Bounds) (ws : List Numbered) (j : Numbered) (s : State)
    → bind (guard (shares bounds.values) s) (λ g s₁. bind (sign "->" s₁) (λ u s₂. bind (branch_by bounds s₂) (λ b s₃. bind (more_branches (shares bounds.values) (most_branches - 1) s₃) (λ bs s₄. bind (sign ";" s₄) (λ w. return (record { words = ws; own = j; guard = g; branches = b ∷ bs; close = s₄.marks }))))))
    ≡ bind (guarded (shares bounds.values) s) (λ g s₁. bind (branches bounds (most_branches - 1) s₁) (λ x. return (stated ws j g x)))
from_guard bounds ws j s =
    in_parts (guard (shares bounds.values) s) (sign "->") (sign ";") (branch_by bounds) (more_branches (shares bounds.values) (most_branches - 1)) (λ b bs p. record { branches = b ∷ bs; close = p }) (stated ws j)

module _ (bounds : Bounds) (s : List ℕ) (i : ℕ) (before : Late) (was is : Lent) (index : ℕ) where
  abbrev StatementIs : After → Type 0
  StatementIs = StatementFrom bounds s i before was is index

  owned : {a : Carried} {y : NextPlace} → OwnFrom s i before (after a y) → (n : ℕ) → LineRead s before (1 ∷ []) (line statement_rest (from s i n)) (after a y)
  owned hw n = hw.answers statement_due statement_sure refl n

  pub words_halt : {a : Carried} {z : Refusal} → OwnFrom s i before (after a (Err z)) → StatementIs (after a (Err z))
  words_halt {a} {z} hw = record { answers = λ st n b. rw b (halted s _ _ (line statement_rest (from s i n)) _ a z (owned hw n)) }

  module _ {a : Carried} {w : ℕ} (hw : OwnFrom s i before (after a (Ok w))) where
    pub own_halts : {c : Carried} {z : Refusal} → NumberFrom s w bounds.top (late_in a) (after c (Err z)) → StatementIs (after c (Err z))
    own_halts {c} {z} hj = record {
      answers = λ st n b. rw b (onward s _ _ (line statement_rest (from s i n)) _ a w _ (owned hw n) λ ws m f.
          halted s _ _ (numbered number_of (from s w m)) _ c z (hj.answers m));
    }

    module _ {c : Carried} {j : ℕ} (hj : NumberFrom s w bounds.top (late_in a) (after c (Ok j))) where
      behind_own : (r : After) (st : State) (n : ℕ) → sign "[" st ≡ ok tt (from s i n)
          → ((ws : List Numbered) (own : Numbered) → Kept s before (judged_words (1 ∷ []) ws) a → Went s (late_in a) own.value (judged_state bounds.top own ∷ []) c
          → StatementRead bounds s before was is index (bind (guarded (shares bounds.values) (from s j most_nodes)) (λ f s₁. bind (branches bounds (most_branches - 1) s₁) (λ x. return (stated ws own f x)))) r)
          → StatementRead bounds s before was is index (statement_by bounds st) r
      behind_own r st n b y = rw b (onward s _ _ (line statement_rest (from s i n)) _ a w r (owned hw n) λ ws m f.
          onward s _ _ (numbered number_of (from s w m)) _ c j r (hj.answers m) λ own m₁ f₁.
          rw (from_guard bounds ws own (from s j most_nodes)) (y ws own f f₁))

      pub guard_halts : {d : Carried} {z : Refusal} → GuardedFrom s j bounds.top bounds.values (late_in c) was.nodes is.nodes (index * most_nodes) (after d (Err z)) → StatementIs (after d (Err z))
      guard_halts {d} {z} hg = record { answers = λ st n b. behind_own _ st n b λ ws own f f₁. halted s _ _ (guarded (shares bounds.values) (from s j most_nodes)) _ d z hg.answers }

      module _ {d : Carried} {g : ℕ} (hg : GuardedFrom s j bounds.top bounds.values (late_in c) was.nodes is.nodes (index * most_nodes) (after d (Ok g))) where
        pub branches_halt : {o : Carried} {z : Refusal} → BranchesFrom bounds s g (late_in d) was.branches is.branches (index * most_branches) (after o (Err z)) → StatementIs (after o (Err z))
        branches_halt {o} {z} hl = record {
          answers = λ st n b. behind_own _ st n b λ ws own f f₁. onward s _ _ (guarded (shares bounds.values) (from s j most_nodes)) _ d g _ hg.answers λ h m f₂.
              halted s _ _ (branches bounds (most_branches - 1) (from s g m)) _ o z (hl.answers m);
        }

        module _ {o : Carried} {l : ℕ} (hl : BranchesFrom bounds s g (late_in d) was.branches is.branches (index * most_branches) (after o (Ok l))) where
          -- its row, written number by number
          row_written : (x : StatementShape) → value_in c ≡ x.own.value → value_in d ≡ guard_size (guard_or_by x.guard) → value_in o ≡ length x.branches
              → set (set (set was.rows (index * row_numbers) (value_in c)) (index * row_numbers + 1) (value_in d)) (index * row_numbers + 2) (value_in o) ≡ stored was.rows (index * row_numbers) (rows_of (row_by x ∷ []))
          unfolding stored rows_of
          row_written x e f h =
              let to : index * row_numbers + 2 ≡ index * row_numbers + 1 + 1 = omega arith in
              rw (to, e, f, h) refl

          pub statement_read : is.rows ≡ set (set (set was.rows (index * row_numbers) (value_in c)) (index * row_numbers + 1) (value_in d)) (index * row_numbers + 2) (value_in o)
              → StatementIs (after o (Ok l))
          unfolding judge_all
          statement_read rows = record {
            answers = λ st n b. behind_own _ st n b λ ws own f f₁. onward s _ _ (guarded (shares bounds.values) (from s j most_nodes)) _ d g _ hg.answers λ h m f₂.
                onward s _ _ (branches bounds (most_branches - 1) (from s g m)) _ o l _ (hl.answers m) λ x m₁ f₃.
                record {
                  rest = refl;
                  told = record {
                    late = f₃.went.late
                        ∙ ap (judge_all (length s) (judged_branches bounds x)) (f₂.went.late ∙ ap (judge_all (length s) (judged_or bounds.top (most_of bounds.values) h)) (f₁.late ∙ ap (judge (length s) (judged_state bounds.top own)) f))
                        ∙ sym (judge_append (length s) (judged_words (1 ∷ []) ws) _ before ∙ judge_append (length s) (judged_or bounds.top (most_of bounds.values) h) (judged_branches bounds x) _);
                    memory = λ q. lent ((rows ∙ row_written (stated ws own h x) f₁.value f₂.went.value f₃.went.value) q) (f₂.array q) (f₃.array q);
                  };
                };
          }
