-- A reader passes only marks that fit, so no mark outside the rules: what holds of a place and goes on past every mark inside the rules
-- (P) holds behind whatever a reader of the shape reads, and where it stops; and it stops with a number. One lemma for each way in
-- which readers are put together, then the shape of a card. Assumes nothing.
use Prim.Native.Nat.{ℕ, zero, suc, ◌-◌}
use Prim.Native.String.{String}
use mathlib.Core.Path.{◌≡◌, refl}
use mathlib.Core.Bool.{Bool, true, false}
use mathlib.Core.List.{List, [], ◌∷◌}
use mathlib.Core.Option.{Option, none, some}
use native.Mathlib.Omega.{arith}
use lib.Dec.{leb}
use lib.ListN.{length}
use Rattle.card.specs.Limits.{most_seats, top_state, top_shared, most_statements, most_branches, most_nodes, most_depth}
use Rattle.card.specs.Refusals.{past_limit}
use Rattle.card.specs.Text.{when◌then◌else◌}
use Rattle.card.specs.Card.{Mode, Formula, and, or, any, all}
use Rattle.card.specs.Weight.{Weight, whole, decimal as point, ratio}
use Rattle.marks_on_a_card.specs.Marks.{Mark, text, seat, process, number, decimal, outside, placed}
use Rattle.reading.specs.Reader.{Place, State, at, Result, ok, stop, Reader, bind, return, refuse, took, first, the, is, given, next_is, if_next, sign, seat_of, process_of, number_of, numbered, spend, node, node_at, Item, exactly, seat_word, process_word, line}
use Rattle.reading.specs.Guard.{is_some, test_next, Read, chain, conjunction, expression, grouped, unary_by, unary}
use Rattle.reading.specs.Group.{joint, relation_of, literal, joined, others, group, shared_test, tested}
use Rattle.reading.specs.Shape.{Range, many, weight_of, over, weight, setting, sets, branch, next_branch, past_branches, more_branches, guard, statement, more_statements, copy, more_modules, mode_of, zero_of, top, range, declaration, ended, the_end, modules, body, card}
use Rattle.reading.specs.Reading.{is_outside}
use Rattle.grammar.specs.Grammar.{shared_run, card_run, statement_run, branch_run, set_run, module_run}

module _ (P : Place → Type 0) (pass : (m : Mark) (q : ℕ) (ms : Place) → is_outside m ≡ false → P (placed m q ∷ ms) → P ms) where
  abbrev pub Held : {A : Type 0} → Result A → Type 0
  Held (ok a s) = P s.marks
  Held (stop n p) = P p × (n ≡ 0 → ⊥)

  abbrev pub Safe : {A : Type 0} → Reader A → Type 0
  Safe p = (s : State) → P s.marks → Held (p s)

  -- ---- how readers are put together

  module _ {A B : Type 0} where
    pub and_then : (x : Result A) (f : A → Reader B) → Held x → ((a : A) → Safe (f a)) → Held (bind x f)
    and_then (ok a s) f h k = k a s h
    and_then (stop n p) f h k = h

  limit_p : (p : Place) → P p → P p × (past_limit ≡ 0 → ⊥)
  limit_p p h = (h, λ e. omega arith)

  took_held : {A : Type 0} (o : Option A) (m : Mark) (q : ℕ) (ms : Place) (n : ℕ) → is_outside m ≡ false → P (placed m q ∷ ms) → Held (took o (placed m q) ms n)
  took_held none m q ms n e h = (h, λ e. omega arith)
  took_held (some a) m q ms n e h = pass m q ms e h

  first_held : {A : Type 0} (f : Mark → Option A) → f outside ≡ none → (ms : Place) (n : ℕ) → P ms → Held (first f ms n)
  first_held f e [] n h = (h, λ e. omega arith)
  first_held f e (placed (text t) q ∷ ms) n h = took_held (f (text t)) (text t) q ms n refl h
  first_held f e (placed (seat i) q ∷ ms) n h = took_held (f (seat i)) (seat i) q ms n refl h
  first_held f e (placed (process i) q ∷ ms) n h = took_held (f (process i)) (process i) q ms n refl h
  first_held f e (placed (number v) q ∷ ms) n h = took_held (f (number v)) (number v) q ms n refl h
  first_held f e (placed (decimal v d g) q ∷ ms) n h = took_held (f (decimal v d g)) (decimal v d g) q ms n refl h
  first_held f e (placed outside q ∷ ms) n h = rw e (h, λ e. omega arith)

  the_p : {A : Type 0} (f : Mark → Option A) → f outside ≡ none → Safe (the f)
  the_p f e s h = first_held f e s.marks s.nodes h

  pub sign_p : (t : String) → Safe (sign t)
  sign_p t = the_p (λ m. given (is t m)) refl

  numbered_p : (f : Mark → Option ℕ) → f outside ≡ none → Safe (numbered f)
  numbered_p f e s h = and_then (the f s) _ (the_p f e s h) λ v s₁ h₁. h₁

  pub choice : {A : Type 0} (b : Bool) (p q : Reader A) → Safe p → Safe q → Safe (when b then p else q)
  choice true p q x y = x
  choice false p q x y = y

  spend_held : (p ms : Place) (n : ℕ) → P p → P ms → Held (spend p ms n)
  spend_held p ms zero g h = limit_p p g
  spend_held p ms (suc n) g h = h

  node_p : Safe node
  node_p s h = spend_held s.marks s.marks s.nodes h h

  line_p : (items : List Item) → Safe (line items)
  line_p [] s h = h
  line_p (exactly t ∷ items) s h = and_then (sign t s) _ (sign_p t s h) λ u. line_p items
  line_p (seat_word ∷ items) s h = and_then (numbered seat_of s) _ (numbered_p seat_of refl s h) λ w s₁ h₁. and_then (line items s₁) _ (line_p items s₁ h₁) λ ws s₂ h₂. h₂
  line_p (process_word ∷ items) s h = and_then (numbered process_of s) _ (numbered_p process_of refl s h) λ w s₁ h₁. and_then (line items s₁) _ (line_p items s₁ h₁) λ ws s₂ h₂. h₂

  module _ {A : Type 0} (t : String) (one : Reader A) (past : Reader (List A)) (x : Safe one) (y : Safe past) where
    many_p : (most : ℕ) → Safe (many most t one past)
    many_p zero s h = choice (next_is t s.marks) past _ y (λ s₁ h₁. h₁) s h
    many_p (suc most) s h =
        choice (next_is t s.marks) _ _
        (λ s₁ h₁. and_then (one s₁) _ (x s₁ h₁) λ a s₂ h₂. and_then (many most t one past s₂) _ (many_p most s₂ h₂) λ rest s₃ h₃. h₃)
        (λ s₁ h₁. h₁) s h

  -- ---- groups and guards

  pub literal_p : Safe literal
  literal_p s h =
      and_then (the seat_of s) _ (the_p seat_of refl s h) λ i s₁ h₁.
      and_then (the relation_of s₁) _ (the_p relation_of refl s₁ h₁) λ q s₂ h₂.
      and_then (the number_of s₂) _ (the_p number_of refl s₂ h₂) λ d s₃ h₃. h₃

  close_p : {A : Type 0} (a : A) → Safe (λ s. bind (sign ")" s) (λ u. return a))
  close_p a s h = and_then (sign ")" s) _ (sign_p ")" s h) λ u s₁ h₁. h₁

  -- things of one kind, each behind the sign, up to the closing bracket
  pub joined_p : {A : Type 0} (one : Reader A) → Safe one → (t : String) (most : ℕ) → Safe (joined one t most)
  joined_p one x t zero s h = choice (next_is t s.marks) _ _ (λ s₁ h₁. limit_p s₁.marks h₁) (close_p []) s h
  joined_p one x t (suc most) s h =
      choice (next_is t s.marks) _ _
      (λ s₁ h₁.
      and_then (sign t s₁) _ (sign_p t s₁ h₁) λ u s₂ h₂.
      and_then (one s₂) _ (x s₂ h₂) λ l s₃ h₃.
      and_then (joined one t most s₃) _ (joined_p one x t most s₃ h₃) λ ls s₄ h₄. h₄)
      (close_p []) s h

  pub group_p : (p : Place) → Safe (group p)
  group_p p s h =
      and_then (literal s) _ (literal_p s h) λ l s₁ h₁.
      and_then (if_next (joint any) (return any) (return all) s₁) _ (choice (next_is (joint any) s₁.marks) _ _ (λ s₂ h₂. h₂) (λ s₂ h₂. h₂) s₁ h₁) λ j s₂ h₂.
      and_then (others (joint j) (length s₁.marks) s₂) _ (joined_p literal literal_p (joint j) (length s₁.marks) s₂ h₂) λ ls s₃ h₃. h₃

  pub shared_test_p : Safe shared_test
  shared_test_p s h =
      and_then (sign "g" s) _ (sign_p "g" s h) λ u s₁ h₁.
      and_then (the relation_of s₁) _ (the_p relation_of refl s₁ h₁) λ q s₂ h₂.
      and_then (numbered number_of s₂) _ (numbered_p number_of refl s₂ h₂) λ v. close_p _

  tested_p : (p : Place) → Safe (tested p)
  tested_p p s h =
      choice (next_is "g" s.marks) _ _
      (λ s₁ h₁. and_then (shared_test s₁) _ (shared_test_p s₁ h₁) λ x s₂ h₂. h₂)
      (λ s₁ h₁. and_then (group p s₁) _ (group_p p s₁ h₁) λ x s₂ h₂. h₂) s h

  module _ {A : Type 0} where
    module _ (t : String) (join : Formula A → Formula A → Formula A) (operand : Read A) (x : Safe operand) where
      chain_p : (most : ℕ) (g : Formula A) → Safe (chain t join operand most g)
      chain_p zero g s h = choice (next_is t s.marks) _ _ (λ s₁ h₁. limit_p s₁.marks h₁) (λ s₁ h₁. h₁) s h
      chain_p (suc most) g s h =
          choice (next_is t s.marks) _ _
          (λ s₁ h₁.
          and_then (node s₁) _ (node_p s₁ h₁) λ u s₂ h₂.
          and_then (sign t s₂) _ (sign_p t s₂ h₂) λ w s₃ h₃.
          and_then (operand s₃) _ (x s₃ h₃) λ k. chain_p most (join g k))
          (λ s₁ h₁. h₁) s h

    conjunction_p : (p : Read A) → Safe p → Safe (conjunction p)
    conjunction_p p x s h = and_then (p s) _ (x s h) λ g. chain_p "&" and p x most_nodes g

    pub expression_p : (p : Read A) → Safe p → Safe (expression p)
    expression_p p x s h = and_then (conjunction p s) _ (conjunction_p p x s h) λ g. chain_p "|" or (conjunction p) (conjunction_p p x) most_nodes g

  -- over any items that a bracket may start
  module _ {A : Type 0} (starts : Place → Bool) (item : Place → Reader A) (x : (p : Place) → Safe (item p)) where
    grouped_p : (p : Place) → P p → Safe (grouped item p)
    grouped_p p g s h =
        and_then (node_at p s) _ (spend_held p s.marks s.nodes g h) λ u s₁ h₁.
        and_then (item p s₁) _ (x p s₁ h₁) λ a s₂ h₂. h₂

    pub unary_p : (depth : ℕ) → Safe (unary_by starts item depth)
    unary_p zero s h =
        choice (next_is "!" s.marks) _ _ (λ s₁ h₁. limit_p s₁.marks h₁)
        (λ s₁ h₁. and_then (sign "(" s₁) _ (sign_p "(" s₁ h₁) λ u s₂ h₂.
        choice (starts s₂.marks) _ _ (grouped_p s₁.marks h₁) (λ s₃ h₃. limit_p s₁.marks h₁) s₂ h₂) s h
    unary_p (suc depth) s h =
        choice (next_is "!" s.marks) _ _
        (λ s₁ h₁.
        and_then (node s₁) _ (node_p s₁ h₁) λ u s₂ h₂.
        and_then (sign "!" s₂) _ (sign_p "!" s₂ h₂) λ w s₃ h₃.
        and_then (unary_by starts item depth s₃) _ (unary_p depth s₃ h₃) λ g s₄ h₄. h₄)
        (λ s₁ h₁. and_then (sign "(" s₁) _ (sign_p "(" s₁ h₁) λ u s₂ h₂.
        choice (starts s₂.marks) _ _ (grouped_p s₁.marks h₁)
        (λ s₃ h₃. and_then (expression (unary_by starts item depth) s₃) _ (expression_p (unary_by starts item depth) (unary_p depth) s₃ h₃) λ g. close_p g) s₂ h₂) s h

  pub guard_p : (shared : Bool) → Safe (conjunction (unary shared tested most_depth))
  guard_p shared = conjunction_p (unary shared tested most_depth) (unary_p (test_next shared) tested tested_p most_depth)

  -- ---- the card

  over_p : (w : Weight) → Safe (over w)
  over_p (whole a) s h =
      choice (next_is "/" s.marks) _ _
      (λ s₁ h₁. and_then (sign "/" s₁) _ (sign_p "/" s₁ h₁) λ u s₂ h₂. and_then (the number_of s₂) _ (the_p number_of refl s₂ h₂) λ b s₃ h₃. h₃)
      (λ s₁ h₁. h₁) s h
  over_p (point v n f) s h = h
  over_p (ratio a b) s h = h

  weight_p : Safe weight
  weight_p s h = and_then (the weight_of s) _ (the_p weight_of refl s h) λ w. over_p w

  setting_p : Safe setting
  setting_p s h =
      choice (next_is "&" s.marks) _ _
      (λ s₁ h₁.
      and_then (line set_run s₁) _ (line_p set_run s₁ h₁) λ ws s₂ h₂.
      and_then (numbered number_of s₂) _ (numbered_p number_of refl s₂ h₂) λ v. close_p _)
      (λ s₁ h₁. h₁) s h

  sets_p : (shared : Bool) → Safe (sets shared)
  sets_p false s h = h
  sets_p true s h = setting_p s h

  branch_p : (shared : Bool) → Safe (branch shared)
  branch_p shared s h =
      and_then (weight s) _ (weight_p s h) λ w s₁ h₁.
      and_then (line branch_run s₁) _ (line_p branch_run s₁ h₁) λ ws s₂ h₂.
      and_then (numbered number_of s₂) _ (numbered_p number_of refl s₂ h₂) λ t s₃ h₃.
      and_then (sign ")" s₃) _ (sign_p ")" s₃ h₃) λ u s₄ h₄.
      and_then (sets shared s₄) _ (sets_p shared s₄ h₄) λ v s₅ h₅. h₅

  more_branches_p : (shared : Bool) (most : ℕ) → Safe (more_branches shared most)
  more_branches_p shared =
      many_p "+" (next_branch shared) past_branches (λ s h. and_then (sign "+" s) _ (sign_p "+" s h) λ u. branch_p shared)
      (λ s h. and_then (sign "+" s) _ (sign_p "+" s h) λ u s₁ h₁. and_then (the weight_of s₁) _ (the_p weight_of refl s₁ h₁) λ w s₂ h₂. limit_p s₁.marks h₁)

  option_p : (shared : Bool) → Safe (guard shared)
  unfolding guard
  option_p shared s h =
      choice (next_is "&" s.marks) _ _
      (λ s₁ h₁. and_then (sign "&" s₁) _ (sign_p "&" s₁ h₁) λ u s₂ h₂. and_then (conjunction (unary shared tested most_depth) s₂) _ (guard_p shared s₂ h₂) λ g s₃ h₃. h₃)
      (λ s₁ h₁. h₁) s h

  statement_p : (shared : Bool) → Safe (statement shared)
  statement_p shared s h =
      and_then (line statement_run s) _ (line_p statement_run s h) λ ws s₁ h₁.
      and_then (numbered number_of s₁) _ (numbered_p number_of refl s₁ h₁) λ j s₂ h₂.
      and_then (guard shared (at s₂.marks most_nodes)) _ (option_p shared (at s₂.marks most_nodes) h₂) λ g s₃ h₃.
      and_then (sign "->" s₃) _ (sign_p "->" s₃ h₃) λ u s₄ h₄.
      and_then (branch shared s₄) _ (branch_p shared s₄ h₄) λ b s₅ h₅.
      and_then (more_branches shared (most_branches - 1) s₅) _ (more_branches_p shared (most_branches - 1) s₅ h₅) λ bs s₆ h₆.
      and_then (sign ";" s₆) _ (sign_p ";" s₆ h₆) λ w s₇ h₇. h₇

  top_p : (most : ℕ) → Safe (top most)
  top_p most s h = and_then (the number_of s) _ (the_p number_of refl s h) λ k. choice (leb k most) _ _ (λ s₁ h₁. h₁) (λ s₁ h₁. limit_p s.marks h)

  range_p : (most : ℕ) → Safe (range most)
  range_p most s h =
      and_then (the zero_of s) _ (the_p zero_of refl s h) λ z s₁ h₁.
      and_then (sign ".." s₁) _ (sign_p ".." s₁ h₁) λ u s₂ h₂.
      and_then (top most s₂) _ (top_p most s₂ h₂) λ k s₃ h₃.
      and_then (sign "]" s₃) _ (sign_p "]" s₃ h₃) λ u₁ s₄ h₄.
      and_then (sign "init" s₄) _ (sign_p "init" s₄ h₄) λ u₂ s₅ h₅.
      and_then (numbered number_of s₅) _ (numbered_p number_of refl s₅ h₅) λ l s₆ h₆.
      and_then (sign ";" s₆) _ (sign_p ";" s₆ h₆) λ u₃ s₇ h₇. h₇

  declaration_p : Safe declaration
  declaration_p s h = and_then (line shared_run s) _ (line_p shared_run s h) λ ws. range_p top_shared

  pub ended_held : (ms : Place) (n : ℕ) → P ms → Held (ended ms n)
  ended_held [] n h = h
  ended_held (m ∷ ms) n h = (h, λ e. omega arith)

  modules_p : (mode : Mode) (g : Option Range) → Safe (modules mode g)
  modules_p mode g s h =
      and_then (line card_run s) _ (line_p card_run s h) λ ws s₁ h₁.
      and_then (range top_state s₁) _ (range_p top_state s₁ h₁) λ r s₂ h₂.
      and_then (statement (is_some g) s₂) _ (statement_p (is_some g) s₂ h₂) λ x s₃ h₃.
      and_then (more_statements (is_some g) (most_statements - 1) s₃) _
      (many_p "[" (statement (is_some g)) (refuse past_limit) (statement_p (is_some g)) (λ s h. limit_p s.marks h) (most_statements - 1) s₃ h₃) λ xs s₄ h₄.
      and_then (sign "endmodule" s₄) _ (sign_p "endmodule" s₄ h₄) λ u s₅ h₅.
      and_then (more_modules (most_seats - 1) s₅) _ (many_p "module" copy (refuse past_limit) (line_p module_run) (λ s h. limit_p s.marks h) (most_seats - 1) s₅ h₅) λ ms s₆ h₆. h₆

  body_p : Safe body
  body_p s h =
      and_then (the mode_of s) _ (the_p mode_of refl s h) λ m s₁ h₁.
      choice (next_is "global" s₁.marks) _ _
      (λ s₂ h₂. and_then (declaration s₂) _ (declaration_p s₂ h₂) λ g. modules_p m (some g))
      (modules_p m none) s₁ h₁

  pub card_p : Safe card
  card_p s h = and_then (body s) _ (body_p s h) λ c s₁ h₁. and_then (the_end s₁) _ (ended_held s₁.marks s₁.nodes h₁) λ u s₂ h₂. h₂
