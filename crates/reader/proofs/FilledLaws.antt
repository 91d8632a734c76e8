-- The arrays, filled statement by statement, are those of the card: where nothing is broken a guard's groups are the card's, and within
-- the limits each statement stays in its own places. Assumes nothing.
use Prim.Native.Nat.{ℕ, zero, suc, ◌+◌, ◌*◌, ◌≤◌, ◌<◌}
use mathlib.Core.Path.{◌≡◌, refl, sym, ap, ◌∙◌}
use mathlib.Core.List.{List, [], ◌∷◌, ◌++◌, append_assoc, append-nil, map}
use mathlib.Core.Option.{Option, none, some}
use native.Mathlib.Omega.{arith}
use lib.ListN.{length, set, length-append, length-map}
use Rattle.card.specs.Limits.{most_shared, most_statements, row_numbers, most_nodes, most_branches, node_places, branch_places, top_state, numbers}
use Rattle.card.specs.Card.{Formula, Guard, Statement, Shared}
use Rattle.card.specs.Weight.{Rule}
use Rattle.card.specs.Valid.{values_of, Every, ValidGuard, ValidSet, ValidBranch, ValidStatement, ValidShared, ValidCard}
use Rattle.card.specs.Laid.{branch_number, guard_cells, guard_size, zeros, padded, rows, node_row, branch_row, statement_row, statement_rows, laid}
use Rattle.card.specs.Rows.{rows_of}
use Rattle.card.specs.Lent.{Lent, lent, lent_of, none_lent}
use Rattle.card.specs.Stored.{stored}
use Rattle.card.specs.declared.Statement.{Statement as StatementRow}
use Rattle.card.proofs.Packed.{packed_branch}
use Rattle.card.proofs.Filling.{FewNodes, FewBranches, fill_nodes, fill_branches, fill_statements}
use Rattle.card.proofs.LaidBack.{length_statement_rows}
use Rattle.reading.specs.Reader.{Numbered}
use Rattle.reading.specs.Group.{Tested}
use Rattle.reading.specs.Judgements.{Judgement, sum, fine, first_broken, units_in}
use Rattle.reading.specs.Shape.{BranchShape, StatementShape, CardShape}
use Rattle.reading.specs.Checks.{judged_state, judged_words, judged_or, weight_in, judged_branch, judged_each, judged_statement, judged_modules, judged_shared, most_in, judged_card, value_or, branch_in, guard_or, statement_in, seats_in, shared_in, card_in}
use Rattle.late.proofs.Settling.{fine_cons, fine_append, same_guard}
use Rattle.branches.specs.Branches.{set_in, packed_in}
use Rattle.statements.specs.StatementHead.{guard_or_by}
use Rattle.statements.specs.OneStatement.{row_by, with_statement}
use Rattle.statements.specs.Statements.{filled}

-- ---- the arrays with these statements in them

abbrev arrays_of : List Statement → Lent
arrays_of ys =
    lent (rows_of (statement_rows most_statements ys)) (padded node_places (rows most_nodes node_row 0 ys)) (padded branch_places (rows most_branches branch_row 0 ys))

-- a number stored behind the first
stored_behind : (a : ℕ) (xs : List ℕ) (k : ℕ) (ys : List ℕ) → stored (a ∷ xs) (suc k) ys ≡ a ∷ stored xs k ys
unfolding stored
stored_behind a xs k [] = refl
stored_behind a xs k (y ∷ ys) =
    let e : suc k + 1 ≡ suc (k + 1) = omega arith in
    rw e (stored_behind a (set xs k y) (k + 1) ys)

-- a statement's row stored is the row set
row_stored : (xs : List StatementRow) (i : ℕ) (x : StatementRow) → i < length xs → stored (rows_of xs) (i * row_numbers) (rows_of (x ∷ [])) ≡ rows_of (set xs i x)
unfolding rows_of stored
row_stored [] i x h = absurd (omega arith)
row_stored (y ∷ xs) zero x h = refl
row_stored (y ∷ xs) (suc i) x h =
    let e : suc i * row_numbers ≡ suc (suc (suc (i * row_numbers))) = omega arith in
    rw e
    (stored_behind y.own (y.nodes ∷ y.branches ∷ rows_of xs) (suc (suc (i * row_numbers))) (rows_of (x ∷ []))
    ∙ ap (λ (l : List ℕ). y.own ∷ l) (stored_behind y.nodes (y.branches ∷ rows_of xs) (suc (i * row_numbers)) (rows_of (x ∷ []))
    ∙ ap (λ (l : List ℕ). y.nodes ∷ l) (stored_behind y.branches (rows_of xs) (i * row_numbers) (rows_of (x ∷ []))
    ∙ ap (λ (l : List ℕ). y.branches ∷ l) (row_stored xs i x (omega arith)))))

-- ---- a statement of a valid card on which nothing is broken

-- its nodes and branches have their places
abbrev Few : Statement → Type 0
Few x = FewNodes x × FewBranches x

record Fits (n : ℕ) (x : StatementShape) : Type 0 where
  guard : guard_or_by x.guard ≡ guard_or n x.guard
  branches : map packed_in x.branches ≡ map branch_number (map branch_in x.branches)
  few : Few (statement_in n x)

abbrev in_branches : Rule → ℕ → ℕ → StatementShape → List Judgement
in_branches decimals k m x = judged_each (judged_branch decimals k m) x.branches ++ (sum (map weight_in x.branches) x.close ∷ [])

-- m is the most that the shared number may be, and `values` how many values it has
module _ (decimals : Rule) (n k m values : ℕ) where
  guard_fits : (g : Option (Formula Tested)) → first_broken n (judged_or k m g) ≡ fine → guard_or_by g ≡ guard_or n g
  guard_fits none h = refl
  guard_fits (some g) h = ap some (same_guard n k m g h)

  set_small : (v : Option Numbered) → values ≤ most_shared → ValidSet values (value_or v) → set_in v ≤ numbers
  set_small none few h = omega arith
  set_small (some v) few h = omega arith

  branches_fit : (bs : List BranchShape) → k ≤ top_state → values ≤ most_shared → Every (ValidBranch k values) (map branch_in bs) → map packed_in bs ≡ map branch_number (map branch_in bs)
  branches_fit [] t few h = refl
  branches_fit (b ∷ bs) t few h =
      rw (packed_branch (units_in b.weight) (set_in b.sets) b.end.value h.0.units (set_small b.sets few h.0.sets) (omega (arith, h.0.end)), branches_fit bs t few h.1)

  few_nodes : (g : Option Guard) → ValidGuard n k values g → guard_size g ≤ most_nodes
  few_nodes none h = omega arith
  few_nodes (some g) h = h.2

  statement_fits : (x : StatementShape) → k ≤ top_state → values ≤ most_shared → first_broken n (judged_statement decimals k m x) ≡ fine → ValidStatement n k values (statement_in n x) → Fits n x
  statement_fits x t l h v =
      let own = (fine_append n (judged_words (1 ∷ []) x.words) (judged_state k x.own ∷ (judged_or k m x.guard ++ in_branches decimals k m x)) h).1 in
      let guard = (fine_append n (judged_or k m x.guard) (in_branches decimals k m x) (fine_cons n (judged_state k x.own) (judged_or k m x.guard ++ in_branches decimals k m x) own).1).0 in
      record {
        guard = guard_fits x.guard guard;
        branches = branches_fit x.branches t l v.branches;
        few = (few_nodes (guard_or n x.guard) v.guard, v.some.1);
      }

  all_fit : (xs : List StatementShape) → k ≤ top_state → values ≤ most_shared → first_broken n (judged_each (judged_statement decimals k m) xs) ≡ fine → Every (ValidStatement n k values) (map (statement_in n) xs) → Every (Fits n) xs
  all_fit [] t l h v = tt
  all_fit (x ∷ xs) t l h v =
      let both = fine_append n (judged_statement decimals k m x) (judged_each (judged_statement decimals k m) xs) h in
      (statement_fits x t l both.0 v.0, all_fit xs t l both.1 v.1)

-- ---- statement by statement

row_fits : (n : ℕ) (x : StatementShape) → Fits n x → row_by x ≡ statement_row (statement_in n x)
row_fits n x f = rw (f.guard, length-map x.branches branch_in)

every_more : (ys : List Statement) (y : Statement) → Every Few ys → Few y → Every Few (ys ++ y ∷ [])
every_more [] y h g = (g, tt)
every_more (z ∷ ys) y h g = (h.0, every_more ys y h.1 g)

every_nodes : (ys : List Statement) → Every Few ys → Every FewNodes ys
every_nodes [] h = tt
every_nodes (y ∷ ys) h = (h.0.0, every_nodes ys h.1)

every_branches : (ys : List Statement) → Every Few ys → Every FewBranches ys
every_branches [] h = tt
every_branches (y ∷ ys) h = (h.0.1, every_branches ys h.1)

statement_filled : (n : ℕ) (ys : List Statement) (x : StatementShape) → Every Few ys → Fits n x → length ys < most_statements
    → with_statement (length ys) x (arrays_of ys) ≡ arrays_of (ys ++ statement_in n x ∷ [])
statement_filled n ys x h f l =
    let i = length ys in
    let row : stored (rows_of (statement_rows most_statements ys)) (i * row_numbers) (rows_of (row_by x ∷ [])) ≡ rows_of (statement_rows most_statements (ys ++ statement_in n x ∷ [])) =
    rw (row_fits n x f) (row_stored (statement_rows most_statements ys) i (statement_row (statement_in n x)) (rw (length_statement_rows most_statements ys) l) ∙ ap rows_of (fill_statements ys (statement_in n x) i refl l)) in
    let nodes : stored (padded node_places (rows most_nodes node_row 0 ys)) (i * most_nodes) (guard_cells (guard_or_by x.guard) (i * most_nodes)) ≡ padded node_places (rows most_nodes node_row 0 (ys ++ statement_in n x ∷ [])) =
    rw f.guard (fill_nodes ys (statement_in n x) i refl l (every_nodes ys h) f.few.0) in
    let branches : stored (padded branch_places (rows most_branches branch_row 0 ys)) (i * most_branches) (map packed_in x.branches) ≡ padded branch_places (rows most_branches branch_row 0 (ys ++ statement_in n x ∷ [])) =
    rw f.branches (fill_branches ys (statement_in n x) i refl l (every_branches ys h) f.few.1) in
    λ q. lent (row q) (nodes q) (branches q)

all_filled : (n : ℕ) (xs : List StatementShape) (ys : List Statement) (i : ℕ) → i ≡ length ys → Every Few ys → Every (Fits n) xs → length ys + length xs ≤ most_statements
    → filled i xs (arrays_of ys) ≡ arrays_of (ys ++ map (statement_in n) xs)
unfolding filled
all_filled n [] ys i e g f h = ap arrays_of (sym (append-nil ys))
all_filled n (x ∷ xs) ys i e g f h =
    let next : i + 1 ≡ length (ys ++ statement_in n x ∷ []) = rw (length-append ys (statement_in n x ∷ [])) (omega arith) in
    rw (e, statement_filled n ys x g f.0 (omega arith)) (rw e at
    (all_filled n xs (ys ++ statement_in n x ∷ []) (i + 1) next (every_more ys (statement_in n x) g f.0.few) f.1 (rw (length-append ys (statement_in n x ∷ [])) (omega arith)))
    ∙ ap arrays_of (append_assoc ys (statement_in n x ∷ []) (map (statement_in n) xs)))

none_yet : none_lent ≡ arrays_of []
unfolding statement_rows rows_of zeros padded rows
none_yet = refl

-- ---- the card's arrays

few_values : (o : Option Shared) → ValidShared o → values_of o ≤ most_shared
few_values none h = omega arith
few_values (some x) h = omega (arith, h.0)

pub card_lent : (decimals : Rule) (c : CardShape) → first_broken (seats_in c) (judged_card decimals c) ≡ fine → ValidCard (card_in c) → filled 0 c.statements none_lent ≡ lent_of (card_in c)
unfolding laid
card_lent decimals c h v =
    let n = seats_in c in
    let m = most_in c.shared in
    let body = judged_each (judged_statement decimals c.k m) c.statements ++ judged_modules 2 c.modules in
    let behind = (fine_append n (judged_shared c.shared) (judged_words (1 ∷ 1 ∷ []) c.words ++ (judged_state c.k c.l ∷ body)) h).1 in
    let words = (fine_append n (judged_words (1 ∷ 1 ∷ []) c.words) (judged_state c.k c.l ∷ body) behind).1 in
    let each = (fine_append n (judged_each (judged_statement decimals c.k m) c.statements) (judged_modules 2 c.modules) (fine_cons n (judged_state c.k c.l) body words).1).0 in
    let fit = all_fit decimals n c.k m (values_of (shared_in c.shared)) c.statements v.top (few_values (shared_in c.shared) v.shared) each v.statements in
    let few : length c.statements ≤ most_statements = rw (length-map c.statements (statement_in n)) at v.some.1 in
    ap (filled 0 c.statements) none_yet ∙ all_filled n c.statements [] 0 refl tt fit (omega arith)
