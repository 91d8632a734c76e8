-- What the limits count stands in the order of the text, so that the first past its limit in the list is the one at the earliest place.
-- By induction over what is said. Assumes nothing.
use Prim.Native.Nat.{ℕ, suc, ◌+◌}
use mathlib.Core.Path.{◌≡◌, refl}
use mathlib.Core.Bool.{Bool}
use mathlib.Core.List.{List, [], ◌∷◌, ◌++◌}
use mathlib.Core.Option.{Option}
use Rattle.card.specs.Limits.{most_seats, top_state, top_shared, most_statements, most_nodes, most_depth}
use Rattle.card.specs.Card.{Formula}
use Rattle.card.specs.Valid.{size}
use Rattle.card.specs.Weight.{card_rule}
use Rattle.marks_on_a_card.specs.Marks.{number, Placed, placed}
use Rattle.reading.specs.Reader.{Place, Numbered}
use Rattle.reading.specs.Group.{joint, Tested}
use Rattle.reading.specs.Judgements.{place_in, judged_test}
use Rattle.reading.specs.Checks.{judged_words, judged_branch}
use Rattle.reading.specs.Shape.{BranchShape, StatementShape, Range, CardShape}
use Rattle.grammar.specs.Grammar.{Said, sign_at, LineSaid, fixed, module_run, ManySaid, done, again, TestedSaid, Part, GuardSaid, grouped, negated, bracketed, single, further, RestSaid, nothing, guarded, a_number, a_ratio, a_decimal, BranchSaid, branch, PlusSaid, plus, StatementSaid, statement, mode_word, RangeSaid, range, SharedSaid, unshared, sharing, CardSaid, card}
use Rattle.grammar.specs.Counted.{Counted, counted, counted_guard, counted_rest, counted_many, counted_branch, counted_plus, counted_statement, counted_module, counted_range, counted_shared, counted_card}
use Rattle.grammar.proofs.Along.{strictly, weakly, Along, along_none, along_from, along_then, along_behind, along_before, along_whole, line_along, test_along, branch_along}

abbrev place_at : Counted → Place
place_at c = c.place

-- each at a mark not before the last
abbrev pub Counting : Place → List Counted → Place → Type 0
Counting = Along weakly place_at

counting_at : (m : Placed) (ms r : Place) (c : Counted) (cs : List Counted) → c.place ≡ m ∷ ms → Counting (m ∷ ms) cs r → Counting (m ∷ ms) (c ∷ cs) r
counting_at m ms r c cs e k = ([], m, ms, refl, e, k)

-- ---- guards

guard_counting : {shared : Bool} {v : Part} {ms r : Place} {g : Formula Tested} (u : GuardSaid (TestedSaid shared) v ms g r) (nodes around : ℕ) → Counting ms (counted_guard nodes around u) r
guard_counting (grouped {a} {ms} {r} {x} d) nodes around =
    counting_at (sign_at "(" a) ms r (counted (suc nodes) most_nodes (sign_at "(" a ∷ ms)) [] refl (along_whole strictly place_in (sign_at "(" a ∷ ms) r (judged_test 0 0 x) (test_along 0 0 d))
guard_counting (negated {a} {ms} {r} u) nodes around =
    let cs = counted_guard (suc nodes) (suc around) u in
    let c = counted (suc around) most_depth (sign_at "!" a ∷ ms) in
    counting_at (sign_at "!" a) ms r (counted (suc nodes) most_nodes (sign_at "!" a ∷ ms)) (c ∷ cs) refl
    (counting_at (sign_at "!" a) ms r c cs refl (along_behind weakly place_at (sign_at "!" a) ms r cs (guard_counting u (suc nodes) (suc around))))
guard_counting (bracketed {a} {b} {ms} {r} f u) nodes around =
    let cs = counted_guard nodes (suc around) u in
    counting_at (sign_at "(" a) ms r (counted (suc around) most_depth (sign_at "(" a ∷ ms)) cs refl
    (along_behind weakly place_at (sign_at "(" a) ms r cs (along_before weakly place_at ms (sign_at ")" b ∷ r) r cs (guard_counting u nodes (suc around)) (sign_at ")" b ∷ []) refl))
guard_counting (single u) nodes around = guard_counting u nodes around
guard_counting (further {s} {a} {ms} {ns} {r} {g} us u) nodes around =
    let cs = counted_guard (suc (nodes + size g)) around u in
    let c = counted (suc (nodes + size g)) most_nodes (sign_at (joint s) a ∷ ns) in
    along_then weakly place_at ms (sign_at (joint s) a ∷ ns) r (counted_guard nodes around us) (c ∷ cs) (guard_counting us nodes around)
    (counting_at (sign_at (joint s) a) ns r c cs refl (along_behind weakly place_at (sign_at (joint s) a) ns r cs (guard_counting u (suc (nodes + size g)) around)))

rest_counting : {shared : Bool} {ms r : Place} {g : Option (Formula Tested)} (u : RestSaid shared ms g r) → Counting ms (counted_rest u) r
rest_counting (nothing {r}) = along_none weakly place_at r
rest_counting (guarded {a} {ms} {r} u) = along_behind weakly place_at (sign_at "&" a) ms r (counted_guard 0 0 u) (guard_counting u 0 0)

-- ---- any number of things

many_counting : {A : Type 0} {One : Said A} (each : (ms r : Place) (x : A) → ℕ → One ms x r → List Counted)
    → ((ms r : Place) (x : A) (i : ℕ) (d : One ms x r) → Counting ms (each ms r x i d) r)
    → {ms r : Place} {xs : List A} (i : ℕ) (ds : ManySaid One ms xs r) → Counting ms (counted_many each i ds) r
many_counting each h i (done {r}) = along_none weakly place_at r
many_counting each h i (again {ms} {ns} {r} {x} d ds) =
    along_then weakly place_at ms ns r (each ms ns x i d) (counted_many each (suc i) ds) (h ms ns x i d) (many_counting each h (suc i) ds)

-- ---- branches and statements

branch_counting : {shared : Bool} (ms r : Place) (x : BranchShape) (i : ℕ) (d : BranchSaid shared ms x r) → Counting ms (counted_branch ms r x i d) r
branch_counting {shared} ms r x i d =
    let (m, q, z) = starts d in
    ([], m, q, z, z, rw (← z) (along_whole strictly place_in ms r (judged_branch card_rule 0 0 x) (branch_along card_rule 0 0 d)))
  where
    starts : {ms : Place} {x : BranchShape} → BranchSaid shared ms x r → (m : Placed) × (q : Place) × (ms ≡ m ∷ q)
    starts (branch a_number l s) = (_, _, refl)
    starts (branch a_ratio l s) = (_, _, refl)
    starts (branch a_decimal l s) = (_, _, refl)

plus_counting : {shared : Bool} (ms r : Place) (x : BranchShape) (i : ℕ) (d : PlusSaid shared ms x r) → Counting ms (counted_plus ms r x i d) r
plus_counting ms r x i (plus {a} {ms = ns} d) = along_behind weakly place_at (sign_at "+" a) ns r (counted_branch ns r x i d) (branch_counting ns r x i d)

statement_counting : {shared : Bool} (ms r : Place) (x : StatementShape) (i : ℕ) (d : StatementSaid shared ms x r) → Counting ms (counted_statement ms r x i d) r
statement_counting ms r x i (statement {j} {a} {b} {c} {ns = ns} {os} {qs} {ws = ws} {x = y} (fixed {p = p} {ms = ls} l) u d ds) =
    let own = placed (number j) a ∷ ns in
    let end = sign_at ";" c ∷ r in
    let (v, z) = along_whole strictly place_in (sign_at "[" p ∷ ls) own (judged_words [] ws) (line_along (fixed {t = "["} {p = p} l) []) in
    let branches = counted_many counted_plus 2 ds in
    let moves = counted_branch os qs y 1 d ++ branches in
    counting_at (sign_at "[" p) ls r (counted i most_statements (sign_at "[" p ∷ ls)) (counted_rest u ++ moves) refl
    (rw z
    (along_from weakly place_at v own r (counted_rest u ++ moves)
    (along_behind weakly place_at (placed (number j) a) ns r (counted_rest u ++ moves)
    (along_then weakly place_at ns (sign_at "->" b ∷ os) r (counted_rest u) moves (rest_counting u)
    (along_behind weakly place_at (sign_at "->" b) os r moves
    (along_before weakly place_at os end r moves
    (along_then weakly place_at os qs end (counted_branch os qs y 1 d) branches (branch_counting os qs y 1 d) (many_counting counted_plus plus_counting 2 ds))
    (sign_at ";" c ∷ []) refl))))))

module_counting : (ms r : Place) (ws : List Numbered) (i : ℕ) (d : LineSaid module_run ms ws r) → Counting ms (counted_module ms r ws i d) r
module_counting ms r ws i (fixed {p = p} {ms = ls} l) =
    counting_at (sign_at "module" p) ls r (counted i most_seats (sign_at "module" p ∷ ls)) [] refl
    (along_whole strictly place_in (sign_at "module" p ∷ ls) r (judged_words [] ws) (line_along (fixed {t = "module"} {p = p} l) []))

-- ---- the card

range_counting : {ms r : Place} {y : Range} (d : RangeSaid ms y r) (most : ℕ) → Counting ms (counted_range most d) r
range_counting (range {k} {l} {a} {b} {c} {d} {e} {f} {g} {r}) most =
    let rest = sign_at "]" d ∷ sign_at "init" e ∷ placed (number l) f ∷ sign_at ";" g ∷ [] in
    (placed (number 0) a ∷ sign_at ".." b ∷ [], placed (number k) c, rest ++ r, refl, refl, (placed (number k) c ∷ rest, refl))

shared_counting : {ms r : Place} {g : Option Range} (d : SharedSaid ms g r) → Counting ms (counted_shared d) r
shared_counting (unshared {r}) = along_none weakly place_at r
shared_counting (sharing {ms} {ns} {r} {ws} l d) =
    let (u, e) = along_whole strictly place_in ms ns (judged_words [] ws) (line_along l []) in
    rw e (along_from weakly place_at u ns r (counted_range top_shared d) (range_counting d top_shared))

pub card_counting : {ms : Place} {c : CardShape} (d : CardSaid ms c) → Counting ms (counted_card d) []
card_counting (card {mode} {a} {b} {ms} {ns} {os} {ps} {qs} {rs} {g} {ws} {y} {x} d w v s ss t) =
    let (u, z) = along_whole strictly place_in ns os (judged_words [] ws) (line_along w []) in
    let modules = counted_many counted_module 2 t in
    let further = counted_many counted_statement 2 ss ++ modules in
    let most = counted_statement ps qs x 1 s ++ further in
    let top = counted_range top_state v in
    along_behind weakly place_at (sign_at (mode_word mode) a) ms [] (counted_shared d ++ (top ++ most))
    (along_then weakly place_at ms ns [] (counted_shared d) (top ++ most) (shared_counting d)
    (rw z
    (along_from weakly place_at u os [] (top ++ most)
    (along_then weakly place_at os ps [] top most (range_counting v top_state)
    (along_then weakly place_at ps qs [] (counted_statement ps qs x 1 s) further (statement_counting ps qs x 1 s)
    (along_then weakly place_at qs (sign_at "endmodule" b ∷ rs) [] (counted_many counted_statement 2 ss) modules (many_counting counted_statement statement_counting 2 ss)
    (along_behind weakly place_at (sign_at "endmodule" b) rs [] modules (many_counting counted_module module_counting 2 t))))))))
