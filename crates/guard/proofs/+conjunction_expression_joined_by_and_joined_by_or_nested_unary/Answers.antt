-- The readers of a guard call each other, with a measure of eight steps for each bracket, `!` and node left. A chain's invariant:
-- the guard is what was read so far and the chain behind it make (Chaining); its measure is how many nodes are left. Assumes nothing.
use Prim.Native.Nat.{◌-◌}
use mathlib.Core.Path.{sym, ◌∙◌, refl, ap}
use mathlib.Core.Bool.{false, true}
use native.Mathlib.Omega.{arith}
use Rattle.std.specs.Prelude.{Ok, Err}
use Rattle.std.proofs.lemmas.Result.{err_from_is_err_and}
use Rattle.marks.specs.Step.{marks_at}
use Rattle.marks_on_a_card.specs.Kinds.{kind}
use Rattle.reading.specs.Reader.{at}
use Rattle.reading.specs.Guard as grammar
use Rattle.late.specs.State.{left_in, free_in, late_in, after, reached}
use Rattle.items.specs.Language.{language_of}
use Rattle.items.specs.Items.{operator_of}
use Rattle.items.specs.Pieces.{unary_in, chained, joiner, then_not, then_close}
use Rattle.guard.proofs.Spent.{keeping}
use Rattle.guard.proofs.Building.{goes_wrong, spending_ready, goes_on_wrong, not_well}
use Rattle.guard.proofs.Chains.{unary_begun, unary_alone, conjunction_begun, conjunction_alone, chain_begins, chain_done, chain_stops, chain_wrong, roomy, store_room, chain_falls, chain_turns, behind_not}
use Rattle.guard.proofs.Ways.{close_wrong, close_well, reads_closed, reads_inner, reads_unfit, reads_deep, reads_full, reads_not, read_from}
use Rattle.guard.proofs.+conjunction_expression_joined_by_and_joined_by_or_nested_unary.Goals as goal

-- ---- conjunction

pub conjunction-unary-requires : goal.conjunction-unary-requires
conjunction-unary-requires t c = (omega arith, c.requires)

pub conjunction-returns-in_err-first : goal.conjunction-returns-in_err-first
conjunction-returns-in_err-first t c =
    let a = c.args in
    let p = err_from_is_err_and c.from_residual.result c.from_residual.ensures.1 in
    rw p.1
    (goes_wrong (language_of a.text.now.language) a.text.now.bytes.now a.text.now.top a.nodes.now c.unary.new.nodes (free_in a.state.now) (late_in a.state.now) a.nodes.now c.unary.new.nodes (free_in a.state.now) (late_in a.state.now)
    c.unary.new.state c.unary.new.state.stop (chained (language_of a.text.now.language) false a.depth) (unary_in (language_of a.text.now.language) a.depth (at (marks_at 0 a.text.now.bytes.now a.at) (left_in a.state.now))) c.in_err-first.ensures)

pub conjunction-returns-then-sign_here : goal.conjunction-returns-then-sign_here
conjunction-returns-then-sign_here t c =
    let a = c.args in
    unary_alone (language_of a.text.now.language) (keeping a.text.now.language) a.text.now.bytes.now a.text.now.top a.nodes.now c.unary.new.nodes a.state.now c.requires a.at a.depth c.unary.new.state c.in_ok-first.first
    (sym c.sign_here.ensures ∙ c.if-sign_here.true) c.in_ok-first.ensures

pub conjunction-joined_by_and-requires : goal.conjunction-joined_by_and-requires
conjunction-joined_by_and-requires t c =
    let a = c.args in
    let q = unary_begun (language_of a.text.now.language) (keeping a.text.now.language) a.text.now.bytes.now a.text.now.top a.nodes.now c.unary.new.nodes a.state.now c.requires a.at a.depth c.unary.new.state c.in_ok-first.first c.in_ok-first.ensures in
    (omega (arith, q.1, c.decreases), q.0)

pub conjunction-returns : goal.conjunction-returns
conjunction-returns t c =
    let a = c.args in
    c.joined_by_and.ensures a.nodes.now (free_in a.state.now) (late_in a.state.now) (unary_in (language_of a.text.now.language) a.depth (at (marks_at 0 a.text.now.bytes.now a.at) (left_in a.state.now))) c.in_ok-first.ensures

-- ---- expression

pub expression-conjunction-requires : goal.expression-conjunction-requires
expression-conjunction-requires t c = (omega arith, c.requires)

pub expression-returns-in_err-first : goal.expression-returns-in_err-first
expression-returns-in_err-first t c =
    let a = c.args in
    let p = err_from_is_err_and c.from_residual.result c.from_residual.ensures.1 in
    rw p.1
    (goes_wrong (language_of a.text.now.language) a.text.now.bytes.now a.text.now.top a.nodes.now c.conjunction.new.nodes (free_in a.state.now) (late_in a.state.now) a.nodes.now c.conjunction.new.nodes (free_in a.state.now) (late_in a.state.now)
    c.conjunction.new.state c.conjunction.new.state.stop (chained (language_of a.text.now.language) true a.depth) (grammar.conjunction (unary_in (language_of a.text.now.language) a.depth) (at (marks_at 0 a.text.now.bytes.now a.at) (left_in a.state.now))) c.in_err-first.ensures)

pub expression-returns-then-sign_here : goal.expression-returns-then-sign_here
expression-returns-then-sign_here t c =
    let a = c.args in
    conjunction_alone (language_of a.text.now.language) (keeping a.text.now.language) a.text.now.bytes.now a.text.now.top a.nodes.now c.conjunction.new.nodes a.state.now c.requires a.at a.depth c.conjunction.new.state c.in_ok-first.first
    (sym c.sign_here.ensures ∙ c.if-sign_here.true) c.in_ok-first.ensures

pub expression-joined_by_or-requires : goal.expression-joined_by_or-requires
expression-joined_by_or-requires t c =
    let a = c.args in
    let q = conjunction_begun (language_of a.text.now.language) (keeping a.text.now.language) a.text.now.bytes.now a.text.now.top a.nodes.now c.conjunction.new.nodes a.state.now c.requires a.at a.depth c.conjunction.new.state c.in_ok-first.first c.in_ok-first.ensures in
    (omega (arith, q.1, c.decreases), q.0)

pub expression-returns : goal.expression-returns
expression-returns t c =
    let a = c.args in
    c.joined_by_or.ensures a.nodes.now (free_in a.state.now) (late_in a.state.now) (grammar.conjunction (unary_in (language_of a.text.now.language) a.depth) (at (marks_at 0 a.text.now.bytes.now a.at) (left_in a.state.now))) c.in_ok-first.ensures

-- ---- joined_by_and

pub joined_by_and-loop-s-init : goal.joined_by_and-loop-s-init
joined_by_and-loop-s-init t c =
    let a = c.args in
    chain_begins (language_of a.text.now.language) (keeping a.text.now.language) a.text.now.bytes.now a.text.now.top a.nodes.now a.depth false a.state.now a.first c.requires

pub joined_by_and-returns-then-s-ne-AND : goal.joined_by_and-returns-then-s-ne-AND
joined_by_and-returns-then-s-ne-AND t c =
    let a = c.args in
    chain_done (language_of a.text.now.language) (keeping a.text.now.language) a.text.now.bytes.now a.text.now.top a.nodes.now a.depth false a.state.now a.first c.loop-s.nodes c.loop-s.state c.loop-s.next c.loop-s.invariant
    c.step_after-s.result c.step_after-s.ensures (kind (joiner false)) refl c.if-s-ne-AND.true

pub joined_by_and-returns-then-state-eq0 : goal.joined_by_and-returns-then-state-eq0
joined_by_and-returns-then-state-eq0 t c =
    let a = c.args in
    rw c.stop.ensures
    (chain_stops (language_of a.text.now.language) (keeping a.text.now.language) a.text.now.bytes.now a.text.now.top a.nodes.now a.depth false a.state.now a.first c.loop-s.nodes c.loop-s.state c.loop-s.next c.loop-s.invariant
    c.step_after-s.result c.step_after-s.ensures (kind (joiner false)) refl c.if-s-ne-AND.false c.if-state-eq0.true _ (record { refused = refl }))

pub joined_by_and-overflow_sub-first_root : goal.joined_by_and-overflow_sub-first_root
joined_by_and-overflow_sub-first_root t c = omega (arith, c.loop-s.invariant.begun.stored)

pub joined_by_and-unary-requires : goal.joined_by_and-unary-requires
joined_by_and-unary-requires t c =
    let st = c.loop-s.state in
    (omega (arith, c.loop-s.invariant.fewer, c.if-state-eq0.false), spending_ready st c.loop-s.invariant.begun.ready c.if-state-eq0.false)

pub joined_by_and-returns-in_err-next : goal.joined_by_and-returns-in_err-next
joined_by_and-returns-in_err-next t c =
    let a = c.args in
    let p = err_from_is_err_and c.from_residual.result c.from_residual.ensures.1 in
    rw p.1
    (chain_wrong (language_of a.text.now.language) (keeping a.text.now.language) a.text.now.bytes.now a.text.now.top a.nodes.now a.depth false a.state.now a.first c.loop-s.nodes c.loop-s.state c.loop-s.next c.loop-s.invariant
    c.step_after-s.result c.step_after-s.ensures (kind (joiner false)) refl c.if-s-ne-AND.false c.if-state-eq0.false
    c.unary.new.nodes c.unary.new.state c.unary.new.state.stop c.in_err-next.ensures)

pub joined_by_and-overflow_sub-second_root : goal.joined_by_and-overflow_sub-second_root
joined_by_and-overflow_sub-second_root t c =
    let a = c.args in
    let q = roomy (language_of a.text.now.language) (keeping a.text.now.language) a.text.now.bytes.now a.text.now.top a.nodes.now a.depth false a.state.now a.first c.loop-s.nodes c.loop-s.state c.loop-s.next c.loop-s.invariant
    c.step_after-s.result c.step_after-s.ensures (kind (joiner false)) refl c.if-s-ne-AND.false c.if-state-eq0.false
    c.unary.new.nodes c.unary.new.state c.in_ok-next.next c.in_ok-next.ensures in
    omega (arith, q.1)

pub joined_by_and-store-requires : goal.joined_by_and-store-requires
joined_by_and-store-requires t c =
    let a = c.args in
    store_room (language_of a.text.now.language) (keeping a.text.now.language) a.text.now.bytes.now a.text.now.top a.nodes.now a.depth false a.state.now a.first c.loop-s.nodes c.loop-s.state c.loop-s.next c.loop-s.invariant
    c.step_after-s.result c.step_after-s.ensures (kind (joiner false)) refl c.if-s-ne-AND.false c.if-state-eq0.false
    c.unary.new.nodes c.unary.new.state c.in_ok-next.next c.in_ok-next.ensures

pub joined_by_and-loop-s-smaller : goal.joined_by_and-loop-s-smaller
joined_by_and-loop-s-smaller t c =
    let a = c.args in
    rw c.store.ensures.next
    (chain_falls (language_of a.text.now.language) (keeping a.text.now.language) a.text.now.bytes.now a.text.now.top a.nodes.now a.depth false a.state.now a.first c.loop-s.nodes c.loop-s.state c.loop-s.next c.loop-s.invariant
    c.step_after-s.result c.step_after-s.ensures (kind (joiner false)) refl c.if-s-ne-AND.false c.if-state-eq0.false
    c.unary.new.nodes c.unary.new.state c.in_ok-next.next c.in_ok-next.ensures)

pub joined_by_and-loop-s-preserved : goal.joined_by_and-loop-s-preserved
joined_by_and-loop-s-preserved t c =
    let a = c.args in
    rw (c.store.ensures.stored, c.store.ensures.next)
    (chain_turns (language_of a.text.now.language) (keeping a.text.now.language) a.text.now.bytes.now a.text.now.top a.nodes.now a.depth false a.state.now a.first c.loop-s.nodes c.loop-s.state c.loop-s.next c.loop-s.invariant
    c.step_after-s.result c.step_after-s.ensures (kind (joiner false)) refl c.if-s-ne-AND.false c.if-state-eq0.false
    c.unary.new.nodes c.unary.new.state c.in_ok-next.next c.in_ok-next.ensures
    (operator_of false) c.pack_node.result refl c.pack_node.ensures)

-- ---- joined_by_or

pub joined_by_or-loop-s-init : goal.joined_by_or-loop-s-init
joined_by_or-loop-s-init t c =
    let a = c.args in
    chain_begins (language_of a.text.now.language) (keeping a.text.now.language) a.text.now.bytes.now a.text.now.top a.nodes.now a.depth true a.state.now a.first c.requires

pub joined_by_or-returns-then-s-ne-OR : goal.joined_by_or-returns-then-s-ne-OR
joined_by_or-returns-then-s-ne-OR t c =
    let a = c.args in
    chain_done (language_of a.text.now.language) (keeping a.text.now.language) a.text.now.bytes.now a.text.now.top a.nodes.now a.depth true a.state.now a.first c.loop-s.nodes c.loop-s.state c.loop-s.next c.loop-s.invariant
    c.step_after-s.result c.step_after-s.ensures (kind (joiner true)) refl c.if-s-ne-OR.true

pub joined_by_or-returns-then-state-eq0 : goal.joined_by_or-returns-then-state-eq0
joined_by_or-returns-then-state-eq0 t c =
    let a = c.args in
    rw c.stop.ensures
    (chain_stops (language_of a.text.now.language) (keeping a.text.now.language) a.text.now.bytes.now a.text.now.top a.nodes.now a.depth true a.state.now a.first c.loop-s.nodes c.loop-s.state c.loop-s.next c.loop-s.invariant
    c.step_after-s.result c.step_after-s.ensures (kind (joiner true)) refl c.if-s-ne-OR.false c.if-state-eq0.true _ (record { refused = refl }))

pub joined_by_or-overflow_sub-first_root : goal.joined_by_or-overflow_sub-first_root
joined_by_or-overflow_sub-first_root t c = omega (arith, c.loop-s.invariant.begun.stored)

pub joined_by_or-conjunction-requires : goal.joined_by_or-conjunction-requires
joined_by_or-conjunction-requires t c =
    let st = c.loop-s.state in
    (omega (arith, c.loop-s.invariant.fewer, c.if-state-eq0.false), spending_ready st c.loop-s.invariant.begun.ready c.if-state-eq0.false)

pub joined_by_or-returns-in_err-next : goal.joined_by_or-returns-in_err-next
joined_by_or-returns-in_err-next t c =
    let a = c.args in
    let p = err_from_is_err_and c.from_residual.result c.from_residual.ensures.1 in
    rw p.1
    (chain_wrong (language_of a.text.now.language) (keeping a.text.now.language) a.text.now.bytes.now a.text.now.top a.nodes.now a.depth true a.state.now a.first c.loop-s.nodes c.loop-s.state c.loop-s.next c.loop-s.invariant
    c.step_after-s.result c.step_after-s.ensures (kind (joiner true)) refl c.if-s-ne-OR.false c.if-state-eq0.false
    c.conjunction.new.nodes c.conjunction.new.state c.conjunction.new.state.stop c.in_err-next.ensures)

pub joined_by_or-overflow_sub-second_root : goal.joined_by_or-overflow_sub-second_root
joined_by_or-overflow_sub-second_root t c =
    let a = c.args in
    let q = roomy (language_of a.text.now.language) (keeping a.text.now.language) a.text.now.bytes.now a.text.now.top a.nodes.now a.depth true a.state.now a.first c.loop-s.nodes c.loop-s.state c.loop-s.next c.loop-s.invariant
    c.step_after-s.result c.step_after-s.ensures (kind (joiner true)) refl c.if-s-ne-OR.false c.if-state-eq0.false
    c.conjunction.new.nodes c.conjunction.new.state c.in_ok-next.next c.in_ok-next.ensures in
    omega (arith, q.1)

pub joined_by_or-store-requires : goal.joined_by_or-store-requires
joined_by_or-store-requires t c =
    let a = c.args in
    store_room (language_of a.text.now.language) (keeping a.text.now.language) a.text.now.bytes.now a.text.now.top a.nodes.now a.depth true a.state.now a.first c.loop-s.nodes c.loop-s.state c.loop-s.next c.loop-s.invariant
    c.step_after-s.result c.step_after-s.ensures (kind (joiner true)) refl c.if-s-ne-OR.false c.if-state-eq0.false
    c.conjunction.new.nodes c.conjunction.new.state c.in_ok-next.next c.in_ok-next.ensures

pub joined_by_or-loop-s-smaller : goal.joined_by_or-loop-s-smaller
joined_by_or-loop-s-smaller t c =
    let a = c.args in
    rw c.store.ensures.next
    (chain_falls (language_of a.text.now.language) (keeping a.text.now.language) a.text.now.bytes.now a.text.now.top a.nodes.now a.depth true a.state.now a.first c.loop-s.nodes c.loop-s.state c.loop-s.next c.loop-s.invariant
    c.step_after-s.result c.step_after-s.ensures (kind (joiner true)) refl c.if-s-ne-OR.false c.if-state-eq0.false
    c.conjunction.new.nodes c.conjunction.new.state c.in_ok-next.next c.in_ok-next.ensures)

pub joined_by_or-loop-s-preserved : goal.joined_by_or-loop-s-preserved
joined_by_or-loop-s-preserved t c =
    let a = c.args in
    rw (c.store.ensures.stored, c.store.ensures.next)
    (chain_turns (language_of a.text.now.language) (keeping a.text.now.language) a.text.now.bytes.now a.text.now.top a.nodes.now a.depth true a.state.now a.first c.loop-s.nodes c.loop-s.state c.loop-s.next c.loop-s.invariant
    c.step_after-s.result c.step_after-s.ensures (kind (joiner true)) refl c.if-s-ne-OR.false c.if-state-eq0.false
    c.conjunction.new.nodes c.conjunction.new.state c.in_ok-next.next c.in_ok-next.ensures
    (operator_of true) c.pack_node.result refl c.pack_node.ensures)

-- ---- nested

pub nested-returns-then-depth-eq0 : goal.nested-returns-then-depth-eq0
nested-returns-then-depth-eq0 t c =
    let a = c.args in
    rw c.stop.ensures
    (reads_closed (language_of a.text.now.language) a.text.now.bytes.now a.at (left_in a.state.now) a.depth a.text.now.top a.nodes.now a.nodes.now (free_in a.state.now) (late_in a.state.now) c.step_opening-s.result c.step_opening-s.ensures
    c.if-s-eq-ROUND_OPEN.true c.requires.1 c.if-depth-eq0.true _ (record { refused = refl }))

pub nested-expression-requires : goal.nested-expression-requires
nested-expression-requires t c =
    (omega (arith, c.if-depth-eq0.false), c.requires.0)

pub nested-returns-in_err-inner : goal.nested-returns-in_err-inner
nested-returns-in_err-inner t c =
    let a = c.args in
    let p = err_from_is_err_and c.from_residual.result c.from_residual.ensures.1 in
    let st = c.expression.new.state in
    let e = st.stop in
    rw p.1
    (reads_inner (language_of a.text.now.language) a.text.now.bytes.now a.at (left_in a.state.now) a.depth a.text.now.top a.nodes.now c.expression.new.nodes (free_in a.state.now) (late_in a.state.now) c.step_opening-s.result c.step_opening-s.ensures
    c.if-s-eq-ROUND_OPEN.true c.requires.1 c.if-depth-eq0.false (after st (Err e)) (after st (Err e)) c.in_err-inner.ensures (λ top nodes. goes_on_wrong (language_of a.text.now.language) nodes st e then_close a.text.now.bytes.now top))

pub nested-returns-then-close-ne-ROUND_CLOSE : goal.nested-returns-then-close-ne-ROUND_CLOSE
nested-returns-then-close-ne-ROUND_CLOSE t c =
    let a = c.args in
    let st = c.expression.new.state in
    let i = c.in_ok-inner.inner in
    rw c.stop-then-close-ne-ROUND_CLOSE.ensures
    (reads_inner (language_of a.text.now.language) a.text.now.bytes.now a.at (left_in a.state.now) a.depth a.text.now.top a.nodes.now c.expression.new.nodes (free_in a.state.now) (late_in a.state.now) c.step_opening-s.result c.step_opening-s.ensures
    c.if-s-eq-ROUND_OPEN.true c.requires.1 c.if-depth-eq0.false (after st (Ok i)) _ c.in_ok-inner.ensures
    (close_wrong (language_of a.text.now.language) a.text.now.bytes.now st i c.step_sign-close.result c.step_sign-close.ensures c.if-close-ne-ROUND_CLOSE.true _ (record { refused = refl })))

pub nested-returns-then-s-eq-ROUND_OPEN : goal.nested-returns-then-s-eq-ROUND_OPEN
nested-returns-then-s-eq-ROUND_OPEN t c =
    let a = c.args in
    let st = c.expression.new.state in
    let i = c.in_ok-inner.inner in
    reads_inner (language_of a.text.now.language) a.text.now.bytes.now a.at (left_in a.state.now) a.depth a.text.now.top a.nodes.now c.expression.new.nodes (free_in a.state.now) (late_in a.state.now) c.step_opening-s.result c.step_opening-s.ensures
    c.if-s-eq-ROUND_OPEN.true c.requires.1 c.if-depth-eq0.false (after st (Ok i)) _ c.in_ok-inner.ensures
    (close_well (language_of a.text.now.language) a.text.now.bytes.now st i c.step_sign-close.result c.step_sign-close.ensures c.if-close-ne-ROUND_CLOSE.false)

pub nested-returns-then-s-ne-NOT : goal.nested-returns-then-s-ne-NOT
nested-returns-then-s-ne-NOT t c =
    let a = c.args in
    rw c.stop-then-s-ne-NOT.ensures
    (reads_unfit (language_of a.text.now.language) a.text.now.bytes.now a.at (left_in a.state.now) a.depth a.text.now.top a.nodes.now a.nodes.now (free_in a.state.now) (late_in a.state.now) c.step_opening-s.result c.step_opening-s.ensures
    c.if-s-eq-ROUND_OPEN.false c.if-s-ne-NOT.true _ (record { refused = refl }))

pub nested-returns-then-depth-eq0-2 : goal.nested-returns-then-depth-eq0-2
nested-returns-then-depth-eq0-2 t c =
    let a = c.args in
    rw c.stop-then-depth-eq0-2.ensures
    (reads_deep (language_of a.text.now.language) a.text.now.bytes.now a.at (left_in a.state.now) a.depth a.text.now.top a.nodes.now a.nodes.now (free_in a.state.now) (late_in a.state.now) c.step_opening-s.result c.step_opening-s.ensures
    c.if-s-ne-NOT.false c.if-depth-eq0-2.true _ (record { refused = refl }))

pub nested-returns-then-state-eq0 : goal.nested-returns-then-state-eq0
nested-returns-then-state-eq0 t c =
    let a = c.args in
    rw c.stop-then-state-eq0.ensures
    (reads_full (language_of a.text.now.language) a.text.now.bytes.now a.at (left_in a.state.now) a.depth a.text.now.top a.nodes.now a.nodes.now (free_in a.state.now) (late_in a.state.now) c.step_opening-s.result c.step_opening-s.ensures
    c.if-s-ne-NOT.false c.if-depth-eq0-2.false c.if-state-eq0.true _ (record { refused = refl }))

pub nested-unary-requires : goal.nested-unary-requires
nested-unary-requires t c =
    let st = c.args.state.now in
    (omega (arith, c.decreases, c.if-state-eq0.false, c.if-depth-eq0-2.false), spending_ready st c.requires.0 c.if-state-eq0.false)

pub nested-returns-in_err-next : goal.nested-returns-in_err-next
nested-returns-in_err-next t c =
    let a = c.args in
    let p = err_from_is_err_and c.from_residual-in_err-next.result c.from_residual-in_err-next.ensures.1 in
    let st = c.unary.new.state in
    let e = st.stop in
    rw p.1
    (reads_not (language_of a.text.now.language) a.text.now.bytes.now a.at (left_in a.state.now) a.depth a.text.now.top a.nodes.now c.unary.new.nodes (free_in a.state.now) (late_in a.state.now) c.step_opening-s.result c.step_opening-s.ensures
    c.if-s-ne-NOT.false c.if-depth-eq0-2.false c.if-state-eq0.false c.unary.new.nodes (after st (Err e)) (after st (Err e)) c.in_err-next.ensures
    (λ s k. goes_on_wrong (language_of a.text.now.language) c.unary.new.nodes st e then_not s k))

pub nested-overflow_sub-root : goal.nested-overflow_sub-root
nested-overflow_sub-root t c =
    let a = c.args in
    let q = behind_not (language_of a.text.now.language) (keeping a.text.now.language) a.text.now.bytes.now a.text.now.top a.nodes.now c.unary.new.nodes a.state.now c.requires.0 c.if-state-eq0.false c.step_opening-s.result.next.at (a.depth - 1)
    c.unary.new.state c.in_ok-next.next c.in_ok-next.ensures in
    omega (arith, q.0)

pub nested-store-requires : goal.nested-store-requires
nested-store-requires t c =
    let a = c.args in
    (behind_not (language_of a.text.now.language) (keeping a.text.now.language) a.text.now.bytes.now a.text.now.top a.nodes.now c.unary.new.nodes a.state.now c.requires.0 c.if-state-eq0.false c.step_opening-s.result.next.at (a.depth - 1)
    c.unary.new.state c.in_ok-next.next c.in_ok-next.ensures).1

pub nested-returns : goal.nested-returns
nested-returns t c =
    let a = c.args in
    let mid = c.unary.new.nodes in
    let st = c.unary.new.state in
    let i = c.in_ok-next.next in
    let fits = (behind_not (language_of a.text.now.language) (keeping a.text.now.language) a.text.now.bytes.now a.text.now.top a.nodes.now mid a.state.now c.requires.0 c.if-state-eq0.false c.step_opening-s.result.next.at (a.depth - 1) st i c.in_ok-next.ensures).1 in
    rw (c.store.ensures.stored, c.store.ensures.next)
    (reads_not (language_of a.text.now.language) a.text.now.bytes.now a.at (left_in a.state.now) a.depth a.text.now.top a.nodes.now _ (free_in a.state.now) (late_in a.state.now) c.step_opening-s.result c.step_opening-s.ensures
    c.if-s-ne-NOT.false c.if-depth-eq0-2.false c.if-state-eq0.false mid (after st (Ok i)) _ c.in_ok-next.ensures
    (not_well (language_of a.text.now.language) mid st i c.pack_node.result fits c.pack_node.ensures))

-- ---- unary

pub unary-keep_item-requires : goal.unary-keep_item-requires
unary-keep_item-requires t c = c.requires

pub unary-returns-in-Kept : goal.unary-returns-in-Kept
unary-returns-in-Kept t c =
    let kept = rw c.in-Kept.is at c.keep_item.ensures in
    kept c.args.depth

pub unary-returns-in-Stopped : goal.unary-returns-in-Stopped
unary-returns-in-Stopped t c =
    let stopped = rw c.in-Stopped.is at c.keep_item.ensures in
    stopped c.args.depth

pub unary-nested-requires : goal.unary-nested-requires
unary-nested-requires t c =
    let same = rw c.in-NoItem.is at c.keep_item.ensures in
    (omega (arith, c.decreases, ap left_in same.1), (rw same.1 c.requires, same.2))

pub unary-returns-in-NoItem : goal.unary-returns-in-NoItem
unary-returns-in-NoItem t c =
    let a = c.args in
    let same = rw c.in-NoItem.is at c.keep_item.ensures in
    read_from (language_of a.text.now.language) a.text.now.bytes.now a.at a.text.now.top a.depth a.nodes.now _ _ a.state.now _ (reached c.nested.new.state c.nested.result) same.0 same.1 c.nested.ensures
