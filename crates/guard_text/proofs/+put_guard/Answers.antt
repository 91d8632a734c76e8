-- `guard_text::put_guard` meets its contract: what stands at a node gives its text from its parts' texts, and node numbers fall. Assumes
-- nothing.
use native.Mathlib.Omega.{arith}
use Rattle.phrases.proofs.Laws.{put_first, puts_then, puts_as}
use Rattle.literal_text.proofs.Laws.{sign_bytes}
use Rattle.leaf_text.specs.Style.{looks, leaf_text}
use Rattle.guard_text.proofs.Laws.{text_at_leaf, joined_above, joined_op, text_not, text_joined}
use Rattle.guard_text.proofs.+put_guard.Goals as goal

pub returns-then-op-eq-LEAF : goal.returns-then-op-eq-LEAF
returns-then-op-eq-LEAF t c =
    let a = c.args in
    let leaf = leaf_text (looks a.form a.own a.seats) in
    puts_as _ (text_at_leaf a.form leaf a.level a.nodes.now a.n c.number_at-x.result c.number_at-x.ensures c.operator_at-op.ensures c.if-op-eq-LEAF.true)
    c.put_leaf.ensures

pub put_guard-requires : goal.put_guard-requires
put_guard-requires t c =
    omega (arith, c.left_of-left.ensures.below (joined_above c.args.n c.number_at-x.result c.operator_at-op.ensures c.if-op-eq-LEAF.false))

pub returns-then-op-eq-NOT : goal.returns-then-op-eq-NOT
returns-then-op-eq-NOT t c =
    let a = c.args in
    let leaf = leaf_text (looks a.form a.own a.seats) in
    let number = c.number_at-x.result in
    let op = c.operator_at-op.ensures in
    let joins = c.if-op-eq-LEAF.false in
    puts_as _ (text_not a.form leaf a.level a.nodes.now a.n number c.number_at-x.ensures (joined_op a.n number op joins) (joined_above a.n number op joins) c.left_of-left.ensures.child c.if-op-eq-NOT.true)
    (puts_then (put_first c.put_byte-a.ensures) c.put_guard.ensures)

pub put_guard-b-requires : goal.put_guard-b-requires
put_guard-b-requires t c =
    omega (arith, c.left_of-left.ensures.below (joined_above c.args.n c.number_at-x.result c.operator_at-op.ensures c.if-op-eq-LEAF.false))

pub put_guard-d-requires : goal.put_guard-d-requires
put_guard-d-requires t c =
    omega (arith, c.right_of-right.ensures.below (joined_above c.args.n c.number_at-x.result c.operator_at-op.ensures c.if-op-eq-LEAF.false))

pub returns : goal.returns
returns t c =
    let a = c.args in
    let leaf = leaf_text (looks a.form a.own a.seats) in
    let number = c.number_at-x.result in
    let op = c.operator_at-op.ensures in
    let joins = c.if-op-eq-LEAF.false in
    puts_as _ (text_joined a.form leaf a.level a.nodes.now a.n number c.number_at-x.ensures (joined_op a.n number op joins) (joined_above a.n number op joins)
    c.left_of-left.ensures.child c.bracket_level-stands.ensures c.right_of-right.ensures.child joins c.if-op-eq-NOT.false c.sign_between-sign.ensures.sign)
    (puts_then c.put_bracket-a.ensures (puts_then c.put_guard-b.ensures
    (puts_then (puts_as _ (sign_bytes c.sign_between-sign.result c.joint_of.ensures) (put_first c.put_filled-c.ensures)) (puts_then c.put_guard-d.ensures c.put_bracket.ensures))))
