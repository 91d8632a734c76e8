-- A relation and a number, step by step, or the place of what stands there.
use Rattle.std.proofs.Common.{◌≡◌, ◌∙◌, arith}
use Rattle.std.proofs.lemmas.Result.{err_from_is_err_and}
use Rattle.group.proofs.Literals.{literal_sign, literal_number, literal_whole}
use Rattle.group.proofs.literal.long_literal.Goals as goal

pub returns-in_err-relation : goal.returns-in_err-relation
returns-in_err-relation c =
    let p = err_from_is_err_and c.from_residual.result c.from_residual.ensures.1 in
    let q : c.in_err-relation.field-0.0 ≡ c.step_relation-sign.result.mark.place = grind arith in
    rw (p.1, p.2 ∙ q) (literal_sign c.args.part.now c.args.at c.step_relation-sign.result c.step_relation-sign.ensures (grind arith))

pub returns-then-number-ne-NUMBER : goal.returns-then-number-ne-NUMBER
returns-then-number-ne-NUMBER c = literal_number c.args.part.now c.args.at c.in_ok-relation.relation c.step_relation-sign.result c.step_number-number.result c.step_relation-sign.ensures c.step_number-number.ensures (grind arith) c.if-number-ne-NUMBER.true

pub returns : goal.returns
returns c = literal_whole c.args.part.now c.args.at c.in_ok-relation.relation c.step_relation-sign.result c.step_number-number.result c.step_relation-sign.ensures c.step_number-number.ensures (grind arith) c.if-number-ne-NUMBER.false
