-- The quick way has the two steps by their looks (proofs/Quick.antt of looks).
use Rattle.group.proofs.Literals.{literal_whole}
use Rattle.looks.proofs.Quick.{sign_place, sign_step, digit_place, digit_step}
use Rattle.marks.specs.Parts.{bare_of, valued_of}
use Rattle.marks_on_a_card.specs.Kinds.{k_number}
use native.Mathlib.Omega.{arith}
use mathlib.Core.Path.{refl, sym, ◌∙◌}
use Prim.Native.Nat.{◌+◌}
use Rattle.group.proofs.literal.literal.Goals as goal

pub overflow_add-first : goal.overflow_add-first
overflow_add-first c =
    omega (arith, sign_place c.args.part.now c.args.at 61 (sym c.sign_here.ensures ∙ c.if-not-sign_here.false))

pub overflow_add-result : goal.overflow_add-result
overflow_add-result c =
    omega (arith, digit_place c.args.part.now (c.args.at + 1) c.in-Some.d c.in-Some.ensures)

pub returns : goal.returns
returns c =
    let place = c.args.at in
    let sign = sign_step c.args.part.now place 61 (sym c.sign_here.ensures ∙ c.if-not-sign_here.false) in
    let digit = digit_step c.args.part.now (place + 1) c.in-Some.d c.in-Some.ensures in
    literal_whole c.args.part.now place 0 (bare_of 61 place (place + 1)) (valued_of k_number c.in-Some.d (place + 1) (place + 1 + 1))
    (sym sign) (sym digit) refl refl
