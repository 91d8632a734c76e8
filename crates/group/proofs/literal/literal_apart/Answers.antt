-- The quick way has the two steps by their looks (proofs/Quick.antt of looks).
use Prim.Native.Nat.{◌+◌}
use mathlib.Core.Path.{refl, sym, ◌∙◌}
use native.Mathlib.Omega.{arith}
use lib.Dec.{eqb}
use Rattle.marks_on_a_card.specs.Kinds.{k_number}
use Rattle.marks.specs.Parts.{bare_of, valued_of}
use Rattle.marks_on_a_card.proofs.Runs.{begins_place}
use Rattle.looks.proofs.Quick.{unequal_step, digit_place, digit_step}
use Rattle.group.proofs.Literals.{literal_whole}
use Rattle.group.proofs.literal.literal_apart.Goals as goal

pub overflow_add-equal : goal.overflow_add-equal
overflow_add-equal c =
    let a = c.args in
    omega (arith, begins_place (eqb 33) a.part.now a.at (sym c.stands.ensures ∙ c.if-not-stands.false))

pub overflow_add-first : goal.overflow_add-first
overflow_add-first c =
    let a = c.args in
    omega (arith, begins_place (eqb 61) a.part.now (a.at + 1) (sym c.stands-2.ensures ∙ c.if-not-stands-2.false))

pub overflow_add-result : goal.overflow_add-result
overflow_add-result c =
    let a = c.args in
    omega (arith, digit_place a.part.now (a.at + 1 + 1) c.in-Some.d c.in-Some.ensures)

pub returns : goal.returns
returns c =
    let a = c.args in
    let part = a.part.now in
    let first = a.at + 1 + 1 in
    let d = c.in-Some.d in
    literal_whole a.part.now a.at 1 (bare_of 7 a.at first) (valued_of k_number d first (first + 1))
    (sym
    (unequal_step part a.at (sym c.stands.ensures ∙ c.if-not-stands.false)
    (sym c.stands-2.ensures ∙ c.if-not-stands-2.false)))
    (sym (digit_step part first d c.in-Some.ensures)) refl refl
