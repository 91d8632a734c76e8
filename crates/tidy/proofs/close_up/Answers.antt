-- `tidy::close_up` meets its contract: each step stores a text, and together they are the tidied deck and zero bytes. Assumes nothing.
use Rattle.tidy.proofs.Closing.{few, inside, gatherable, offsets, long4, closed}
use native.Mathlib.Omega.{arith}
use Rattle.tidy.proofs.close_up.Goals as goal

pub overflow_mul-low : goal.overflow_mul-low
overflow_mul-low c = omega (arith, few _ c.requires c.from-count.ensures, c.from-count.ensures)

pub overflow_add-low : goal.overflow_add-low
overflow_add-low c = omega (arith, few _ c.requires c.from-count.ensures, c.from-count.ensures)

pub overflow_cast-deck : goal.overflow_cast-deck
overflow_cast-deck c =
    omega (arith, few _ c.requires c.from-count.ensures, c.from-count.ensures)

pub gather_bodies-requires : goal.gather_bodies-requires
gather_bodies-requires c =
    gatherable _ c.requires c.from-count.ensures c.keep_rows.ensures

pub gather_rows-requires : goal.gather_rows-requires
gather_rows-requires c =
    offsets _ c.requires c.from-count.ensures c.keep_rows.ensures c.gather_bodies.ensures

pub overflow_add-low-2 : goal.overflow_add-low-2
overflow_add-low-2 c =
    omega (arith, inside _ c.requires c.from-count.ensures, few _ c.requires c.from-count.ensures, c.requires.sound.head.short)

pub clear_from-requires : goal.clear_from-requires
clear_from-requires c =
    let m = c.requires in
    let e = c.from-count.ensures in
    omega (arith, inside _ m e, few _ m e, long4 _ m e c.keep_rows.ensures c.gather_bodies.ensures c.gather_rows.ensures)

pub returns : goal.returns
returns c =
    closed _ c.requires c.from-count.ensures c.keep_rows.ensures c.gather_bodies.ensures c.gather_rows.ensures c.clear_from.ensures
